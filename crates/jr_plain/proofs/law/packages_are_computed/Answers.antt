use Rattle.jr_plain.proofs.Packaged.{in_unit_tells, in_package_tells, same_package_tells, type_of_package_tells}
use Rattle.jr_plain.proofs.OneUnit.{unit_finds}
use Rattle.jr_plain.proofs.law.packages_are_computed.Goals as goal

pub returns : goal.returns
returns c = record {
  units = in_unit_tells;
  one_unit = λ p o local. unit_finds p local o;
  packages = in_package_tells;
  same = same_package_tells;
  types = type_of_package_tells;
}
