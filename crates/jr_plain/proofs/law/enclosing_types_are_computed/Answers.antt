use Rattle.jr_plain.proofs.Enclosed.{in_body_tells, innermost_finds, declared_in_tells, declaring_finds, constructor_tells, constructed_finds, top_level_tells, in_top_level_tells, same_top_level_tells}
use Rattle.jr_plain.proofs.Children.{declared_list}
use Rattle.jr_plain.proofs.OneUnit.{top_level_finds}
use Rattle.jr_plain.proofs.law.enclosing_types_are_computed.Goals as goal

pub returns : goal.returns
returns c = record {
  bodies = in_body_tells;
  innermost = innermost_finds;
  declared = declared_in_tells;
  declaring = declaring_finds;
  members = λ p k tree. declared_list p tree k;
  constructors = constructor_tells;
  constructed = constructed_finds;
  top_level = top_level_tells;
  in_top_level = in_top_level_tells;
  same_top_level = same_top_level_tells;
  one_top_level = λ p o local. top_level_finds p local o;
}
