use Rattle.jr_plain.proofs.Modified.{in_interface_tells, public_tells, protected_tells, private_tells, static_tells, final_tells, abstract_tells, inner_tells}
use Rattle.jr_plain.proofs.law.modifiers_are_computed.Goals as goal

pub returns : goal.returns
returns c = record {
  in_interface = in_interface_tells;
  publics = public_tells;
  protecteds = protected_tells;
  privates = private_tells;
  statics = static_tells;
  finals = final_tells;
  abstracts = abstract_tells;
  inners = inner_tells;
}
