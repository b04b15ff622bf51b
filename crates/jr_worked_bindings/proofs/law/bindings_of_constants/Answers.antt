use Rattle.std.proofs.Common.{refl}
use Rattle.jr_worked_bindings.proofs.Bindings.{bound_and_settled}
use Rattle.jr_worked.specs.Constants as constants
use Rattle.jr_worked_bindings.proofs.law.bindings_of_constants.Goals as goal

pub returns : goal.returns
returns c = record {
  a_constant_label = bound_and_settled constants.a_constant_label refl refl;
  a_label_through_this = bound_and_settled constants.a_label_through_this refl refl;
  variables_that_need_each_other = bound_and_settled constants.variables_that_need_each_other refl refl;
  a_choice_of_byte_and_char = bound_and_settled constants.a_choice_of_byte_and_char refl refl;
  an_object_is_no_string = bound_and_settled constants.an_object_is_no_string refl refl;
}
