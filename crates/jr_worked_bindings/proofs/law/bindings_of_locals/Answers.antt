use Rattle.std.proofs.Common.{refl}
use Rattle.jr_worked_bindings.proofs.Bindings.{bound_and_settled}
use Rattle.jr_worked.specs.Locals as locals
use Rattle.jr_worked_bindings.proofs.law.bindings_of_locals.Goals as goal

pub returns : goal.returns
returns c = record {
  a_parameter_hides_a_field = bound_and_settled locals.a_parameter_hides_a_field refl refl;
  a_field_is_in_scope_in_a_method = bound_and_settled locals.a_field_is_in_scope_in_a_method refl refl;
  a_local_is_in_scope_in_its_own_initializer = bound_and_settled locals.a_local_is_in_scope_in_its_own_initializer refl refl;
  a_field_before_a_later_local = bound_and_settled locals.a_field_before_a_later_local refl refl;
  a_local_in_the_next_initializer = bound_and_settled locals.a_local_in_the_next_initializer refl refl;
  a_local_of_a_for_header = bound_and_settled locals.a_local_of_a_for_header refl refl;
  a_field_behind_a_for = bound_and_settled locals.a_field_behind_a_for refl refl;
  a_local_of_an_earlier_switch_group = bound_and_settled locals.a_local_of_an_earlier_switch_group refl refl;
  a_parameter_of_a_catch = bound_and_settled locals.a_parameter_of_a_catch refl refl;
  labels_do_not_shadow = bound_and_settled locals.labels_do_not_shadow refl refl;
  two_parameters_of_one_name = bound_and_settled locals.two_parameters_of_one_name refl refl;
}
