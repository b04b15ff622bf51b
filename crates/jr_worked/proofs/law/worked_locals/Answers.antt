use Rattle.std.proofs.Common.{refl}
use Rattle.jr_worked.proofs.Checked.{looked_up}
use Rattle.jr_worked.specs.Locals as locals
use Rattle.jr_worked.proofs.law.worked_locals.Goals as goal

pub returns : goal.returns
returns c = record {
  a_parameter_hides_a_field = looked_up locals.a_parameter_hides_a_field refl;
  a_field_is_in_scope_in_a_method = looked_up locals.a_field_is_in_scope_in_a_method refl;
  a_local_is_in_scope_in_its_own_initializer = looked_up locals.a_local_is_in_scope_in_its_own_initializer refl;
  a_field_before_a_later_local = looked_up locals.a_field_before_a_later_local refl;
  a_local_in_the_next_initializer = looked_up locals.a_local_in_the_next_initializer refl;
  a_local_of_a_for_header = looked_up locals.a_local_of_a_for_header refl;
  a_field_behind_a_for = looked_up locals.a_field_behind_a_for refl;
  a_local_of_an_earlier_switch_group = looked_up locals.a_local_of_an_earlier_switch_group refl;
  a_parameter_of_a_catch = looked_up locals.a_parameter_of_a_catch refl;
  labels_do_not_shadow = looked_up locals.labels_do_not_shadow refl;
  two_parameters_of_one_name = looked_up locals.two_parameters_of_one_name refl;
}
