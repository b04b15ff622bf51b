use Rattle.std.proofs.Common.{refl}
use Rattle.jr_worked_bindings.proofs.Bindings.{bound_and_settled}
use Rattle.jr_worked.specs.Creations as creations
use Rattle.jr_worked_bindings.proofs.law.bindings_of_creations.Goals as goal

pub returns : goal.returns
returns c = record {
  an_inherited_inner_class = bound_and_settled creations.an_inherited_inner_class refl refl;
  an_inner_class_of_no_enclosing_one = bound_and_settled creations.an_inner_class_of_no_enclosing_one refl refl;
  a_default_constructor = bound_and_settled creations.a_default_constructor refl refl;
  no_constructor_for_the_implicit_call = bound_and_settled creations.no_constructor_for_the_implicit_call refl refl;
  a_constructor_of_another_name = bound_and_settled creations.a_constructor_of_another_name refl refl;
  a_class_of_an_interface = bound_and_settled creations.a_class_of_an_interface refl refl;
  a_private_inner_class = bound_and_settled creations.a_private_inner_class refl refl;
  a_protected_constructor = bound_and_settled creations.a_protected_constructor refl refl;
}
