use Rattle.std.proofs.Common.{refl}
use Rattle.jr_plain.proofs.Modified.{public_tells}
use Rattle.jr_worked.specs.Tables.{rows_of}
use Rattle.jr_worked.proofs.Checked.{looked_up}
use Rattle.jr_worked.specs.Creations as creations
use Rattle.jr_worked.proofs.law.worked_creations.Goals as goal

pub returns : goal.returns
returns c = record {
  an_inherited_inner_class = looked_up creations.an_inherited_inner_class refl;
  an_inner_class_of_no_enclosing_one = looked_up creations.an_inner_class_of_no_enclosing_one refl;
  a_default_constructor = looked_up creations.a_default_constructor refl;
  no_constructor_for_the_implicit_call = looked_up creations.no_constructor_for_the_implicit_call refl;
  a_constructor_of_another_name = looked_up creations.a_constructor_of_another_name refl;
  a_class_of_an_interface = looked_up creations.a_class_of_an_interface refl;
  a_class_of_an_interface_the_constructor_is_public = (public_tells (rows_of creations.a_class_of_an_interface) 16).0 refl;
  a_private_inner_class = looked_up creations.a_private_inner_class refl;
  a_protected_constructor = looked_up creations.a_protected_constructor refl;
}
