use Rattle.std.proofs.Common.{refl}
use Rattle.jr_headers.proofs.Told.{cycle_of_is}
use Rattle.jr_worked_bindings.proofs.Bindings.{no_binding}
use Rattle.jr_worked_bindings.proofs.Formed as formed
use Rattle.jr_worked_bindings.specs.Cycles as cycles
use Rattle.jr_worked_bindings.proofs.law.cyclic_programs.Goals as goal

pub returns : goal.returns
returns c = record {
  two_classes_extend_each_other = refl;
  two_classes_extend_each_other_first = cycle_of_is cycles.two_classes_extend_each_other formed.two_classes_extend_each_other 10 refl;
  two_classes_extend_each_other_has_no_binding = λ t. no_binding cycles.two_classes_extend_each_other t 10 formed.two_classes_extend_each_other refl;
  a_cycle_through_an_import = refl;
  a_cycle_through_an_import_first = cycle_of_is cycles.a_cycle_through_an_import formed.a_cycle_through_an_import 12 refl;
  a_cycle_through_an_import_has_no_binding = λ t. no_binding cycles.a_cycle_through_an_import t 12 formed.a_cycle_through_an_import refl;
  a_class_extends_its_member = refl;
  a_class_extends_its_member_first = cycle_of_is cycles.a_class_extends_its_member formed.a_class_extends_its_member 10 refl;
  a_class_extends_its_member_has_no_binding = λ t. no_binding cycles.a_class_extends_its_member t 10 formed.a_class_extends_its_member refl;
  a_cycle_through_a_qualifier = refl;
  a_cycle_through_a_qualifier_first = cycle_of_is cycles.a_cycle_through_a_qualifier formed.a_cycle_through_a_qualifier 10 refl;
  a_cycle_through_a_qualifier_has_no_binding = λ t. no_binding cycles.a_cycle_through_a_qualifier t 10 formed.a_cycle_through_a_qualifier refl;
  a_cycle_through_a_later_name = refl;
  a_cycle_through_a_later_name_first = cycle_of_is cycles.a_cycle_through_a_later_name formed.a_cycle_through_a_later_name 10 refl;
  a_cycle_through_a_later_name_has_no_binding = λ t. no_binding cycles.a_cycle_through_a_later_name t 10 formed.a_cycle_through_a_later_name refl;
}
