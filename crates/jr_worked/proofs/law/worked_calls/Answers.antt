use Rattle.std.proofs.Common.{refl}
use Rattle.jr_plain.proofs.Declared.{part_tells}
use Rattle.jr_worked.specs.Tables.{rows_of, table_of}
use Rattle.jr_worked.proofs.Checked.{looked_up}
use Rattle.jr_worked.specs.Calls as calls
use Rattle.jr_worked.proofs.law.worked_calls.Goals as goal

pub returns : goal.returns
returns c = record {
  the_most_specific_method = looked_up calls.the_most_specific_method refl;
  no_most_specific_method = looked_up calls.no_most_specific_method refl;
  arguments_are_widened = looked_up calls.arguments_are_widened refl;
  the_search_stops_at_the_inner_class = looked_up calls.the_search_stops_at_the_inner_class refl;
  the_first_of_abstract_methods = looked_up calls.the_first_of_abstract_methods refl;
  the_method_that_is_not_abstract = looked_up calls.the_method_that_is_not_abstract refl;
  an_interface_has_the_methods_of_object = looked_up calls.an_interface_has_the_methods_of_object refl;
  calls_on_named_types = looked_up calls.calls_on_named_types refl;
  calls_on_named_types_the_simple_name_is_a_part = (part_tells (rows_of calls.calls_on_named_types) (table_of calls.calls_on_named_types) 31).0 refl;
  calls_on_named_types_the_qualified_name_is_a_part = (part_tells (rows_of calls.calls_on_named_types) (table_of calls.calls_on_named_types) 33).0 refl;
  calls_on_named_types_the_package_before_the_type_is_a_part = (part_tells (rows_of calls.calls_on_named_types) (table_of calls.calls_on_named_types) 34).0 refl;
  an_interface_declares_a_method_of_object = looked_up calls.an_interface_declares_a_method_of_object refl;
  two_abstract_methods_of_one_type = looked_up calls.two_abstract_methods_of_one_type refl;
}
