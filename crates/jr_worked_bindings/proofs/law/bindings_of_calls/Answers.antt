use Rattle.std.proofs.Common.{refl}
use Rattle.jr_worked_bindings.proofs.Bindings.{bound_and_settled}
use Rattle.jr_worked.specs.Calls as calls
use Rattle.jr_worked_bindings.proofs.law.bindings_of_calls.Goals as goal

pub returns : goal.returns
returns c = record {
  the_most_specific_method = bound_and_settled calls.the_most_specific_method refl refl;
  no_most_specific_method = bound_and_settled calls.no_most_specific_method refl refl;
  arguments_are_widened = bound_and_settled calls.arguments_are_widened refl refl;
  the_search_stops_at_the_inner_class = bound_and_settled calls.the_search_stops_at_the_inner_class refl refl;
  the_first_of_abstract_methods = bound_and_settled calls.the_first_of_abstract_methods refl refl;
  the_method_that_is_not_abstract = bound_and_settled calls.the_method_that_is_not_abstract refl refl;
  an_interface_has_the_methods_of_object = bound_and_settled calls.an_interface_has_the_methods_of_object refl refl;
  calls_on_named_types = bound_and_settled calls.calls_on_named_types refl refl;
  an_interface_declares_a_method_of_object = bound_and_settled calls.an_interface_declares_a_method_of_object refl refl;
  two_abstract_methods_of_one_type = bound_and_settled calls.two_abstract_methods_of_one_type refl refl;
}
