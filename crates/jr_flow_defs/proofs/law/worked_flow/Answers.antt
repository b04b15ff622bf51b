use Rattle.std.proofs.Common.{refl}
use Rattle.jr_flow_defs.specs.Worked as worked
use Rattle.jr_flow_defs.proofs.Checked.{has_edges}
use Rattle.jr_flow_defs.proofs.law.worked_flow.Goals as goal

pub returns : goal.returns
returns c = record {
  an_if_with_else = has_edges worked.an_if_with_else refl refl;
  a_while_with_break = has_edges worked.a_while_with_break refl refl;
  a_return_through_finally = has_edges worked.a_return_through_finally refl refl;
  a_call_that_throws = has_edges worked.a_call_that_throws refl refl;
  a_finally_that_breaks = has_edges worked.a_finally_that_breaks refl refl;
  a_for_with_continue = has_edges worked.a_for_with_continue refl refl;
  a_do_with_continue = has_edges worked.a_do_with_continue refl refl;
  a_switch_with_a_labeled_break = has_edges worked.a_switch_with_a_labeled_break refl refl;
  a_test_of_two_conditions = has_edges worked.a_test_of_two_conditions refl refl;
  a_finally_for_each_completion = has_edges worked.a_finally_for_each_completion refl refl;
  a_longer_name = has_edges worked.a_longer_name refl refl;
  elements_of_an_array = has_edges worked.elements_of_an_array refl refl;
}
