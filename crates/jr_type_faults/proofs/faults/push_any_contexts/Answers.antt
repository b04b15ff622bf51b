use Rattle.std.proofs.Common.{◌∙◌, sym}
use Rattle.jr_type_faults.specs.Faults.{contexts}
use Rattle.jr_type_faults.proofs.Told.{only_start}
use Rattle.jr_type_faults.proofs.Passing.{contexts_passed}
use Rattle.jr_type_faults.proofs.faults.push_any_contexts.Goals as goal

pub returns-then-not-may_break_contexts-clause-exact : goal.returns-then-not-may_break_contexts-clause-exact
returns-then-not-may_break_contexts-clause-exact c = λ can. contexts_passed c.args.facts.now.view c.args.at c.args.out.now.items (sym c.may_break_contexts.ensures ∙ c.if-not-may_break_contexts.true)

pub returns-then-not-may_break_contexts-clause-only : goal.returns-then-not-may_break_contexts-clause-only
returns-then-not-may_break_contexts-clause-only c = only_start contexts c.args.out.now.items
