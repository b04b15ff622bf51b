use Rattle.std.proofs.Common.{◌∙◌}
use Rattle.jr_assign.proofs.Unassigned.{all_judged}
use Rattle.jr_assign.proofs.faults.read_faults.Goals as goal

pub returns-clause-exact : goal.returns-clause-exact
returns-clause-exact c = λ tree lasts parts. c.note_lost.ensures.exact tree lasts parts
    (all_judged c.args.rows.now c.args.facts.now _ _ _ _ (c.deref.ensures.value ∙ c.in_ok-members.ensures) c.in_ok-verdicts.ensures c.in_ok-judge_locals.ensures c.deref-2.ensures.value)
