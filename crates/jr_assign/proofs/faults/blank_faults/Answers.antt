use Rattle.jr_assign.proofs.Made.{fields_judged}
use Rattle.jr_assign.proofs.faults.blank_faults.Goals as goal

pub returns-clause-exact : goal.returns-clause-exact
returns-clause-exact c = λ tree lasts parts. c.note_left.ensures.exact c.args.facts.now tree lasts parts
    (fields_judged c.args.rows.now c.args.facts.now _ _ _ c.in_ok-verdicts.ensures c.in_ok-judge_fields.ensures c.deref.ensures.value)
