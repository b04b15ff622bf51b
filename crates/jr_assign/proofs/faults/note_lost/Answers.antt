use Rattle.std.proofs.Common.{sym, ◌∙◌}
use Rattle.jr_assign.proofs.Unassigned.{reads_told}
use Rattle.jr_assign.proofs.faults.note_lost.Goals as goal

pub returns-clause-exact : goal.returns-clause-exact
returns-clause-exact c = λ tree lasts parts judged. reads_told c.args.rows.now c.args.facts.now (record { tree = tree; lasts = lasts; parts = parts }) c.args.verdicts.now judged (sym c.are_settled.ensures ∙ c.if-not-are_settled.false) _ _ c.in_ok-note_reads.ensures.found
