use Rattle.std.proofs.Common.{sym, ◌∙◌}
use Rattle.jr_assign.proofs.Made.{blanks_told}
use Rattle.jr_assign.proofs.faults.note_left.Goals as goal

pub returns-clause-exact : goal.returns-clause-exact
returns-clause-exact c = λ f tree lasts parts judged. blanks_told c.args.rows.now f c.args.verdicts.now (sym c.are_fields_settled.ensures ∙ c.if-not-are_fields_settled.false) _ _ c.in_ok-note_blanks.ensures.found (record { tree = tree; lasts = lasts; parts = parts }) judged
