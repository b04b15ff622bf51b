use Rattle.std.proofs.Common.{sym, ◌∙◌}
use Rattle.std.proofs.lemmas.Option.{none-some}
use Rattle.jr_flow.proofs.Gets.{got}
use Rattle.jr_flow.proofs.states.States.note_at.Goals as goal

pub returns-in-Some-clause-done : goal.returns-in-Some-clause-done
returns-in-Some-clause-done c = λ m before groups coded lt noted reached. let at_k = sym c.way_at.ensures ∙ c.in-Some.is in c.note.ensures.done m before groups c.args.ways.now c.args.nth coded noted at_k (reached c.args.nth c.in-Some.way at_k)

pub returns-in-None-clause-done : goal.returns-in-None-clause-done
returns-in-None-clause-done c = λ m before groups coded lt noted reached. let one = got c.args.ways.now c.args.nth lt in absurd (none-some one.0 (sym c.in-None.is ∙ c.way_at.ensures ∙ one.1))

pub returns-in-Some-clause-large : goal.returns-in-Some-clause-large
returns-in-Some-clause-large c = λ m before groups coded lt noted reached. let at_k = sym c.way_at.ensures ∙ c.in-Some.is in c.note.ensures.large m before groups c.args.ways.now c.args.nth coded noted at_k (reached c.args.nth c.in-Some.way at_k)
