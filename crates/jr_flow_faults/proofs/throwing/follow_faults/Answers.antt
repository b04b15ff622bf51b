use Rattle.std.proofs.Common.{sym, ◌∙◌, subst, length, ◌<◌, ◌^◌}
use Rattle.std.proofs.lemmas.Result.{on_ok_weaker}
use Rattle.jr_flow_faults.specs.declared.throwing.Reading as code
use Rattle.jr_flow_faults.specs.Roots.{HasOneOfEach}
use Rattle.jr_flow_faults.proofs.Readings.{reading_told, uncaught_same, unthrown_same}
use Rattle.jr_flow_faults.proofs.throwing.follow_faults.Goals as goal

-- what is read
abbrev reading_in : goal.After-drop-guards → code.Reading
reading_in c = record { view = c.args.view; around = c.args.around; guards = c.deref.result; catches = c.args.catches; roots = c.of.result }

pub returns-clause-uncaught : goal.returns-clause-uncaught
returns-clause-uncaught c = λ right around catches. let few = subst (λ r. length r < 2 ^ 32) (sym around.rows_are) right.sized.few in on_ok_weaker c.note_all.result (λ h. uncaught_same (reading_in c) right around h)
    (c.note_all.ensures.uncaught (reading_told (reading_in c) right around (c.of.ensures few (subst HasOneOfEach (sym around.rows_are) right.roots)) (c.deref.ensures.value ∙ c.in_ok-guards.ensures few) catches))

pub returns-clause-unthrown : goal.returns-clause-unthrown
returns-clause-unthrown c = λ right around catches. let few = subst (λ r. length r < 2 ^ 32) (sym around.rows_are) right.sized.few in on_ok_weaker c.note_all.result (λ h. unthrown_same (reading_in c) right around h)
    (c.note_all.ensures.unthrown (reading_told (reading_in c) right around (c.of.ensures few (subst HasOneOfEach (sym around.rows_are) right.roots)) (c.deref.ensures.value ∙ c.in_ok-guards.ensures few) catches))
