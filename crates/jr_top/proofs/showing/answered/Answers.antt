use Rattle.jr_top.proofs.Shown.{run_answered, references_answered, subtypes_answered, callers_answered}
use Rattle.jr_top.proofs.showing.answered.Goals as goal

pub returns-in-Run : goal.returns-in-Run
returns-in-Run c = λ asked found is of. run_answered asked found _ _ _ _ c.in-Run.is is
    (c.printed.ensures found (record { workspace = c.args.workspace.now; of = of; made = c.marks.ensures.made of.indexed.rows of.indexed.marks; view = c.view.ensures.all }))

pub returns-in-References : goal.returns-in-References
returns-in-References c = λ asked found is of. references_answered asked found _ _ _ _ c.in-References.is is
    (c.reported.ensures found (record { workspace = c.args.workspace.now; of = of; made = c.marks.ensures.made of.indexed.rows of.indexed.marks; view = c.view.ensures.all }))

pub returns-in-Subtypes : goal.returns-in-Subtypes
returns-in-Subtypes c = λ asked found is of. subtypes_answered asked found _ _ _ _ c.in-Subtypes.is is
    (c.reported-in-Subtypes.ensures found (record { workspace = c.args.workspace.now; of = of; made = c.marks.ensures.made of.indexed.rows of.indexed.marks; view = c.view.ensures.all }))

pub returns-in-Callers : goal.returns-in-Callers
returns-in-Callers c = λ asked found is of. callers_answered asked found _ _ _ _ c.in-Callers.is is
    (c.reported-in-Callers.ensures found (record { workspace = c.args.workspace.now; of = of; made = c.marks.ensures.made of.indexed.rows of.indexed.marks; view = c.view.ensures.all }))
