use Rattle.jr_pullup.proofs.Raising.{raised_as}
use Rattle.jr_pullup.proofs.pulling.raised.Goals as goal

pub returns-clause-ok : goal.returns-clause-ok
returns-clause-ok c = λ ordered within. raised_as c.args.marks.now c.args.pulled c.extent-span.result c.in_ok-draft.draft c.raised_by.result c.finish.result (c.extent-span.ensures ordered) (c.in_ok-draft.ensures.ok ordered within)
    (c.raised_by.ensures ordered.few within.method) c.finish.ensures
