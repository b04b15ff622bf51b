use Rattle.jr_inline.specs.Inlining.{course_of, draft_of, plan_by}
use Rattle.jr_inline.proofs.Answering.{finished_by}
use Rattle.jr_inline.proofs.inlining.inlined.Goals as goal

pub returns-clause-ok : goal.returns-clause-ok
returns-clause-ok c = λ ordered. finished_by c.in_ok-draft.draft (draft_of c.args.marks.now (plan_by c.args.inlining.now)) (course_of c.args.inlining.now.local) c.finish_as.result (c.in_ok-draft.ensures ordered) c.finish_as.ensures
