use Rattle.jr_draft.specs.Asking.{rows_of}
use Rattle.jr_inline.proofs.Comparing.{inline_so, other_so}
use Rattle.jr_inline.proofs.retyped.first_retyped.Goals as goal

pub returns-in-Some : goal.returns-in-Some
returns-in-Some c = inline_so c.args.old.now c.args.new.now c.args.locks.now c.args.change.now c.in-Some.local c.inlined_local.result c.first.result c.of-retyping.result
    c.inlined_local.ensures c.in-Some.is c.of-retyping.ensures c.first.ensures

pub returns-in-None : goal.returns-in-None
returns-in-None c = λ before after are. other_so (rows_of c.args.old.now) c.args.change.now before after c.args.new.now.marks c.inlined_local.result c.inlined_local.ensures c.in-None.is
