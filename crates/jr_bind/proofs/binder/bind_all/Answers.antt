use Rattle.jr_bind.proofs.binder.bind_all.Goals as goal

pub returns-then-branch : goal.returns-then-branch
returns-then-branch c = λ late of. c.in_ok-is_binding_of.ensures (c.in_ok-bound.ensures.tables late) (c.in_ok-bound.ensures.bound late) of c.if-branch.true
