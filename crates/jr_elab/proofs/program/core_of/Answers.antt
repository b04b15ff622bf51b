use Rattle.jr_elab.proofs.program.core_of.Goals as goal

pub returns : goal.returns
returns c = λ right. record { classes_are = c.in_ok-classes.ensures right.whole; bodies_are = c.in_ok-bodies.ensures right.reads }
