use Rattle.jr_bind.proofs.Keeping.{in_box}
use Rattle.jr_bind.proofs.boxes.supers_of.Goals as goal

pub returns-clause-direct : goal.returns-clause-direct
returns-clause-direct c = λ well. in_box _ _ (λ all. all.value) _ c.boxed.ensures (c.of.ensures.direct well)

pub returns-clause-all : goal.returns-clause-all
returns-clause-all c = λ well none. in_box _ _ (λ all. all.value) _ c.boxed.ensures (c.of.ensures.all well none)
