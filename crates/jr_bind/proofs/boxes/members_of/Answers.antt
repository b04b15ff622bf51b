use Rattle.jr_bind.proofs.Keeping.{in_box}
use Rattle.jr_bind.proofs.boxes.members_of.Goals as goal

pub returns : goal.returns
returns c = λ sized seen. in_box _ _ (λ all. all.value) _ c.boxed.ensures (c.of.ensures sized seen)
