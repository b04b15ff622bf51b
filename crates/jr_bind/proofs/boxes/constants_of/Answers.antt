use Rattle.jr_bind.proofs.Keeping.{in_box}
use Rattle.jr_bind.proofs.boxes.constants_of.Goals as goal

pub returns : goal.returns
returns c = λ sized tree. in_box _ _ (λ all. all.value) _ c.boxed.ensures (c.of.ensures.whole sized tree)
