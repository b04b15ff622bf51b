use Rattle.jr_defs.specs.Laws.{Picked}
use Rattle.jr_defs.proofs.Carry.{look_carries}
use Rattle.jr_defs.proofs.law.lookup_carries.Goals as goal

pub returns : goal.returns
returns c p q t u k l m n f g o o' x s a to from h = look_carries p t (Picked k) q u (Picked l) f g (Picked m) (Picked n) o o' x s to from a h
