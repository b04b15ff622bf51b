use Rattle.std.proofs.Common.{refl}
use Rattle.jr_inline.proofs.Comparing.{same_comparison}
use Rattle.jr_inline.proofs.retyped.Retyping.of.Goals as goal

pub returns : goal.returns
returns c = same_comparison _ _ _ _ _ _ _ _ _ _ refl refl c.deref.ensures.value c.deref-2.ensures.value c.rows_of.ensures
