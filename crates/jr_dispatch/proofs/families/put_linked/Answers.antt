use Rattle.std.proofs.Common.{◌∙◌}
use Rattle.jr_dispatch.proofs.Spreading.{put_as}
use Rattle.jr_dispatch.proofs.families.put_linked.Goals as goal

pub returns : goal.returns
returns c = λ bound counted. put_as bound _ _ _ _ _ _ (c.deref.ensures.value ∙ c.in_ok-linked.ensures) (c.in_ok-put_all.ensures bound counted)
