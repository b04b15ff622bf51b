use Rattle.std.proofs.Common.{◌∙◌}
use Rattle.jr_bind.proofs.Reached.{put_as}
use Rattle.jr_bind.proofs.rounds.put_next.Goals as goal

pub returns : goal.returns
returns c = λ bound counted. put_as bound _ _ _ _ _ _ (c.deref.ensures.value ∙ c.in_ok-next.ensures) (c.in_ok-put_all.ensures bound counted)
