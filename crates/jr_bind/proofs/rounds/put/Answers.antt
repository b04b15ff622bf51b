use Rattle.jr_bind.proofs.Reached.{put_one}
use Rattle.jr_bind.proofs.rounds.put.Goals as goal

pub returns : goal.returns
returns c = λ bound counted. put_one bound c.args.at _ _ _ _ _ (c.add-is_new.ensures bound counted) c.in_ok-push_if.ensures
