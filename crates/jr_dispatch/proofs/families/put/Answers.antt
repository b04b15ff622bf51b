use Rattle.jr_dispatch.proofs.Spreading.{put_one}
use Rattle.jr_dispatch.proofs.families.put.Goals as goal

pub returns : goal.returns
returns c = λ bound counted. put_one bound c.args.at _ _ _ _ _ (c.add-is_new.ensures bound counted) c.in_ok-push_if.ensures
