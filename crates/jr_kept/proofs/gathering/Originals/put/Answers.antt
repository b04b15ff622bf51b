use Rattle.jr_kept.proofs.Uses.{original_added}
use Rattle.jr_kept.proofs.gathering.Originals.put.Goals as goal

pub returns : goal.returns
returns c = λ bound h. original_added c.args.self.now (record { met = c.add.new.self; all = c.push.new.self }) bound c.args.row c.add.result h (c.add.ensures bound h.counted) c.in_ok-push.ensures.items
