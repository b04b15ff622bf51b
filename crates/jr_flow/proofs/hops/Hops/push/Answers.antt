use Rattle.std.proofs.Common.{refl}
use Rattle.jr_flow.proofs.Grouping.{hop_pushed}
use Rattle.jr_flow.proofs.hops.Hops.push.Goals as goal

pub returns : goal.returns
returns c = λ groups group right. hop_pushed c.args.self.now (record { firsts = c.args.self.now.firsts; all = c.push.new.self }) groups group c.args.hop right c.in_ok-push.ensures.items refl
