use Rattle.std.proofs.Common.{◌+◌, arith}
use Rattle.jr_lookup.proofs.simple.Sight.receiver_at.Goals as goal

pub returns : goal.returns
returns c = λ t k. c.receiver.ensures t c.args.place k.sight_is.world (c.left_of.ensures.before t k.sight_is (k.seen (c.args.place + 1) (omega arith))) (c.left_of.ensures.value t k)
