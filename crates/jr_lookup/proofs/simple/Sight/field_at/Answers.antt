use Rattle.std.proofs.Common.{◌+◌, arith}
use Rattle.jr_lookup.proofs.simple.Sight.field_at.Goals as goal

pub returns : goal.returns
returns c = λ t x k number named. c.field.ensures t x c.args.place k.sight_is.world (c.left_of.ensures.before t k.sight_is (k.seen (c.args.place + 1) (omega arith))) (c.left_of.ensures.value t k) number named
