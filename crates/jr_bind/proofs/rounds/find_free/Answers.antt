use Rattle.std.proofs.Common.{[]}
use Rattle.jr_bind.proofs.rounds.find_free.Goals as goal

pub loop-place-preserved : goal.loop-place-preserved
loop-place-preserved c = λ bound h. let w = c.loop-place.invariant bound h in (w.0, c.in_ok-put_if_free.ensures c.args.edges.now bound w.0 [] w.1)
