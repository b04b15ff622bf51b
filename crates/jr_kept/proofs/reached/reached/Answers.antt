use Rattle.std.proofs.Common.{◌≡◌, sym, arith, subst, length}
use Rattle.jr_flow.specs.Reached.{steps_of}
use Rattle.jr_kept.specs.Pruned.{AreArrived}
use Rattle.jr_kept.specs.Searched.{AreWays}
use Rattle.jr_kept.proofs.Coming.{arriving_ends}
use Rattle.jr_kept.proofs.reached.reached.Goals as goal

pub returns : goal.returns
returns c = let graph = c.args.graph.now in let steps = steps_of graph in let count : c.len.result ≡ length graph.points.items = omega (arith, c.len.ensures, graph.points.ok.0) in
    subst (λ n. AreArrived c.finish.new.self.met n steps) count
    (arriving_ends c.len.result steps c.finish.new.self.met (c.in_ok-finish.ensures c.len.result steps (subst (λ n. AreWays c.in_ok-ways.ways n steps) (sym count) c.in_ok-ways.ensures) (c.in_ok-arriving.ensures steps)))
