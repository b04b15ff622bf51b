use Rattle.std.proofs.Common.{map, subst, IfOk}
use Rattle.jr_flow.specs.Linked.{AreLinked}
use Rattle.jr_flow.proofs.webs.links_before.Goals as goal

pub returns : goal.returns
returns c = subst (λ xs. IfOk c.of.result (AreLinked xs)) c.in_ok-pairs.ensures c.of.ensures
