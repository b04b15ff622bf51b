use Rattle.std.proofs.Common.{ℕ, List}
use Rattle.jr_places.specs.Stamps.{IsStamping}
use Rattle.jr_flow.specs.Linked.{AreLinked}
use Rattle.jr_flow.specs.Woven.{HasBefore}
use Rattle.jr_flow.proofs.webs.put_list.Given as goal

abbrev pub invariant-loop-nth : goal.invariant-loop-nth
invariant-loop-nth l = (bound : ℕ) (all : List (ℕ × ℕ)) → AreLinked all l.links → IsStamping l.fn.set bound → HasBefore bound all l.links l.key l.nth l.set
