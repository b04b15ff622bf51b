use Rattle.std.proofs.Common.{◌≡◌, ◌≤◌, length}
use Rattle.jr_flow.specs.Linked.{firsts_in, items_in, HaveBegun}
use Rattle.jr_flow.proofs.links.Links.begin.Given as goal

abbrev pub invariant-loop-list : goal.invariant-loop-list
invariant-loop-list l = (items_in l.self ≡ items_in l.fn.self) × (length (firsts_in l.self) ≡ l._list) × HaveBegun (firsts_in l.fn.self) (firsts_in l.self) l.number (length (items_in l.fn.self))
