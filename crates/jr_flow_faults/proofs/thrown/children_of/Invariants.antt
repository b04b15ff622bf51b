use Rattle.std.proofs.Common.{length, ◌-◌}
use Rattle.jr_tree.specs.Tree.{IsTree}
use Rattle.jr_places.specs.Childs.{ChildrenTo}
use Rattle.jr_flow_faults.proofs.thrown.children_of.Given as goal

abbrev pub invariant-loop-turn : goal.invariant-loop-turn
invariant-loop-turn l = IsTree l.rows → ChildrenTo l.rows l.over (length l.rows - l._turn) l.at l.all.items
