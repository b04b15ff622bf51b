use Rattle.std.proofs.Common.{◌<◌, ◌+◌, ◌^◌, length}
use Rattle.jr_tree.specs.Tree.{IsTree}
use Rattle.jr_lookup.specs.Behind.{type_in, IsArguing}
use Rattle.jr_lookup.proofs.look.arguments_from.Given as goal

abbrev pub invariant-loop-turn : goal.invariant-loop-turn
invariant-loop-turn l = length l.rows + 3 < 2 ^ 32 → IsTree l.rows → l.place < l.first → IsArguing l.rows (type_in l.types) l.place l.first l._turn l.child l.all.items
