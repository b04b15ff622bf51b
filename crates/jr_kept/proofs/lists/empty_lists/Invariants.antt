use Rattle.std.proofs.Common.{◌≡◌, [], map, replicate}
use Rattle.jr_kept.proofs.lists.empty_lists.Given as goal

abbrev pub invariant-loop-list : goal.invariant-loop-list
invariant-loop-list l = map (λ list. list.items) l.lists.items ≡ replicate l._list []
