use Rattle.std.proofs.Common.{[]}
use Rattle.jr_supers.specs.Order.{HasNoLoop, IsSearching, searching, turns_left}
use Rattle.jr_supers.proofs.ordering.ordered.Given as goal

abbrev pub decreases-loop-top : goal.decreases-loop-top
decreases-loop-top l = turns_left l.rows l.supers l.met.items l.waiting.items

abbrev pub invariant-loop-top : goal.invariant-loop-top
invariant-loop-top l = HasNoLoop l.supers → IsSearching l.rows l.supers (searching l.fn.met.items l.fn.waiting.items []) → IsSearching l.rows l.supers (searching l.met.items l.waiting.items l.order.items)
