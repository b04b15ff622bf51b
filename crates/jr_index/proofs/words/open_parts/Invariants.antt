use Rattle.std.proofs.Common.{◌≤◌, length}
use Rattle.jr_index.specs.Events as e
use Rattle.jr_index.specs.Writing.{written, Leads}
use Rattle.jr_index.proofs.words.open_parts.Given as goal

abbrev pub invariant-loop-left : goal.invariant-loop-left
invariant-loop-left l = (l.left ≤ length l.parts) × (Leads (written l.initial.out) (written l.out) (e.opens l.meant l.place l.parts l.left) (e.opens l.meant l.place l.parts (length l.parts)))

abbrev pub decreases-loop-left : goal.decreases-loop-left
decreases-loop-left l = l.left
