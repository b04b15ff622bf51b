use Rattle.std.proofs.Common.{drop, length}
use Rattle.jr_tree.specs.Rows.{Rows}
use Rattle.jr_places.specs.Places.{ArePlaces}
use Rattle.jr_members.specs.Each.{AreBelow}
use Rattle.jr_name_faults.specs.Ends.{all_opened, IsOpening}
use Rattle.jr_name_faults.proofs.ends.Ends.open_all.Given as goal

abbrev pub invariant-loop-row : goal.invariant-loop-row
invariant-loop-row l = (p : Rows) → ArePlaces p l.places → AreBelow (length p) l.rows → IsOpening p l.end (all_opened p l.end l.rows l.fn.self.ends.items) (drop l.row-index l.rows) l.self.ends.items
