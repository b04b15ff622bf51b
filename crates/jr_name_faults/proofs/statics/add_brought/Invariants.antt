use Rattle.std.proofs.Common.{drop, length}
use Rattle.jr_tree.specs.Rows.{Rows}
use Rattle.jr_places.specs.Places.{ArePlaces}
use Rattle.jr_members.specs.Each.{AreBelow}
use Rattle.jr_name_faults.specs.Statics.{with_rows, IsAdding}
use Rattle.jr_name_faults.proofs.statics.add_brought.Given as goal

abbrev pub invariant-loop-class : goal.invariant-loop-class
invariant-loop-class l = (p : Rows) → ArePlaces p l.places → AreBelow (length p) l.classes
    → IsAdding p (λ d. d) l.unit (with_rows p (λ d. d) l.unit l.classes l.fn.types.rows) (drop l.class-index l.classes) l.types.rows
    × IsAdding p (λ d. l.source) l.unit (with_rows p (λ d. l.source) l.unit l.classes l.fn.sources.rows) (drop l.class-index l.classes) l.sources.rows
