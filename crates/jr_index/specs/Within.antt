-- The law of marks: there is one for each row, and a row that is written stands inside the row over it.
use Rattle.std.specs.Prelude.{◌≡◌, ℕ, ◌<◌, ◌≤◌, false, List, length}
use Rattle.jr_tree.specs.declared.tree.Unit as declared_unit
use Rattle.jr_tree.specs.Rows.{Rows, label, parent, program_rows}
use Rattle.jr_index.specs.declared.mark.Mark.{Mark}
use Rattle.jr_index.specs.Marking.{mark_at, is_hidden, program_marks}

-- both are written, and the parent is not the program, which stands in no unit
pub record IsWritten (p : Rows) (n : ℕ) : Type 0 where
  pub below : 0 < parent p n
  pub row : is_hidden (label p n) ≡ false
  pub over : is_hidden (label p (parent p n)) ≡ false

pub record AreWithin (p : Rows) (ms : List Mark) : Type 0 where
  pub many : length ms ≡ length p
  pub whole : (n : ℕ) → n < length p → 0 < n → is_hidden (label p n) ≡ false → (mark_at ms n).first ≤ (mark_at ms n).after
  pub begins : (n : ℕ) → n < length p → IsWritten p n → (mark_at ms (parent p n)).first ≤ (mark_at ms n).first
  pub ends : (n : ℕ) → n < length p → IsWritten p n → (mark_at ms n).after ≤ (mark_at ms (parent p n)).after

-- the law
abbrev pub MarksAreWithin : Type 0
MarksAreWithin = (units : List declared_unit.Unit) → AreWithin (program_rows units) (program_marks units)
