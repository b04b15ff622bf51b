-- Rows from a list of labels that open and close.
use Rattle.std.specs.Prelude.{ℕ, [], ◌∷◌, ◌++◌, length, set}
use Rattle.jr_base.specs.declared.text.Text.{Text}
use Rattle.jr_tree.specs.declared.label.Label.{Label}
use Rattle.jr_tree.specs.Rows.{Rows, row, parent}
use Rattle.jr_index.specs.Events.{Event, Open, Close, Events}

-- the rows so far, the innermost one that is open, and the one that opened or closed last
pub record State : Type 0 where
  pub rows : Rows
  pub over : ℕ
  pub before : ℕ

abbrev pub opened : Label → Text → State → State
opened l name s = record {
  rows = s.rows ++ record { label = l; name = name; parent = s.over; end = length s.rows; previous = s.before } ∷ [];
  over = length s.rows;
  before = length s.rows;
}

abbrev pub closed : State → State
closed s = record { rows = set s.rows s.over (record (row s.rows s.over) { end = length s.rows }); over = parent s.rows s.over; before = s.over }

abbrev pub step : Event → State → State
step (Open l name) s = opened l name s
step Close s = closed s
step _ s = s

abbrev pub built : State → Events → State
built s [] = s
built s (e ∷ es) = built (step e s) es

abbrev pub start : State
start = record { rows = []; over = 0; before = 0 }
