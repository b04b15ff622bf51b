-- Where the rows of a tree stand among the tokens of their units: as labels open and close and tokens are passed.
use Rattle.std.specs.Prelude.{ℕ, ◌+◌, ◌-◌, Bool, true, false, if◌then◌else◌, nat_eq, List, [], ◌∷◌, ◌++◌, set, slice_index_or}
use Rattle.jr_base.specs.declared.text.Text.{Text}
use Rattle.jr_tree.specs.declared.label.Label.{Label}
use Rattle.jr_tree.specs.declared.label.Label.TheVariants as is
use Rattle.jr_tree.specs.Rows.{Rows, label}
use Rattle.jr_tree.specs.declared.tree.Unit as declared_unit
use Rattle.jr_index.specs.declared.mark.Mark.{Mark}
use Rattle.jr_index.specs.Events.{Event, Events, Open, Close, Pass, Own, OwnLast, Declare, Restart, program_events}
use Rattle.jr_index.specs.Building as rows
use Rattle.jr_index.specs.Building.{State}

-- the number of a token that is not there
abbrev pub no_token : ℕ
no_token = 4294967295

abbrev pub mark_at : List Mark → ℕ → Mark
mark_at ms n = slice_index_or ms n (record { first = no_token; after = no_token; own = no_token })

-- what is not written, and stands at the name of the constructor or class over it (JLS 8.8.7, 8.8.9)
abbrev pub is_hidden : Label → Bool
is_hidden is.ImplicitCall = true
is_hidden is.DefaultConstructor = true
is_hidden _ = false

abbrev pub with_own : List Mark → ℕ → ℕ → List Mark
with_own ms n token = set ms n (record (mark_at ms n) { own = token })

abbrev pub with_end : List Mark → ℕ → ℕ → List Mark
with_end ms n token = set ms n (record (mark_at ms n) { after = token })

-- the rows so far and their marks, how many tokens of the unit are passed, and the name that was declared last
pub record Course : Type 0 where
  pub building : State
  pub marks : List Mark
  pub at : ℕ
  pub declared : ℕ

abbrev pub opened_with : Label → Text → Mark → Course → Course
opened_with l name mark c = record { building = rows.opened l name c.building; marks = c.marks ++ mark ∷ []; at = c.at; declared = c.declared }

-- the innermost row that is open has this token
abbrev pub owned : ℕ → Course → Course
owned token c = record { building = c.building; marks = with_own c.marks c.building.over token; at = c.at; declared = c.declared }

-- a row that opens here, or at the name that was declared last
abbrev pub new_mark : Label → Course → Mark
new_mark l c = if is_hidden l then record { first = c.declared; after = c.declared; own = c.declared } else record { first = c.at; after = c.at; own = no_token }

abbrev pub step : Event → Course → Course
step (Open l name) c = opened_with l name (new_mark l c) c
step Close c = record { building = rows.closed c.building; marks = if is_hidden (label c.building.rows c.building.over) then c.marks else with_end c.marks c.building.over c.at; at = c.at; declared = c.declared }
step (Pass n) c = record { building = c.building; marks = c.marks; at = c.at + n; declared = c.declared }
step Own c = record { building = c.building; marks = with_own c.marks c.building.over c.at; at = c.at + 1; declared = c.declared }
step OwnLast c = owned (c.at - 1) c
step Declare c = record { building = c.building; marks = with_own c.marks c.building.over c.at; at = c.at + 1; declared = c.at }
step Restart c = record { building = c.building; marks = c.marks; at = if nat_eq c.building.over 0 then 0 else c.at; declared = c.declared }

abbrev pub run : Course → Events → Course
run c [] = c
run c (e ∷ es) = run (step e c) es

abbrev pub start : Course
start = record { building = rows.start; marks = []; at = 0; declared = 0 }

-- rows and their marks
pub record Marked : Type 0 where
  pub rows : Rows
  pub marks : List Mark

-- the marks of a program of these units
abbrev pub program_marks : List declared_unit.Unit → List Mark
program_marks units = (run start (program_events units)).marks
