-- What a writer has added, if its memory never failed.
use Rattle.std.specs.Prelude.{◌≡◌, Bool, false, []}
use Rattle.jr_index.specs.declared.writer.RowWriter.{RowWriter}
use Rattle.jr_index.specs.Marking.{Course, run}
use Rattle.jr_index.specs.Events.{Events}
use Rattle.jr_index.specs.Views.{state}

abbrev pub course : RowWriter → Course
course w = record { building = state w.building; marks = w.marks.items; at = w.at; declared = w.declared }

pub record Written : Type 0 where
  pub has_failed : Bool
  pub course : Course

abbrev pub written : RowWriter → Written
written w = record { has_failed = w.has_failed; course = course w }

-- with the rest it is what all of this makes of what was there, unless memory has failed
pub record Leads (was is : Written) (rest all : Events) : Type 0 where
  pub done : is.has_failed ≡ false → (was.has_failed ≡ false) × (run is.course rest ≡ run was.course all)

abbrev pub Adds : RowWriter → RowWriter → Events → Type 0
Adds was is es = Leads (written was) (written is) [] es
