-- The text of a run of a program (JLS 12.1).
use Rattle.std.specs.Prelude.{◌≡◌, ℕ, Result, Ok, Err}
use Rattle.jr_base.specs.declared.text.Text.{Text}
use Rattle.jr_core.specs.declared.bodies.Core.{Core}
use Rattle.jr_core.specs.Mirror as m
use Rattle.jr_core.specs.Mirror.{plain_core}
use Rattle.jr_supers.specs.Tabled.{IsSized}
use Rattle.jr_dispatch.specs.Methods.{IsWholeWorld}
use Rattle.jr_marks.specs.Places.{IsOrdered}
use Rattle.jr_codes.specs.declared.source.Source.{Source}
use Rattle.jr_codes.specs.Numbered.{NumbersDeclarations}
use Rattle.jr_codes.specs.Reads.{facts, rows_of}
use Rattle.jr_elab.specs.Cores.{IsCoreOf}
use Rattle.jr_machine_defs.specs.declared.state.Ran.{Ran}
use Rattle.jr_machine_defs.specs.Steps.{IsRun}
use Rattle.jr_change.specs.declared.project.Project.{Project}
use Rattle.jr_change.specs.declared.reason.Reason.{Reason}
use Rattle.jr_view.specs.declared.View.{View}
use Rattle.jr_run.specs.declared.fault.RunFault.{RunFault}
use Rattle.jr_run.specs.declared.fault.RunFault.TheVariants as fault
use Rattle.jr_run.specs.Reports.{report_text}
use Rattle.jr_run.specs.Starting.{IsStartOf, rows_in, table_in}

-- the text is the report of what the machine prints of the core in so many steps, from a call of the method at a row
pub record IsTextOfCore (s : Source) (core : m.Core) (start n : ℕ) (text : Text) : Type 0 where
  pub ran : Ran
  pub runs : IsRun core ((facts s).decl start) n ran
  pub reports : text ≡ report_text (rows_of s) (facts s).decl ran

-- so it is of the core of the program, in which each declaration is known by its own number
pub record IsTextFrom (view : View) (start n : ℕ) (text : Text) : Type 0 where
  pub source : Source
  pub of_view : source.view.now ≡ view
  pub numbered : NumbersDeclarations (rows_of source) source.ids.now.nodes.items
  pub core : Core
  pub is_core : IsCoreOf (facts source) core
  pub runs : IsTextOfCore source (plain_core core) start n text

-- the tables of a program are those under its binding, no number in its rows is too large, and its marks are in order
pub record IsReadProject (project : Project) : Type 0 where
  pub whole : IsWholeWorld (table_in project.view.sight.world) project.view.sight.world
  pub sized : IsSized (rows_in project.view.sight.world)
  pub ordered : IsOrdered project.marks

-- the text of a run of the class that is named, or why there is none
pub data IsRunText (project : Project) (x : Text) (n : ℕ) : Result Text RunFault → Type 0 where
  text : {start : ℕ} {text : Text} → IsStartOf project x (Ok start) → IsTextFrom project.view start n text → IsRunText project x n (Ok text)
  bad : {reason : Reason} → IsStartOf project x (Err (fault.Bad reason)) → IsRunText project x n (Err (fault.Bad reason))
  no_memory : IsRunText project x n (Err fault.OutOfMemory)
