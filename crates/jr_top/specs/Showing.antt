-- What is shown of files.
use Rattle.std.specs.Prelude.{◌≡◌, ℕ, List, length, Option, Some, Result, Ok, Err, ⊤}
use Rattle.jr_base.specs.Files.{FileMap}
use Rattle.jr_marks.specs.Made.{AreMade}
use Rattle.jr_read.specs.Reading.{ReadsAs}
use Rattle.jr_front.specs.Bound.{table_in, IsBoundIn, IsIndexed}
use Rattle.jr_front.specs.Checking.{CheckedAs}
use Rattle.jr_front.specs.Compiling.{Compiles}
use Rattle.jr_front.specs.Viewed.{HasTablesOfRows, IsViewOf}
use Rattle.jr_front.specs.declared.workspace.Workspace.{Workspace}
use Rattle.jr_change.specs.declared.project.Project.{Project}
use Rattle.jr_change.specs.declared.reason.ChangeFault.{ChangeFault}
use Rattle.jr_change.specs.declared.reason.ChangeFault.TheVariants as change
use Rattle.jr_report.specs.declared.kind.Report.{Report}
use Rattle.jr_report.specs.declared.kind.Report.TheVariants as report
use Rattle.jr_report.specs.Reports.{IsReportOf}
use Rattle.jr_request.specs.declared.command.Command.{Command}
use Rattle.jr_request.specs.declared.command.Command.TheVariants.{Run, Refs, Subtypes, Callers}
use Rattle.jr_run.specs.Runs.{IsRunText}
use Rattle.jr_run.specs.declared.fault.RunFault.{RunFault}
use Rattle.jr_run.specs.declared.fault.RunFault.TheVariants as run
use Rattle.jr_top.specs.declared.show_fault.ShowFault.{ShowFault}
use Rattle.jr_top.specs.declared.show_fault.ShowFault.TheVariants as fault
use Rattle.jr_top.specs.declared.showing.Question.{Question}
use Rattle.jr_top.specs.declared.showing.Question.TheVariants as question
use Rattle.jr_top.specs.declared.showing.Unanswered.{Unanswered}
use Rattle.jr_top.specs.declared.showing.Unanswered.TheVariants as unanswered

-- ---- runs

-- the files are read as the program, which has these rows and marks and compiles under its binding, and all its tables are those under this binding
pub record IsWorkspaceOf (found : FileMap) (w : Workspace) : Type 0 where
  pub reads : ReadsAs found (Ok w.program)
  pub compiles : Compiles found w.program (table_in w)
  pub indexed : IsIndexed w.program w.index.value
  pub bound : IsBoundIn w

-- the program of the files with its marks and tables
pub record IsProjectIn (found : FileMap) (project : Project) : Type 0 where
  pub workspace : Workspace
  pub of : IsWorkspaceOf found workspace
  pub made : AreMade workspace.program project.marks
  pub view : IsViewOf workspace.index.value.rows workspace.places.value workspace.scopes.value workspace.bound.value project.view

-- the text of a run of the class that is named, in at most so many steps, or why there is none, by the program of the files (JLS 12.1), whose
-- tables have of its rows what the definitions say
pub record IsRunOf (found : FileMap) (class : List ℕ) (steps : ℕ) (result : Result (List ℕ) RunFault) : Type 0 where
  pub project : Project
  pub of : IsProjectIn found project
  pub tables : HasTablesOfRows project.view
  pub runs : IsRunText project class steps result

-- ---- reports

-- the same, among the faults of changes
abbrev pub reported_as : Result (List ℕ) RunFault → Result (List ℕ) ChangeFault
reported_as (Ok text) = Ok text
reported_as (Err (run.Bad reason)) = Err (change.Bad reason)
reported_as (Err run.OutOfMemory) = Err change.OutOfMemory

-- the report on what stands at the offset of a file, or why there is none, by the program of the files, whose tables have of its rows what the
-- definitions say
pub record IsReportIn (found : FileMap) (what : Report) (file : List ℕ) (at : ℕ) (result : Result (List ℕ) RunFault) : Type 0 where
  pub project : Project
  pub of : IsProjectIn found project
  pub tables : HasTablesOfRows project.view
  pub reports : IsReportOf project what file at (reported_as result)

-- what a report comes to
abbrev pub ReportedAs : FileMap → Report → List ℕ → ℕ → Result (List ℕ) Unanswered → Type 0
ReportedAs found what file at (Ok text) = IsReportIn found what file at (Ok text)
ReportedAs found what file at (Err (unanswered.Bad reason)) = IsReportIn found what file at (Err (run.Bad reason))
ReportedAs found what file at (Err unanswered.OutOfMemory) = ⊤

-- ---- questions

-- the text, or the reason why there is none, answers the command
abbrev pub IsAnswerTo : Option Command → FileMap → Result (List ℕ) RunFault → Type 0
IsAnswerTo (Some (Run class steps)) found result = IsRunOf found class steps result
IsAnswerTo (Some (Refs file at)) found result = IsReportIn found report.References file at result
IsAnswerTo (Some (Subtypes file at)) found result = IsReportIn found report.Subtypes file at result
IsAnswerTo (Some (Callers file at)) found result = IsReportIn found report.Callers file at result
IsAnswerTo other found result = ⊤

-- the command asks the question
abbrev pub IsQuestionOf : Option Command → Question → Type 0
IsQuestionOf (Some (Run name count)) (question.Run class steps) = (class.now ≡ name) × (steps ≡ count)
IsQuestionOf (Some (Refs name offset)) (question.References file at) = (file.now ≡ name) × (at ≡ offset)
IsQuestionOf (Some (Subtypes name offset)) (question.Subtypes file at) = (file.now ≡ name) × (at ≡ offset)
IsQuestionOf (Some (Callers name offset)) (question.Callers file at) = (file.now ≡ name) × (at ≡ offset)
IsQuestionOf other asked = ⊥

-- what a question on files that compile comes to
abbrev pub AnsweredAs : Option Command → FileMap → Result (List ℕ) Unanswered → Type 0
AnsweredAs asked found (Ok text) = IsAnswerTo asked found (Ok text)
AnsweredAs asked found (Err (unanswered.Bad reason)) = IsAnswerTo asked found (Err (run.Bad reason))
AnsweredAs asked found (Err unanswered.OutOfMemory) = ⊤

-- Something is shown, or what is asked for cannot be, where the front accepts the files; else what the front says of them.
abbrev pub ShownAs : Option Command → FileMap → Result (List ℕ) ShowFault → Type 0
ShownAs asked found (Ok text) = CheckedAs found (Ok tt) × IsAnswerTo asked found (Ok text)
ShownAs asked found (Err (fault.Front why)) = CheckedAs found (Err why)
ShownAs asked found (Err (fault.Bad reason)) = CheckedAs found (Ok tt) × IsAnswerTo asked found (Err (run.Bad reason))
ShownAs asked found (Err fault.OutOfMemory) = ⊤
