-- The project of files, and what a question on it comes to.
use Rattle.std.proofs.Common.{◌≡◌, refl, sym, ◌∙◌, ap, subst, ℕ, List, Option, Some, None, Result, Ok, Err}
use Rattle.std.specs.Borrow.{Bor}
use Rattle.jr_base.specs.Files.{FileMap}
use Rattle.jr_front.specs.Viewed.{HasTablesOfRows}
use Rattle.jr_front.proofs.Refusals.{ordered_so}
use Rattle.jr_front.proofs.Testable.{tables_view}
use Rattle.jr_front.proofs.Viewed.{seen_view, whole_view}
use Rattle.jr_marks.specs.Places.{IsOrdered}
use Rattle.jr_change.specs.declared.project.Project.{Project}
use Rattle.jr_request.specs.declared.command.Command.{Command}
use Rattle.jr_request.specs.declared.command.Command.TheVariants.{Check, Run, Refs, Subtypes, Callers}
use Rattle.jr_report.specs.declared.kind.Report.TheVariants as report
use Rattle.jr_run.specs.Runs.{IsReadProject}
use Rattle.jr_top.specs.Showing.{AnsweredAs, IsProjectIn, IsQuestionOf, ReportedAs}
use Rattle.jr_top.specs.declared.showing.Question.{Question}
use Rattle.jr_top.specs.declared.showing.Question.TheVariants as question
use Rattle.jr_top.specs.declared.showing.Unanswered.{Unanswered}
use Rattle.jr_top.specs.declared.showing.Unanswered.TheVariants as unanswered

-- ---- the project

-- its marks are in order
pub project_ordered : (found : FileMap) (project : Project) → IsProjectIn found project → IsOrdered project.marks
project_ordered found project is = ordered_so is.workspace.program is.workspace.index.value project.marks is.of.indexed is.made

-- what runs and reports read of the project is right
pub read_project : (found : FileMap) (project : Project) → IsProjectIn found project → IsReadProject project
read_project found project is = record {
  whole = whole_view is.workspace project.view is.of.bound is.view;
  sized = (seen_view is.workspace project.view is.of.bound is.view).sized;
  ordered = project_ordered found project is;
}

pub project_tables : (found : FileMap) (project : Project) → IsProjectIn found project → HasTablesOfRows project.view
project_tables found project is = tables_view is.workspace project.view is.of.bound is.view

-- ---- questions

pub no_check : (asked : Option Command) (q : Question) → IsQuestionOf asked q → asked ≡ Some Check → ⊥
no_check asked q is same = subst (λ a. IsQuestionOf a q) same is

-- what each command asks
asked_by : {command one : Command} {q r : Question} → command ≡ one → q ≡ r → IsQuestionOf (Some one) r → IsQuestionOf (Some command) q
asked_by {command} {one} {q} {r} is same asks = subst (λ x. IsQuestionOf (Some x) q) (sym is) (subst (IsQuestionOf (Some one)) (sym same) asks)

pub run_asked : {command : Command} {name : List ℕ} {count : ℕ} {class : Bor (List ℕ)} → command ≡ Run name count → class.now ≡ name → (q : Question) → q ≡ question.Run class count → IsQuestionOf (Some command) q
run_asked is named q same = asked_by is same (named, refl)

pub references_asked : {command : Command} {name : List ℕ} {offset : ℕ} {file : Bor (List ℕ)} → command ≡ Refs name offset → file.now ≡ name → (q : Question) → q ≡ question.References file offset → IsQuestionOf (Some command) q
references_asked is named q same = asked_by is same (named, refl)

pub subtypes_asked : {command : Command} {name : List ℕ} {offset : ℕ} {file : Bor (List ℕ)} → command ≡ Subtypes name offset → file.now ≡ name → (q : Question) → q ≡ question.Subtypes file offset → IsQuestionOf (Some command) q
subtypes_asked is named q same = asked_by is same (named, refl)

pub callers_asked : {command : Command} {name : List ℕ} {offset : ℕ} {file : Bor (List ℕ)} → command ≡ Callers name offset → file.now ≡ name → (q : Question) → q ≡ question.Callers file offset → IsQuestionOf (Some command) q
callers_asked is named q same = asked_by is same (named, refl)

-- a run is that of the command
run_command : (asked : Option Command) (class : Bor (List ℕ)) (steps : ℕ) → IsQuestionOf asked (question.Run class steps) → Some (Run class.now steps) ≡ asked
run_command None class steps is = absurd is
run_command (Some (Run name count)) class steps is = ap (λ x. Some (Run x steps)) is.0 ∙ ap (λ k. Some (Run name k)) is.1
run_command (Some other) class steps is = absurd is

pub run_answered : (asked : Option Command) (found : FileMap) (class : Bor (List ℕ)) (steps : ℕ) (q : Question) (result : Result (List ℕ) Unanswered) → q ≡ question.Run class steps → IsQuestionOf asked q
    → AnsweredAs (Some (Run class.now steps)) found result → AnsweredAs asked found result
run_answered asked found class steps q result same is answer = subst (λ a. AnsweredAs a found result) (run_command asked class steps (subst (IsQuestionOf asked) same is)) answer

-- ---- reports

references_command : (asked : Option Command) (file : Bor (List ℕ)) (at : ℕ) → IsQuestionOf asked (question.References file at) → Some (Refs file.now at) ≡ asked
references_command None file at is = absurd is
references_command (Some (Refs name offset)) file at is = ap (λ x. Some (Refs x at)) is.0 ∙ ap (λ k. Some (Refs name k)) is.1
references_command (Some other) file at is = absurd is

references_reported : (found : FileMap) (file : List ℕ) (at : ℕ) (result : Result (List ℕ) Unanswered) → ReportedAs found report.References file at result → AnsweredAs (Some (Refs file at)) found result
references_reported found file at (Ok text) h = h
references_reported found file at (Err (unanswered.Bad reason)) h = h
references_reported found file at (Err unanswered.OutOfMemory) h = tt

pub references_answered : (asked : Option Command) (found : FileMap) (file : Bor (List ℕ)) (at : ℕ) (q : Question) (result : Result (List ℕ) Unanswered) → q ≡ question.References file at → IsQuestionOf asked q
    → ReportedAs found report.References file.now at result → AnsweredAs asked found result
references_answered asked found file at q result same is answer = subst (λ a. AnsweredAs a found result) (references_command asked file at (subst (IsQuestionOf asked) same is)) (references_reported found file.now at result answer)

subtypes_command : (asked : Option Command) (file : Bor (List ℕ)) (at : ℕ) → IsQuestionOf asked (question.Subtypes file at) → Some (Subtypes file.now at) ≡ asked
subtypes_command None file at is = absurd is
subtypes_command (Some (Subtypes name offset)) file at is = ap (λ x. Some (Subtypes x at)) is.0 ∙ ap (λ k. Some (Subtypes name k)) is.1
subtypes_command (Some other) file at is = absurd is

subtypes_reported : (found : FileMap) (file : List ℕ) (at : ℕ) (result : Result (List ℕ) Unanswered) → ReportedAs found report.Subtypes file at result → AnsweredAs (Some (Subtypes file at)) found result
subtypes_reported found file at (Ok text) h = h
subtypes_reported found file at (Err (unanswered.Bad reason)) h = h
subtypes_reported found file at (Err unanswered.OutOfMemory) h = tt

pub subtypes_answered : (asked : Option Command) (found : FileMap) (file : Bor (List ℕ)) (at : ℕ) (q : Question) (result : Result (List ℕ) Unanswered) → q ≡ question.Subtypes file at → IsQuestionOf asked q
    → ReportedAs found report.Subtypes file.now at result → AnsweredAs asked found result
subtypes_answered asked found file at q result same is answer = subst (λ a. AnsweredAs a found result) (subtypes_command asked file at (subst (IsQuestionOf asked) same is)) (subtypes_reported found file.now at result answer)

callers_command : (asked : Option Command) (file : Bor (List ℕ)) (at : ℕ) → IsQuestionOf asked (question.Callers file at) → Some (Callers file.now at) ≡ asked
callers_command None file at is = absurd is
callers_command (Some (Callers name offset)) file at is = ap (λ x. Some (Callers x at)) is.0 ∙ ap (λ k. Some (Callers name k)) is.1
callers_command (Some other) file at is = absurd is

callers_reported : (found : FileMap) (file : List ℕ) (at : ℕ) (result : Result (List ℕ) Unanswered) → ReportedAs found report.Callers file at result → AnsweredAs (Some (Callers file at)) found result
callers_reported found file at (Ok text) h = h
callers_reported found file at (Err (unanswered.Bad reason)) h = h
callers_reported found file at (Err unanswered.OutOfMemory) h = tt

pub callers_answered : (asked : Option Command) (found : FileMap) (file : Bor (List ℕ)) (at : ℕ) (q : Question) (result : Result (List ℕ) Unanswered) → q ≡ question.Callers file at → IsQuestionOf asked q
    → ReportedAs found report.Callers file.now at result → AnsweredAs asked found result
callers_answered asked found file at q result same is answer = subst (λ a. AnsweredAs a found result) (callers_command asked file at (subst (IsQuestionOf asked) same is)) (callers_reported found file.now at result answer)
