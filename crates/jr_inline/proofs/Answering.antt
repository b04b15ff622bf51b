-- The plan of an inlining, and what comes of a request.
use Rattle.std.proofs.Common.{◌≡◌, refl, sym, ◌∙◌, ap, subst, ℕ, List, length, Option, Some, None, Result, Ok, Err}
use Rattle.std.specs.Prelude.{IfOk, IfErr}
use Rattle.jr_defs.specs.declared.referent.RowType.{RowType}
use Rattle.jr_marks.specs.Places.{IsOrdered}
use Rattle.jr_edits.specs.Place.{EditList}
use Rattle.jr_text.specs.Spans.{unit_bytes}
use Rattle.jr_change.specs.declared.change.Change.{Change}
use Rattle.jr_change.specs.declared.change.Course.{Course}
use Rattle.jr_change.specs.declared.project.Project.{Project}
use Rattle.jr_marks.specs.declared.marks.Marks.{Marks}
use Rattle.jr_change.specs.declared.reason.ChangeFault.{ChangeFault}
use Rattle.jr_change.specs.declared.reason.ChangeFault.TheVariants as fault
use Rattle.jr_change.specs.declared.reason.Reason.TheVariants as reason
use Rattle.jr_draft.specs.Asking.{rows_of, table_of, asked}
use Rattle.jr_draft.specs.Drafting.{Drafted, IsFinished, no_edits}
use Rattle.jr_inline.specs.declared.local.Local.{Local}
use Rattle.jr_inline.specs.declared.removal.Joined.{Joined}
use Rattle.jr_inline.specs.declared.removal.Removal.{Removal}
use Rattle.jr_inline.specs.Inlinable.{inlinable}
use Rattle.jr_inline.specs.Removing.{joined_by, removal_of}
use Rattle.jr_inline.specs.Forms.{IsCast}
use Rattle.jr_inline.specs.Inlining.{Plan, IsPlanOf, IsInlined, IsInlinedBy, IsAskedFor, IsInlineAnswer, course_of, draft_of, edits_in, with_uses, without_local}

-- ---- the plan

pub plan_so : (old : Project) (local : Local) (removal : Removal) (joined : Option Joined) (cast : Option RowType) → removal ≡ removal_of old.marks local → joined ≡ joined_by (rows_of old) removal.rows
    → IsCast old local cast → IsPlanOf old local (record { rows = rows_of old; table = table_of old; local = local; removal = removal; joined = joined; cast = cast })
plan_so old local removal joined cast goes joins casts = record {
  rows_are = refl;
  table_is = refl;
  local_is = refl;
  goes = goes;
  joins = joins ∙ ap (λ removal. joined_by (rows_of old) removal.rows) goes;
  casts = casts;
}

-- ---- the change

pub edited_by : (marks : Marks) (plan : Plan) (none without all : EditList) → none ≡ no_edits (length (unit_bytes marks plan.local.declarator)) → without ≡ without_local plan none
    → all ≡ with_uses marks plan without → all ≡ edits_in marks plan
edited_by marks plan none without all start goes uses = uses ∙ ap (with_uses marks plan) (goes ∙ ap (without_local plan) start)

pub finished_by : (draft all : Drafted) (course : Course) (change : Change) → draft ≡ all → IsFinished draft course change → IsFinished all course change
finished_by draft all course change same made = subst (λ draft. IsFinished draft course change) same made

pub inlined_by : (old : Project) (local : Local) (plan : Plan) (answer : Result Change ChangeFault) → plan.local ≡ local → (IsOrdered old.marks → IsPlanOf old local plan)
    → IfOk answer (λ change. IsOrdered old.marks → IsFinished (draft_of old.marks plan) (course_of plan.local) change) → IfOk answer (λ change. IsOrdered old.marks → IsInlined old local change)
inlined_by old local plan (Err why) local_is planned made = tt
inlined_by old local plan (Ok change) local_is planned made = λ ordered. record {
  plan = plan;
  is_plan = planned ordered;
  finished = subst (λ local. IsFinished (draft_of old.marks plan) (course_of local) change) local_is (made ordered);
}

-- ---- the answers to a request

pub refused_so : (old : Project) (file : List ℕ) (at : ℕ) (why : ChangeFault) → Err why ≡ asked old file at → IsInlineAnswer old file at (Err why)
refused_so old file at why h = IsInlineAnswer.refused (sym h)

pub answered_so : (old : Project) (file : List ℕ) (at : ℕ) (found : Option ℕ) (answer : Result Change ChangeFault) → Ok found ≡ asked old file at → IsAskedFor old found answer → IsInlineAnswer old file at answer
answered_so old file at found answer h made = IsInlineAnswer.answered (sym h) made

pub stays_so : (old : Project) (found : Option ℕ) → None ≡ inlinable old found → IsAskedFor old found (Err (fault.Bad reason.WrongKind))
stays_so old found none = IsAskedFor.stays (sym none)

inlined_or_not : (old : Project) (local : Local) (answer : Result Change ChangeFault) → IsOrdered old.marks → IfOk answer (λ change. IsOrdered old.marks → IsInlined old local change)
    → IfErr answer (λ why. why ≡ fault.OutOfMemory) → IsInlinedBy old local answer
inlined_or_not old local (Ok change) ordered made failed = IsInlinedBy.made (made ordered)
inlined_or_not old local (Err why) ordered made failed = subst (λ why. IsInlinedBy old local (Err why)) (sym failed) IsInlinedBy.memory

pub goes_so : (old : Project) (found : Option ℕ) (local : Local) (answer : Result Change ChangeFault) → IsOrdered old.marks → Some local ≡ inlinable old found
    → IfOk answer (λ change. IsOrdered old.marks → IsInlined old local change) → IfErr answer (λ why. why ≡ fault.OutOfMemory) → IsAskedFor old found answer
goes_so old found local answer ordered some made failed = IsAskedFor.goes (sym some) (inlined_or_not old local answer ordered made failed)
