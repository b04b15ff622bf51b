-- Rows that are written, and what comes of a declaration.
use Rattle.std.proofs.Common.{◌≡◌, refl, sym, ◌∙◌, ap, subst, ⊎_elim, arith, ℕ, ◌+◌, ◌^◌, ◌<◌, ◌≤◌, List, length, Option, Some, None, Result, Ok, Err, Bool, true, false, cond, nat_eq, nat_lt, Decides, add-one}
use Rattle.std.proofs.lemmas.Bool.{cases_lt}
use Rattle.jr_tree.specs.declared.label.Role.{Role}
use Rattle.jr_tree.specs.declared.label.Role.TheVariants as role
use Rattle.jr_tree.specs.Labels.{role_of}
use Rattle.jr_tree.specs.Rows.{Rows, end, role_at}
use Rattle.jr_marks.proofs.Firsts.{label_past}
use Rattle.std.proofs.lemmas.Option.{none-some, same_Some}
use Rattle.std.specs.Prelude.{IfOk, IfErr}
use Rattle.jr_base.specs.declared.token.Span.{Span}
use Rattle.jr_change.specs.declared.change.Change.{Change}
use Rattle.jr_change.specs.declared.change.Course.TheVariants as course
use Rattle.jr_change.specs.declared.change.RowRange.{RowRange}
use Rattle.jr_change.specs.declared.project.Project.{Project}
use Rattle.jr_change.specs.declared.reason.ChangeFault.{ChangeFault}
use Rattle.jr_change.specs.declared.reason.ChangeFault.TheVariants as fault
use Rattle.std.proofs.lemmas.Bool.Decides.{Decides-ltb}
use Rattle.jr_marks.specs.declared.marks.Marks.{Marks}
use Rattle.jr_marks.specs.Places.{place_of_name, IsOrdered}
use Rattle.jr_change.specs.declared.reason.Reason.TheVariants as reason
use Rattle.jr_draft.specs.Asking.{rows_of, asked}
use Rattle.jr_draft.specs.Drafting.{Drafted, IsFinished}
use Rattle.jr_delete.specs.Deleting.{removed, first_use, left_of, with_unit_left, IsSpanOf, IsDeleted, IsAnswer, removable, removable_by}

-- what declares something is written
pub declares_within : (p : Rows) (n : ℕ) (r : Role) → (r ≡ role.Nothing → ⊥) → role_at p n ≡ r → n < length p
declares_within p n r some h = ⊎_elim (λ lt. lt) (λ past. absurd (some (sym h ∙ ap role_of (label_past p n past)))) (cases_lt n (length p))

-- what can go is written
pub removable_within : (p : Rows) (found : Option ℕ) (d : ℕ) → removable p found ≡ Some d → d < length p
removable_within p None d h = absurd (none-some d h)
removable_within p (Some n) d h = by (role_at p n) refl h
  where
    alone : (b : Bool) → cond b (Some n) None ≡ Some d → n ≡ d
    alone true h = same_Some n d h
    alone false h = absurd (none-some d h)

    by : (r : Role) → role_at p n ≡ r → removable_by r p n ≡ Some d → d < length p
    by role.Type is h = let e = same_Some n d h in let lt = declares_within p n role.Type (λ e. cc) is in omega arith
    by role.Method is h = let e = same_Some n d h in let lt = declares_within p n role.Method (λ e. cc) is in omega arith
    by role.Field is h = let lt = declares_within p n role.Field (λ e. cc) is in let e = alone (nat_eq (end p n) (n + 1)) h in omega arith
    by role.Nothing is h = absurd (none-some d h)
    by role.Constructor is h = absurd (none-some d h)
    by role.Parameter is h = absurd (none-some d h)
    by role.Local is h = absurd (none-some d h)
    by role.Label is h = absurd (none-some d h)

-- the first use
pub used_there : (old : Project) (d o : ℕ) (rows : RowRange) → rows ≡ removed (rows_of old) d → Some o ≡ first_use old rows → IsDeleted old d (Err (fault.StillUsed (place_of_name old.marks o)))
used_there old d o rows same h = IsDeleted.used (sym (h ∙ ap (first_use old) same))

-- the change, or want of memory
pub gone_or_not : (old : Project) (d : ℕ) (rows : RowRange) (span : Span) (answer : Result Change ChangeFault) → rows ≡ removed (rows_of old) d → None ≡ first_use old rows
    → IsSpanOf old.marks d span → IfOk answer (λ change. IsFinished (left_of old.marks rows span (length old.marks.units.now)) (course.Removed rows) change)
    → IfErr answer (λ why. why ≡ fault.OutOfMemory) → IsDeleted old d answer
gone_or_not old d rows span (Ok change) same none bytes made failed = IsDeleted.gone (sym (none ∙ ap (first_use old) same)) (record {
  span = span;
  bytes = bytes;
  finished = subst (λ rows. IsFinished (left_of old.marks rows span (length old.marks.units.now)) (course.Removed rows) change) same made;
})
gone_or_not old d rows span (Err why) same none bytes made failed = subst (λ why. IsDeleted old d (Err why)) (sym failed) IsDeleted.memory

-- one unit more
pub left_more : (m : Marks) (rows : RowRange) (span : Span) (unit : ℕ) (before more : Drafted) → 2 ≤ unit → before ≡ left_of m rows span unit → more ≡ with_unit_left m rows span unit before
    → more ≡ left_of m rows span (unit + 1)
left_more m rows span unit before more behind h made = rw add-one (made ∙ ap (with_unit_left m rows span unit) h ∙ by (nat_lt unit 2) (Decides-ltb unit 2))
  where
    by : (b : Bool) → Decides b (unit < 2) → with_unit_left m rows span unit (left_of m rows span unit) ≡ cond b (left_of m rows span unit) (with_unit_left m rows span unit (left_of m rows span unit))
    by true d = let lt = d.0 refl in absurd (omega arith)
    by false d = refl

-- all units
pub left_all : (m : Marks) (rows : RowRange) (span : Span) (unit count : ℕ) (draft : Drafted) (change : Change) → unit ≡ count → draft ≡ left_of m rows span unit → IsFinished draft (course.Removed rows) change
    → IsFinished (left_of m rows span count) (course.Removed rows) change
left_all m rows span unit count draft change same h made = subst (λ draft. IsFinished draft (course.Removed rows) change) (h ∙ ap (left_of m rows span) same) made

-- the answers to a request
pub refused_so : (old : Project) (file : List ℕ) (at : ℕ) (why : ChangeFault) → Err why ≡ asked old file at → IsAnswer old file at (Err why)
refused_so old file at why h = IsAnswer.refused (sym h)

pub stays_so : (old : Project) (file : List ℕ) (at : ℕ) (found : Option ℕ) → Ok found ≡ asked old file at → None ≡ removable (rows_of old) found → IsAnswer old file at (Err (fault.Bad reason.WrongKind))
stays_so old file at found h none = IsAnswer.stays (sym h) (sym none)

pub goes_so : (old : Project) (file : List ℕ) (at : ℕ) (found : Option ℕ) (d : ℕ) (answer : Result Change ChangeFault) → IsOrdered old.marks → Ok found ≡ asked old file at → Some d ≡ removable (rows_of old) found
    → (IsOrdered old.marks → d + 1 < 2 ^ 32 → IsDeleted old d answer) → IsAnswer old file at answer
goes_so old file at found d answer ordered h some made = let lt = removable_within (rows_of old) found d (sym some) in let few = ordered.few in IsAnswer.goes (sym h) (sym some) (made ordered (omega arith))
