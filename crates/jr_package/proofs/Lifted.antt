-- The answers to a request to lift.
use Rattle.std.proofs.Common.{◌≡◌, refl, sym, ◌∙◌, ap, subst, ⊎_elim, arith, ℕ, ◌+◌, ◌^◌, ◌<◌, ◌≤◌, List, length, Option, Some, None, Result, Ok, Err, Bool, true, false, cond, ◌&&◌}
use Rattle.std.proofs.lemmas.Bool.{cases_lt, false≢true}
use Rattle.std.proofs.lemmas.Option.{none-some, same_Some}
use Rattle.std.specs.Prelude.{IfOk, IfErr}
use Rattle.jr_tree.specs.declared.label.Role.{Role}
use Rattle.jr_tree.specs.declared.label.Role.TheVariants as role
use Rattle.jr_tree.specs.Labels.{role_of}
use Rattle.jr_tree.specs.Rows.{Rows, role_at}
use Rattle.jr_plain.specs.Declarations.{is_type}
use Rattle.jr_plain.specs.Same.{same_role}
use Rattle.jr_marks.proofs.Firsts.{label_past}
use Rattle.jr_change.specs.declared.change.Change.{Change}
use Rattle.jr_change.specs.declared.project.Project.{Project}
use Rattle.jr_change.specs.declared.reason.ChangeFault.{ChangeFault}
use Rattle.jr_change.specs.declared.reason.ChangeFault.TheVariants as fault
use Rattle.jr_change.specs.declared.reason.Reason.TheVariants as reason
use Rattle.jr_marks.specs.Places.{IsOrdered}
use Rattle.jr_base.specs.declared.token.Span.{Span}
use Rattle.jr_marks.specs.declared.marks.Marks.{Marks}
use Rattle.jr_text.specs.Spans.{IsExtent}
use Rattle.jr_change.specs.declared.change.Course.TheVariants as course
use Rattle.jr_draft.specs.declared.packages.Head.{Head}
use Rattle.jr_draft.specs.Asking.{rows_of, asked}
use Rattle.jr_draft.specs.Drafting.{IsFinished}
use Rattle.jr_draft.specs.Packages.{name_of_package}
use Rattle.jr_draft.specs.Parting.{Parted, parted_of}
use Rattle.jr_package.specs.Lifting.{head_over, lifting, liftable, is_liftable, text_lifted, IsLifted, IsLiftAnswer}

-- what can be lifted is written, since past the end there is no type
passed : (b : Bool) (n d : ℕ) → cond b (Some n) None ≡ Some d → (n ≡ d) × (b ≡ true)
passed true n d h = (same_Some n d h, refl)
passed false n d h = absurd (none-some d h)

left : (a b : Bool) → (a && b) ≡ true → a ≡ true
left true b h = refl
left false b h = absurd (false≢true h)

pub liftable_within : (p : Rows) (found : Option ℕ) (d : ℕ) → liftable p found ≡ Some d → d < length p
liftable_within p None d h = absurd (none-some d h)
liftable_within p (Some n) d h = ⊎_elim (λ lt. let e = (passed (is_liftable p n) n d h).0 in omega arith)
    (λ past. absurd (false≢true (sym (ap (λ label. same_role (role_of label) role.Type) (label_past p n past)) ∙ left _ _ (left _ _ (passed (is_liftable p n) n d h).1)))) (cases_lt n (length p))

-- the change, from its parts
pub lifted_as : (m : Marks) (d : ℕ) (span : Span) (head : Head) (named declaration : List ℕ) (answer : Result Change ChangeFault) → (IsOrdered m → IsExtent m d span) → (IsOrdered m → head ≡ head_over m d)
    → (IsOrdered m → named ≡ name_of_package m.rows.now head.declared) → (IsOrdered m → declaration ≡ text_lifted m d span)
    → IfOk answer (λ change. IsOrdered m → d + 1 < 2 ^ 32 → IsFinished (parted_of m (record { head = head; row = d; is_turned = true; named = named; declaration = declaration; span = span })) course.Same change)
    → IfOk answer (λ change. IsOrdered m → d + 1 < 2 ^ 32 → IsLifted m d change)
lifted_as m d span head named declaration (Err why) bytes h n t made = made
lifted_as m d span head named declaration (Ok change) bytes h n t made = λ ordered fits. record {
  span = span;
  bytes = bytes ordered;
  finished = subst (λ parted. IsFinished (parted_of m parted) course.Same change) (same ordered) (made ordered fits);
}
  where
    same : IsOrdered m → record { head = head; row = d; is_turned = true; named = named; declaration = declaration; span = span } ≡ lifting m d span
    same ordered i = record { head = h ordered i; row = d; is_turned = true; named = (n ordered ∙ ap (λ head. name_of_package m.rows.now head.declared) (h ordered)) i; declaration = t ordered i; span = span }

pub refused_so : (old : Project) (file : List ℕ) (at : ℕ) (why : ChangeFault) → Err why ≡ asked old file at → IsLiftAnswer old file at (Err why)
refused_so old file at why h = IsLiftAnswer.refused (sym h)

pub stays_so : (old : Project) (file : List ℕ) (at : ℕ) (found : Option ℕ) → Ok found ≡ asked old file at → None ≡ liftable (rows_of old) found → IsLiftAnswer old file at (Err (fault.Bad reason.WrongKind))
stays_so old file at found h none = IsLiftAnswer.stays (sym h) (sym none)

pub lifted_so : (old : Project) (file : List ℕ) (at : ℕ) (found : Option ℕ) (d : ℕ) (answer : Result Change ChangeFault) → IsOrdered old.marks → Ok found ≡ asked old file at → Some d ≡ liftable (rows_of old) found
    → IfOk answer (λ change. IsOrdered old.marks → d + 1 < 2 ^ 32 → IsLifted old.marks d change) → IfErr answer (λ why. why ≡ fault.OutOfMemory) → IsLiftAnswer old file at answer
lifted_so old file at found d (Ok change) ordered h some made failed = let lt = liftable_within (rows_of old) found d (sym some) in let few = ordered.few in IsLiftAnswer.lifted (sym h) (sym some) (made ordered (omega arith))
lifted_so old file at found d (Err why) ordered h some made failed = subst (λ why. IsLiftAnswer old file at (Err why)) (sym failed) IsLiftAnswer.memory
