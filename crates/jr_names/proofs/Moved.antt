-- The answers to a request to move a type.
use Rattle.std.proofs.Common.{◌≡◌, refl, sym, ◌∙◌, ap, subst, ⊎_elim, arith, ℕ, ◌+◌, ◌^◌, ◌<◌, ◌≤◌, List, [], Option, Some, None, Result, Ok, Err, Bool, true, false, ◌&&◌, IsTrue, ◌↔◌, Decides, bytes_eq, length, nat_le}
use Rattle.std.proofs.lemmas.Bool.{cases_lt, false≢true, true≢false}
use Rattle.std.proofs.lemmas.Slice.Eq.{bytes_eq-Decides}
use Rattle.std.specs.Prelude.{IfOk, IfErr, IfSome, codes}
use Rattle.jr_base.specs.declared.token.Span.{Span}
use Rattle.jr_tree.specs.declared.label.Role.TheVariants as role
use Rattle.jr_tree.specs.Labels.{role_of}
use Rattle.jr_tree.specs.Rows.{Rows, end}
use Rattle.jr_plain.specs.Enclosing.{is_top_level}
use Rattle.jr_plain.specs.Same.{same_role}
use Rattle.jr_plain.specs.Search.{any_below}
use Rattle.jr_plain.proofs.Bounds.{label_past}
use Rattle.jr_plain.proofs.Searches.{any}
use Rattle.jr_plain.proofs.Tests.{itself}
use Rattle.jr_marks.proofs.Cuts.{from_passes}
use Rattle.jr_marks.specs.declared.marks.Marks.{Marks}
use Rattle.jr_marks.specs.Places.{IsOrdered, unit_of}
use Rattle.jr_text.specs.Spans.{IsExtent, part, unit_bytes}
use Rattle.jr_change.specs.declared.change.Change.{Change}
use Rattle.jr_change.specs.declared.change.Course.TheVariants as course
use Rattle.jr_change.specs.declared.project.Project.{Project}
use Rattle.jr_change.specs.declared.reason.ChangeFault.{ChangeFault}
use Rattle.jr_change.specs.declared.reason.ChangeFault.TheVariants as fault
use Rattle.jr_change.specs.declared.reason.Reason.TheVariants as reason
use Rattle.jr_draft.specs.declared.packages.Head.{Head}
use Rattle.jr_draft.specs.Asking.{asked}
use Rattle.jr_draft.specs.Drafting.{Drafted, IsFinished, begun, unchanged}
use Rattle.jr_draft.specs.Ordering.{order_with}
use Rattle.jr_draft.specs.Packages.{IsPackageName}
use Rattle.jr_draft.specs.Parting.{parted_of}
use Rattle.jr_names.specs.Moving.{IsWordOf, IsMovedApart, IsMovedAway, IsMoved, IsInPackage, IsAskedFor, IsMoveAnswer, has_others, head_over, is_of, is_other_type, leaving, moved_whole, top_level, with_all, with_path}

pub refused_so : (old : Project) (file : List ℕ) (at : ℕ) (word : List ℕ) (why : ChangeFault) → Err why ≡ asked old file at → IsMoveAnswer old file at word (Err why)
refused_so old file at word why h = IsMoveAnswer.refused (sym h)

pub answered_so : (old : Project) (file : List ℕ) (at : ℕ) (word : List ℕ) (found : Option ℕ) (answer : Result Change ChangeFault) → Ok found ≡ asked old file at → IsAskedFor old.marks found word answer
    → IsMoveAnswer old file at word answer
answered_so old file at word found answer h made = IsMoveAnswer.answered (sym h) made

-- ---- words of packages

no_word : (word named : List ℕ) → IsWordOf word named → bytes_eq word (codes "-") ≡ false → (IsPackageName word → ⊥) → ⊥
no_word word named IsWordOf.by_dash other none = true≢false other
no_word word named (IsWordOf.by_name name) other none = none name

module _ (m : Marks) (found : Option ℕ) (word : List ℕ) where
  pub unnamed_so : (b : Bool) (answer : Result Change ChangeFault) → b ≡ bytes_eq word (codes "-") → b ≡ true → IsInPackage m found [] answer → IsAskedFor m found word answer
  unnamed_so b answer is so made = IsAskedFor.into (subst (λ w. IsWordOf w []) (sym ((bytes_eq-Decides word (codes "-")).0 (sym is ∙ so))) IsWordOf.by_dash) made

  pub bad_name_so : (b c : Bool) → b ≡ bytes_eq word (codes "-") → b ≡ false → c ≡ false → (IsTrue c ↔ IsPackageName word) → IsAskedFor m found word (Err (fault.Bad reason.BadName))
  bad_name_so b c is other fails tells = IsAskedFor.bad_name (λ named h. no_word word named h (sym is ∙ other) (λ name. false≢true (sym fails ∙ tells.1 name)))

  pub named_so : (c : Bool) (answer : Result Change ChangeFault) → c ≡ true → (IsTrue c ↔ IsPackageName word) → IsInPackage m found word answer → IsAskedFor m found word answer
  named_so c answer holds tells made = IsAskedFor.into (IsWordOf.by_name (tells.0 holds)) made

-- ---- top-level types

left : (a b : Bool) → (a && b) ≡ true → a ≡ true
left true b h = refl
left false b h = absurd (false≢true h)

-- past the end there is no type
pub top_within : (p : Rows) (d : ℕ) (b : Bool) → b ≡ is_top_level p d → b ≡ true → d < length p
top_within p d b is so = ⊎_elim (λ lt. lt) (λ past. absurd (false≢true (sym (ap (λ label. same_role (role_of label) role.Type) (label_past p d past)) ∙ left _ _ (sym is ∙ so)))) (cases_lt d (length p))

module _ (m : Marks) (found : Option ℕ) (named : List ℕ) where
  pub other_kind_so : None ≡ top_level m.rows.now found → IsInPackage m found named (Err (fault.Bad reason.WrongKind))
  other_kind_so none = IsInPackage.other_kind (sym none)

  pub moved_so : (d : ℕ) (answer : Result Change ChangeFault) → IsOrdered m → Some d ≡ top_level m.rows.now found → d < length m.rows.now
      → IfOk answer (λ change. IsOrdered m → d + 1 < 2 ^ 32 → IsMoved m d named change) → IfErr answer (λ why. why ≡ fault.OutOfMemory) → IsInPackage m found named answer
  moved_so d (Ok change) ordered some lt made failed = let few = ordered.few in IsInPackage.moved (sym some) (made ordered (omega arith))
  moved_so d (Err why) ordered some lt made failed = subst (λ why. IsInPackage m found named (Err why)) (sym failed) IsInPackage.memory

-- ---- other types of a unit

module _ (p : Rows) (d unit : ℕ) where
  abbrev test : ℕ → Bool
  test k = nat_le unit k && is_other_type p d k

  pub others_now : (at : ℕ) → unit ≤ at → at < end p unit → is_other_type p d at ≡ true → true ≡ has_others p d unit
  others_now at le lt so = sym ((any test (λ k. test k ≡ true) (λ k. itself (test k)) (end p unit)).1 (at, lt, from_passes unit at _ le so))

  pub others_end : ((k : ℕ) → k < end p unit → test k ≡ false) → false ≡ has_others p d unit
  others_end none = sym (by (has_others p d unit) (any test (λ k. test k ≡ true) (λ k. itself (test k)) (end p unit)))
    where
      by : (b : Bool) → Decides b ((k : ℕ) × (k < end p unit) × (test k ≡ true)) → b ≡ false
      by true h = let w = h.0 refl in absurd (false≢true (sym (none w.0 w.1) ∙ w.2))
      by false h = refl

-- ---- the change

pub order_so : (m : Marks) (head : Head) (d : ℕ) (named path order : List ℕ) (unit : ℕ) (old new : Drafted) → unit ≡ unit_of m d → order ≡ order_with m unit path → old ≡ begun m → new ≡ with_all m head d named path order old
    → new ≡ with_path m head d named path
order_so m head d named path order unit old new is h e made = made ∙ (λ i. with_all m head d named path ((h ∙ ap (λ unit. order_with m unit path) is) i) (e i))

module _ (m : Marks) (d : ℕ) (named : List ℕ) where
  -- a type that leaves its unit, from its parts
  pub apart_as : (span : Span) (head : Head) (declaration : List ℕ) (answer : Result Change ChangeFault) → (IsOrdered m → IsExtent m d span) → (IsOrdered m → declaration ≡ part (unit_bytes m d) span)
      → IfOk answer (λ change. IsOrdered m → d + 1 < 2 ^ 32 → IsFinished (parted_of m (record { head = head; row = d; is_turned = false; named = named; declaration = declaration; span = span })) course.Same change)
      → IfOk answer (λ change. IsOrdered m → d + 1 < 2 ^ 32 → head ≡ head_over m d → IsMovedApart m d named change)
  apart_as span head declaration (Err why) bytes t made = tt
  apart_as span head declaration (Ok change) bytes t made = λ ordered fits same. record {
    span = span;
    bytes = bytes ordered;
    finished = subst (λ parted. IsFinished (parted_of m parted) course.Same change)
        (λ i. record { head = same i; row = d; is_turned = false; named = named; declaration = t ordered i; span = span }) (made ordered fits);
  }

  module _ (head : Head) (b : Bool) (answer : Result Change ChangeFault) where
    pub away_apart : (head.unit + 1 < 2 ^ 32 → b ≡ has_others m.rows.now d head.unit) → b ≡ true → IfOk answer (λ change. IsOrdered m → d + 1 < 2 ^ 32 → head ≡ head_over m d → IsMovedApart m d named change)
        → IfOk answer (λ change. IsOrdered m → d + 1 < 2 ^ 32 → head.unit + 1 < 2 ^ 32 → head ≡ head_over m d → IsMovedAway m d named change)
    away_apart is so made = by answer made
      where
        by : (answer : Result Change ChangeFault) → IfOk answer (λ change. IsOrdered m → d + 1 < 2 ^ 32 → head ≡ head_over m d → IsMovedApart m d named change)
            → IfOk answer (λ change. IsOrdered m → d + 1 < 2 ^ 32 → head.unit + 1 < 2 ^ 32 → head ≡ head_over m d → IsMovedAway m d named change)
        by (Err why) made = tt
        by (Ok change) made = λ ordered fits room same. IsMovedAway.apart (subst (λ h. has_others m.rows.now d h.unit ≡ true) same (sym (is room) ∙ so)) (made ordered fits same)

    pub away_whole : (head.unit + 1 < 2 ^ 32 → b ≡ has_others m.rows.now d head.unit) → b ≡ false → IfOk answer (λ change. IsOrdered m → head.unit + 1 < 2 ^ 32 → IsFinished (moved_whole m head d named) course.Same change)
        → IfOk answer (λ change. IsOrdered m → d + 1 < 2 ^ 32 → head.unit + 1 < 2 ^ 32 → head ≡ head_over m d → IsMovedAway m d named change)
    away_whole is so made = by answer made
      where
        by : (answer : Result Change ChangeFault) → IfOk answer (λ change. IsOrdered m → head.unit + 1 < 2 ^ 32 → IsFinished (moved_whole m head d named) course.Same change)
            → IfOk answer (λ change. IsOrdered m → d + 1 < 2 ^ 32 → head.unit + 1 < 2 ^ 32 → head ≡ head_over m d → IsMovedAway m d named change)
        by (Err why) made = tt
        by (Ok change) made = λ ordered fits room same. IsMovedAway.whole (subst (λ h. has_others m.rows.now d h.unit ≡ false) same (sym (is room) ∙ so))
            (subst (λ h. IsFinished (moved_whole m h d named) course.Same change) same (made ordered room))

    pub moved_same : (IsOrdered m → head ≡ head_over m d) → (IsOrdered m → IfSome head.declared (λ row. row + 1 < 2 ^ 32)) → (IfSome head.declared (λ row. row + 1 < 2 ^ 32) → b ≡ is_of m.rows.now head named) → b ≡ true
        → IfOk answer (λ change. IsOrdered m → IsFinished (unchanged m) course.Same change) → IfOk answer (λ change. IsOrdered m → d + 1 < 2 ^ 32 → IsMoved m d named change)
    moved_same same small is so made = by answer made
      where
        by : (answer : Result Change ChangeFault) → IfOk answer (λ change. IsOrdered m → IsFinished (unchanged m) course.Same change) → IfOk answer (λ change. IsOrdered m → d + 1 < 2 ^ 32 → IsMoved m d named change)
        by (Err why) made = tt
        by (Ok change) made = λ ordered fits. IsMoved.same (subst (λ h. is_of m.rows.now h named ≡ true) (same ordered) (sym (is (small ordered)) ∙ so)) (made ordered)

    pub moved_other : (IsOrdered m → head ≡ head_over m d) → (IsOrdered m → IfSome head.declared (λ row. row + 1 < 2 ^ 32)) → (IsOrdered m → head.unit + 1 < 2 ^ 32)
        → (IfSome head.declared (λ row. row + 1 < 2 ^ 32) → b ≡ is_of m.rows.now head named) → b ≡ false
        → IfOk answer (λ change. IsOrdered m → d + 1 < 2 ^ 32 → head.unit + 1 < 2 ^ 32 → head ≡ head_over m d → IsMovedAway m d named change) → IfOk answer (λ change. IsOrdered m → d + 1 < 2 ^ 32 → IsMoved m d named change)
    moved_other same small room is so made = by answer made
      where
        by : (answer : Result Change ChangeFault) → IfOk answer (λ change. IsOrdered m → d + 1 < 2 ^ 32 → head.unit + 1 < 2 ^ 32 → head ≡ head_over m d → IsMovedAway m d named change)
            → IfOk answer (λ change. IsOrdered m → d + 1 < 2 ^ 32 → IsMoved m d named change)
        by (Err why) made = tt
        by (Ok change) made = λ ordered fits. IsMoved.other (subst (λ h. is_of m.rows.now h named ≡ false) (same ordered) (sym (is (small ordered)) ∙ so)) (made ordered fits (room ordered) (same ordered))
