-- Which expressions have another type after an inline, and which of them is the first.
use Rattle.std.proofs.Common.{◌≡◌, ◌⊎◌, inl, inr, refl, sym, ◌∙◌, ap, ap₂, subst, arith, ℕ, zero, suc, ◌+◌, ◌<◌, ◌≤◌, ◌^◌, Bool, true, false, not, if◌then◌else◌, List, [], ◌∷◌, length, Option, Some, None, Decides}
use Rattle.std.specs.Prelude.{slice_index_or}
use Rattle.std.proofs.lemmas.Bool.{cases_lt, false≢true}
use Rattle.std.proofs.lemmas.Bool.Decides.{Decides-eqb, Decides-ltb}
use Rattle.jr_base.specs.declared.token.Place.{Place}
use Rattle.jr_tree.specs.Rows.{Rows}
use Rattle.jr_defs.specs.declared.referent.RowType.{RowType}
use Rattle.jr_plain.proofs.Same.{type_tells}
use Rattle.jr_plain.proofs.Tests.{both, either, like, opposite}
use Rattle.jr_constants.specs.Values.{value_in_if}
use Rattle.jr_constants.specs.declared.value.Value.{Value}
use Rattle.jr_constants.specs.declared.value.Value.TheVariants as v
use Rattle.jr_marks.specs.Places.{IsOrdered, place_of_name}
use Rattle.jr_marks.specs.declared.marks.Marks.{Marks}
use Rattle.jr_change.specs.declared.change.Change.{Change}
use Rattle.jr_change.specs.declared.change.RowRange.{RowRange}
use Rattle.jr_change.specs.declared.project.Locks.{Locks}
use Rattle.jr_change.specs.declared.project.Project.{Project}
use Rattle.jr_locks.specs.Changed.{origins_by, copies_by}
use Rattle.jr_locks.specs.Origins.{no_row, origin_of, row_by}
use Rattle.jr_draft.specs.Asking.{rows_of}
use Rattle.jr_inline.specs.declared.retyped.Retyping.{Retyping}
use Rattle.jr_inline.specs.Removing.{is_gone, rows_at}
use Rattle.jr_inline.specs.Retyping.{AreCompared, Comparison, IsBefore, IsFirstBelow, IsFoundBelow, IsRetyped, IsRetypedIf, Typed, comparison, comparison_of, first_of, inlined_local, is_before, is_other, is_retyped, is_retyped_from, is_retyped_if, is_same_type, is_string, is_text_if, is_typed_anew, moved_type}

-- ---- types and constants

-- a constant that is a string by its table is one
pub string_so : (texts : List (List ℕ)) (found : Option Value) → is_text_if found ≡ is_string (value_in_if texts found)
string_so texts None = refl
string_so texts (Some (v.Bool b)) = refl
string_so texts (Some (v.Byte z)) = refl
string_so texts (Some (v.Short z)) = refl
string_so texts (Some (v.Char n)) = refl
string_so texts (Some (v.Int z)) = refl
string_so texts (Some (v.Long z)) = refl
string_so texts (Some (v.Str text)) = refl

same_tells : (a b : Option RowType) → Decides (is_same_type a b) (a ≡ b)
same_tells None None = (λ h. refl, λ e. refl)
same_tells None (Some b) = (λ h. absurd (false≢true h), λ e. absurd (cc))
same_tells (Some a) None = (λ h. absurd (false≢true h), λ e. absurd (cc))
same_tells (Some a) (Some b) = like (type_tells b a) (λ e. ap Some (sym e)) (λ e. cc)

other_tells : (a b : Bool) → Decides (is_other a b) (a ≡ b → ⊥)
other_tells true true = (λ h. absurd (false≢true h), λ apart. absurd (apart refl))
other_tells true false = (λ h e. false≢true (sym e), λ apart. refl)
other_tells false true = (λ h e. false≢true e, λ apart. refl)
other_tells false false = (λ h. absurd (false≢true h), λ apart. absurd (apart refl))

off_tells : (b : Bool) → Decides (not b) (b ≡ false)
off_tells true = (λ h. absurd (false≢true h), λ e. absurd (false≢true (sym e)))
off_tells false = (λ h. refl, λ e. refl)

-- the row has another type than copies of the old one are to have, or one of the two is a constant string
abbrev IsTypedAnew : Comparison → ℕ → ℕ → Type 0
IsTypedAnew c from row = (moved_type c.copies (c.before.types from) ≡ c.after.types row → ⊥) ⊎ (is_string (c.before.values from) ≡ is_string (c.after.values row) → ⊥)

anew_tells : (c : Comparison) (from row : ℕ) → Decides (is_typed_anew c from row) (IsTypedAnew c from row)
anew_tells c from row = either (opposite (same_tells (moved_type c.copies (c.before.types from)) (c.after.types row))) (other_tells (is_string (c.before.values from)) (is_string (c.after.values row)))

from_tells : (c : Comparison) (from row : ℕ) → Decides (is_retyped_from c from row) ((is_gone c.gone from ≡ false) × IsTypedAnew c from row)
from_tells c from row = both (off_tells (is_gone c.gone from)) (anew_tells c from row)

-- ---- the rows of which it is said

past : (all : List ℕ) (n d : ℕ) → length all ≤ n → slice_index_or all n d ≡ d
past [] n d le = refl
past (x ∷ xs) zero d le = absurd (omega arith)
past (x ∷ xs) (suc n) d le = past xs n d (omega arith)

no_row_is_none : row_by no_row ≡ None
no_row_is_none = ap (λ (b : Bool). if b then None else Some no_row) ((Decides-eqb no_row no_row).1 refl)

-- a row that comes from an old one is one of the changed program
retyped_below : (c : Comparison) (row : ℕ) → is_retyped c row ≡ true → row < length c.origins
retyped_below c row h = elim (cases_lt row (length c.origins)) [
  | inl less ↦ less
  | inr more ↦ absurd (false≢true (sym (ap (λ (found : Option ℕ). is_retyped_if found c row) (ap row_by (past c.origins row no_row more) ∙ no_row_is_none)) ∙ h))
]

-- what is compared is what the change and the two programs say
pub record AreOf (p : Rows) (change : Change) (before after : Typed) (local : ℕ) (c : Comparison) : Type 0 where
  pub origins : c.origins ≡ origins_by change
  pub copies : c.copies ≡ copies_by (origins_by change) (length p)
  pub gone : c.gone ≡ rows_at p local
  pub types_before : (n : ℕ) → c.before.types n ≡ before.types n
  pub types_after : (n : ℕ) → c.after.types n ≡ after.types n
  pub values_before : (n : ℕ) → c.before.values n ≡ before.values n
  pub values_after : (n : ℕ) → c.after.values n ≡ after.values n

some_is : (a b : ℕ) → Some a ≡ Some b → a ≡ b
some_is a b e = cc

types_move : (p : Rows) (change : Change) (before after : Typed) (local : ℕ) (c : Comparison) (from : ℕ) → AreOf p change before after local c
    → moved_type c.copies (c.before.types from) ≡ moved_type (copies_by (origins_by change) (length p)) (before.types from)
types_move p change before after local c from are = ap₂ (λ (copies : List ℕ) (ty : Option RowType). moved_type copies ty) are.copies (are.types_before from)

retyped_so : (p : Rows) (change : Change) (before after : Typed) (local : ℕ) (c : Comparison) (row : ℕ) → inlined_local change.course ≡ Some local → AreOf p change before after local c
    → is_retyped c row ≡ true → IsRetyped p change before after row
retyped_so p change before after local c row inlines are h = by (row_by (origin_of c.origins row)) refl h
  where
    by : (found : Option ℕ) → row_by (origin_of c.origins row) ≡ found → is_retyped_if found c row ≡ true → IsRetyped p change before after row
    by None e on = absurd (false≢true on)
    by (Some from) e on = let parts = (from_tells c from row).0 on in record {
      local = local;
      inlines = inlines;
      from = from;
      comes = subst (λ (origins : List ℕ). row_by (origin_of origins row) ≡ Some from) are.origins e;
      stays = subst (λ (r : RowRange). is_gone r from ≡ false) are.gone parts.0;
      differs = elim parts.1 [
        | inl apart ↦ inl (λ same. apart (types_move p change before after local c from are ∙ same ∙ sym (are.types_after row)))
        | inr apart ↦ inr (λ same. apart (ap is_string (are.values_before from) ∙ same ∙ sym (ap is_string (are.values_after row))))
      ];
    }

so_retyped : (p : Rows) (change : Change) (before after : Typed) (local : ℕ) (c : Comparison) (row : ℕ) → inlined_local change.course ≡ Some local → AreOf p change before after local c
    → IsRetyped p change before after row → is_retyped c row ≡ true
so_retyped p change before after local c row inlines are h =
    let local_is = some_is h.local local (sym h.inlines ∙ inlines) in
    let comes = subst (λ (origins : List ℕ). row_by (origin_of origins row) ≡ Some h.from) (sym are.origins) h.comes in
    let stays = subst (λ (r : RowRange). is_gone r h.from ≡ false) (ap (rows_at p) local_is ∙ sym are.gone) h.stays in
    ap (λ (found : Option ℕ). is_retyped_if found c row) comes ∙ (from_tells c h.from row).1 (stays, anew)
  where
    anew : IsTypedAnew c h.from row
    anew = elim h.differs [
      | inl apart ↦ inl (λ same. apart (sym (types_move p change before after local c h.from are) ∙ same ∙ are.types_after row))
      | inr apart ↦ inr (λ same. apart (sym (ap is_string (are.values_before h.from)) ∙ same ∙ ap is_string (are.values_after row)))
    ]

-- ---- the order of places

before_tells : (a b : Place) → Decides (is_before a b) (IsBefore a b)
before_tells a b = either (Decides-ltb a.cu.0 b.cu.0) (both (Decides-eqb a.cu.0 b.cu.0) (Decides-ltb a.at b.at))

before_trans : (a b c : Place) → IsBefore a b → IsBefore b c → IsBefore a c
before_trans a b c h k = elim h [
  | inl x ↦ elim k [ inl y ↦ inl (omega arith) | inr y ↦ inl (omega arith) ]
  | inr x ↦ elim k [ inl y ↦ inl (omega arith) | inr y ↦ inr (omega arith, omega arith) ]
]

never_before_itself : (a : Place) → IsBefore a a → ⊥
never_before_itself a h = elim h [ inl x ↦ omega arith | inr x ↦ omega arith ]

-- ---- the first of the rows so far

last_is : (n other : ℕ) → other < n + 1 → n ≤ other → other ≡ n
last_is n other lt more = omega arith

passed_over : (test : ℕ → Bool) (m : Marks) (n : ℕ) (first : Option ℕ) → test n ≡ false → IsFoundBelow test m n first → IsFoundBelow test m (n + 1) first
passed_over test m n first off h = by first h
  where
    never : (other : ℕ) → other < n + 1 → n ≤ other → test other ≡ true → ⊥
    never other lt more on = false≢true (sym off ∙ subst (λ (k : ℕ). test k ≡ true) (last_is n other lt more) on)

    by : (first : Option ℕ) → IsFoundBelow test m n first → IsFoundBelow test m (n + 1) first
    by None h = λ other lt on. elim (cases_lt other n) [ inl less ↦ h other less on | inr more ↦ never other lt more on ]
    by (Some row) h = record {
      is = h.is;
      below = let below = h.below in omega arith;
      first = λ other lt on before. elim (cases_lt other n) [ inl less ↦ h.first other less on before | inr more ↦ never other lt more on ];
      lowest = λ other lt on at. elim (cases_lt other n) [ inl less ↦ h.lowest other less on at | inr more ↦ absurd (never other lt more on) ];
    }

found_here : (test : ℕ → Bool) (m : Marks) (n : ℕ) (first : Option ℕ) → test n ≡ true → IsFoundBelow test m n first → IsFoundBelow test m (n + 1) (first_of m first n)
found_here test m n first on h = by first h
  where
    here : (other : ℕ) → other < n + 1 → n ≤ other → IsBefore (place_of_name m other) (place_of_name m n) → ⊥
    here other lt more before = never_before_itself (place_of_name m n) (subst (λ (k : ℕ). IsBefore (place_of_name m k) (place_of_name m n)) (last_is n other lt more) before)

    chosen : (row : ℕ) → IsFirstBelow test m n row → (b : Bool) → is_before (place_of_name m n) (place_of_name m row) ≡ b → IsFirstBelow test m (n + 1) (if b then n else row)
    chosen row h true e = let earlier = (before_tells (place_of_name m n) (place_of_name m row)).0 e in record {
      is = on;
      below = omega arith;
      first = λ other lt so before. elim (cases_lt other n) [
        | inl less ↦ h.first other less so (before_trans (place_of_name m other) (place_of_name m n) (place_of_name m row) before earlier)
        | inr more ↦ here other lt more before
      ];
      lowest = λ other lt so at. elim (cases_lt other n) [
        | inl less ↦ absurd (h.first other less so (subst (λ (p : Place). IsBefore p (place_of_name m row)) (sym at) earlier))
        | inr more ↦ more
      ];
    }
    chosen row h false e = let below = h.below in record {
      is = h.is;
      below = omega arith;
      first = λ other lt so before. elim (cases_lt other n) [
        | inl less ↦ h.first other less so before
        | inr more ↦ false≢true (sym e ∙ (before_tells (place_of_name m n) (place_of_name m row)).1 (subst (λ (k : ℕ). IsBefore (place_of_name m k) (place_of_name m row)) (last_is n other lt more) before))
      ];
      lowest = λ other lt so at. elim (cases_lt other n) [ inl less ↦ h.lowest other less so at | inr more ↦ omega arith ];
    }

    by : (first : Option ℕ) → IsFoundBelow test m n first → IsFoundBelow test m (n + 1) (first_of m first n)
    by None h = record {
      is = on;
      below = omega arith;
      first = λ other lt so before. elim (cases_lt other n) [ inl less ↦ h other less so | inr more ↦ here other lt more before ];
      lowest = λ other lt so at. elim (cases_lt other n) [ inl less ↦ absurd (h other less so) | inr more ↦ more ];
    }
    by (Some row) h = chosen row h (is_before (place_of_name m n) (place_of_name m row)) refl

pub none_below : (test : ℕ → Bool) (m : Marks) → IsFoundBelow test m 0 None
none_below test m = λ row lt on. omega arith

pub found_more : (test : ℕ → Bool) (m : Marks) (n : ℕ) (first next : Option ℕ) → next ≡ (if test n then first_of m first n else first) → IsFoundBelow test m n first → IsFoundBelow test m (n + 1) next
found_more test m n first next e h = subst (λ (found : Option ℕ). IsFoundBelow test m (n + 1) found) (sym e) (by (test n) refl)
  where
    by : (b : Bool) → test n ≡ b → IsFoundBelow test m (n + 1) (if b then first_of m first n else first)
    by true on = found_here test m n first on h
    by false off = passed_over test m n first off h

pub found_all : (test : ℕ → Bool) (m : Marks) (n count : ℕ) (found : Option ℕ) → n ≡ count → IsFoundBelow test m n found → IsFoundBelow test m count found
found_all test m n count found e h = subst (λ (end : ℕ). IsFoundBelow test m end found) e h

-- ---- the answer

found_so : (p : Rows) (change : Change) (before after : Typed) (m : Marks) (local : ℕ) (c : Comparison) (found : Option ℕ) → inlined_local change.course ≡ Some local → AreOf p change before after local c
    → IsFoundBelow (is_retyped c) m (length c.origins) found → IsRetypedIf p change before after m found
found_so p change before after m local c found inlines are h = by found h
  where
    test : (other : ℕ) → IsRetyped p change before after other → is_retyped c other ≡ true
    test other is = so_retyped p change before after local c other inlines are is

    by : (found : Option ℕ) → IsFoundBelow (is_retyped c) m (length c.origins) found → IsRetypedIf p change before after m found
    by None h = λ row is. h row (retyped_below c row (test row is)) (test row is)
    by (Some row) h = record {
      retyped = retyped_so p change before after local c row inlines are h.is;
      first = λ other is before_it. h.first other (retyped_below c other (test other is)) (test other is) before_it;
      lowest = λ other is at. h.lowest other (retyped_below c other (test other is)) (test other is) at;
    }

are_of : (old new : Project) (locks : Locks) (change : Change) (before after : Typed) (local : ℕ) → AreCompared old new locks change before after → AreOf (rows_of old) change before after local (comparison_of old new locks local)
are_of old new locks change before after local are = record {
  origins = are.origins;
  copies = are.copies;
  gone = refl;
  types_before = are.before_is.types;
  types_after = are.after_is.types;
  values_before = are.before_is.values;
  values_after = are.after_is.values;
}

pub inline_so : (old new : Project) (locks : Locks) (change : Change) (local : ℕ) (given found : Option ℕ) (r : Retyping) → given ≡ inlined_local change.course → given ≡ Some local
    → comparison r ≡ comparison_of old new locks local → (IsOrdered new.marks → length r.origin.now < 2 ^ 32 → IsFoundBelow (is_retyped (comparison r)) new.marks (length r.origin.now) found)
    → (before after : Typed) → AreCompared old new locks change before after → IsRetypedIf (rows_of old) change before after new.marks found
inline_so old new locks change local given found r is some same h before after are =
    let few : length r.origin.now < 2 ^ 32 = subst (λ (n : ℕ). n < 2 ^ 32) (sym (ap (λ (c : Comparison). length c.origins) same)) are.few in
    found_so (rows_of old) change before after new.marks local (comparison_of old new locks local) found (sym is ∙ some) (are_of old new locks change before after local are)
    (subst (λ (c : Comparison). IsFoundBelow (is_retyped c) new.marks (length c.origins) found) same (h are.ordered few))

pub other_so : (p : Rows) (change : Change) (before after : Typed) (m : Marks) (given : Option ℕ) → given ≡ inlined_local change.course → given ≡ None → IsRetypedIf p change before after m None
other_so p change before after m given is none = λ row h. none_some h.local (sym none ∙ is ∙ h.inlines)
  where
    none_some : (local : ℕ) → None ≡ Some local → ⊥
    none_some local e = cc

pub same_comparison : (before one after other : Typed) (origins copies from to : List ℕ) (gone rows : RowRange) → before ≡ one → after ≡ other → origins ≡ from → copies ≡ to → gone ≡ rows
    → ◌≡◌ {A = Comparison} (record { before = before; after = after; origins = origins; copies = copies; gone = gone }) (record { before = one; after = other; origins = from; copies = to; gone = rows })
same_comparison before one after other origins copies from to gone rows b a o c g = λ i. record { before = b i; after = a i; origins = o i; copies = c i; gone = g i }
