-- Spellings without casts, one after another.
use Rattle.std.proofs.Common.{◌≡◌, refl, sym, ◌∙◌, ap, subst, ℕ, Bool, true, false, not, ◌&&◌, cond, List, [], ◌∷◌, ◌++◌, Option, Some, None, nat_lt}
use Rattle.std.specs.List.{AllByRecursion}
use Rattle.std.specs.Option.{is_none}
use Rattle.std.proofs.lemmas.Option.{none-some, same_Some}
use Rattle.jr_tree.specs.Rows.{sought_at}
use Rattle.jr_plain.specs.Lookup.{arguments}
use Rattle.jr_shapes.specs.declared.spelling.Spelling.{Spelling}
use Rattle.jr_spelling_rules.specs.Candidates as candidate
use Rattle.jr_spelling_rules.specs.Candidates.{Candidate}
use Rattle.jr_spelling_rules.specs.Spelling.{Written, cast_spelling}
use Rattle.jr_spell.specs.declared.fitting.Fit.{Fit}
use Rattle.jr_spell.specs.declared.speller.Speller.{Speller}
use Rattle.jr_spell.specs.declared.fault.SpellFault.{SpellFault}
use Rattle.jr_spell.specs.declared.fault.SpellFault.TheVariants as fault
use Rattle.jr_spell.specs.Shaping.{IsFitOf, written_plain, plainly, spelling_at, IsSpelled, AreSpelled, HasNone}
use Rattle.jr_spell.specs.Spellers.{rows_of, table_of, types_of, is_constant_variable, was_constant}
use Rattle.jr_spell.specs.Spelling.{IsWritten, IsFaultAt, IsExactAt}

-- ---- of one reference

pub written_some : {s : Speller} {n : ℕ} {o : Option Fit} {q : Option Candidate} → IsFitOf s n o q → (f : Fit) → o ≡ Some f → (a : Spelling) → a.row ≡ n → a.shape ≡ f.shape → a.casts.items ≡ [] → a.found ≡ f.found → a.trace.items ≡ f.trace.items
    → IsWritten n (Some a) (written_plain s n q)
written_some IsFitOf.none f e a row shape casts found trace = absurd (none-some f e)
written_some (IsFitOf.some {f = g} is_shape is_found is_trace) f e a row shape casts found trace = let same = same_Some g f e in
    IsWritten.some row (shape ∙ ap (λ (x : Fit). x.shape) (sym same) ∙ is_shape) casts (found ∙ ap (λ (x : Fit). x.found) (sym same) ∙ is_found) (trace ∙ ap (λ (x : Fit). x.trace.items) (sym same) ∙ is_trace)

pub written_none : {s : Speller} {n : ℕ} {o : Option Fit} {q : Option Candidate} → IsFitOf s n o q → o ≡ None → IsWritten n None (written_plain s n q)
written_none IsFitOf.none e = IsWritten.none
written_none (IsFitOf.some {f = g} x y z) e = absurd (none-some g (sym e))

module _ (s : Speller) (n : ℕ) where
  abbrev spelling_by : Option Written → Bool → Option Written
  spelling_by plain call = elim (cond (call && is_none (arguments (rows_of s) (types_of s) n)) None plain) as (λ _. Option Written) [
    | Some it ↦ Some it
    | None ↦ cond (call && not (nat_lt n s.written)) (cast_spelling (rows_of s) (table_of s) (types_of s) (was_constant s) s.written n (is_constant_variable s)) None
  ]

  itself : (plain : Option Written) → plain ≡ spelling_by plain false
  itself (Some it) = refl
  itself None = refl

  pub plain_spelling : candidate.is_call (sought_at (rows_of s) n) ≡ false → plainly s n (arguments (rows_of s) (types_of s) n) ≡ spelling_at s n
  plain_spelling e = itself (plainly s n (arguments (rows_of s) (types_of s) n)) ∙ ap (spelling_by (plainly s n (arguments (rows_of s) (types_of s) n))) (sym e)

-- no spelling is found where there is none
pub not_written : {n : ℕ} {o : Option Spelling} {q : Option Written} → IsWritten n o q → o ≡ None → q ≡ None
not_written IsWritten.none e = refl
not_written (IsWritten.some {a = a} r x y z w) e = absurd (none-some a (sym e))

pub written_row : {n : ℕ} {o : Option Spelling} {q : Option Written} → IsWritten n o q → (a : Spelling) → o ≡ Some a → a.row ≡ n
written_row IsWritten.none a e = absurd (none-some a e)
written_row (IsWritten.some {a = b} row x y z w) a e = ap (λ (s : Spelling). s.row) (sym (same_Some b a e)) ∙ row

-- ---- of many

pub all_more : (P : Spelling → Type 0) (all : List Spelling) (a : Spelling) → AllByRecursion P all → P a → AllByRecursion P (all ++ a ∷ [])
all_more P [] a h k = (k, tt)
all_more P (x ∷ all) a h k = (h.0, all_more P all a h.1 k)

-- ---- what is said of a reference

module _ (s : Speller) where
  pub none_spelled : (all : List Spelling) → all ≡ [] → AreSpelled s all
  none_spelled all e = subst (AreSpelled s) (sym e) (record { each = tt })

  pub more_spelled : (all : List Spelling) (a : Spelling) (both : List Spelling) → AreSpelled s all → IsSpelled s a → both ≡ all ++ a ∷ [] → AreSpelled s both
  more_spelled all a both h k e = subst (AreSpelled s) (sym e) (record { each = all_more (λ a. IsSpelled s a) all a h.each k })

  pub no_memory : {f : SpellFault} → f ≡ fault.OutOfMemory → HasNone s f
  no_memory e = subst (HasNone s) (sym e) tt

  abbrev Exact : ℕ → Type 0
  Exact n = IsExactAt (rows_of s) (table_of s) (types_of s) n

  pub one_spelled : (n : ℕ) (a : Spelling) {o : Option Spelling} → o ≡ Some a → a.row ≡ n → (Exact n → IsWritten n o (spelling_at s n)) → IsSpelled s a
  one_spelled n a e row h = λ exact. subst (λ k. IsWritten k (Some a) (spelling_at s k)) (sym row) (subst (λ q. IsWritten n q (spelling_at s n)) e (h (subst Exact row exact)))

  pub none_refused : (n : ℕ) (f : SpellFault) → IsFaultAt n f → {o : Option Spelling} → o ≡ None → (Exact n → IsWritten n o (spelling_at s n)) → HasNone s f
  none_refused n (fault.NoSpelling row found) at e h = λ exact. ap (spelling_at s) at ∙ not_written (h (subst Exact at exact)) e
  none_refused n fault.OutOfMemory at e h = tt
