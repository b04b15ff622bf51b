-- The first row with each name, one row at a time.
use Rattle.std.proofs.lemmas.Bool.{false≢true}
use Rattle.std.proofs.lemmas.Slice.Eq.{bytes_eq-Decides}
use Rattle.std.proofs.Common.{Decides, ◌≡◌, refl, sym, ◌∙◌, ap, ap₂, subst, ℕ, ◌+◌, ◌<◌, Bool, true, false, cond, List, Option, Some, None, add-one, length, [], ◌∷◌, ◌++◌}
use Rattle.std.specs.Prelude.{bytes_eq, unwrap_or, slice_index_or}
use Rattle.std.specs.Borrow.{Bor}
use Rattle.std.specs.Option.{option_or}
use Rattle.std.specs.HashMap.{HashMap, IsEmpty}
use Rattle.std.specs.Map.{lookup}
use Rattle.jr_tree.specs.Rows.{Rows, name}
use Rattle.jr_plain.specs.Search.{first_below}
use Rattle.std.proofs.lemmas.Option.{none-some}
use Rattle.jr_places.specs.Tabulated.{tabulated}
use Rattle.jr_places.proofs.Tables.{tabulated_at}
use Rattle.jr_places.specs.Names.{name_row, text_at, IsNamed, Numbers}

pub named_start : {S : Type 0} (p : Rows) (numbers : HashMap (Bor (List ℕ)) ℕ S) (all : List ℕ) → IsEmpty numbers → all ≡ [] → IsNamed p 0 numbers all
named_start p numbers all empty none = record { first = λ q. ap (lookup (λ key. bytes_eq q key.now)) empty; listed = none }

named_now : (p : Rows) (n : ℕ) (old : List ℕ → Option ℕ) → ((q : List ℕ) → old q ≡ first_below n (λ k. bytes_eq q (name p k))) → (text : List ℕ) (at number : ℕ) → text ≡ name p n → at ≡ n
    → number ≡ unwrap_or (old text) at → number ≡ name_row p n
named_now p n old h text at number named same is = is ∙ ap (λ o. unwrap_or o at) (h text) ∙ ap₂ (λ text at. unwrap_or (first_below n (λ k. bytes_eq text (name p k))) at) named same

pub named_more : {S : Type 0} {p : Rows} {n : ℕ} {old new : HashMap (Bor (List ℕ)) ℕ S} {all : List ℕ} {text : List ℕ} {at : ℕ} (m number : ℕ) (more : List ℕ) → IsNamed p n old all
    → Numbers old new text at → text ≡ name p n → at ≡ n → number ≡ unwrap_or (text_at old text) at → more ≡ all ++ number ∷ [] → m ≡ n + 1 → IsNamed p m new more
named_more {p = p} {n = n} {old = old} {new = new} {all = all} {text = text} {at = at} m number more h k named same is pushed next = subst (λ m. IsNamed p m new more) (sym (next ∙ add-one n)) (record {
  first = λ q. k.kept q ∙ ap₂ (λ before last. option_or before last) (h.first q) (ap₂ (λ text at. cond (bytes_eq q text) (Some at) None) named same);
  listed = pushed ∙ ap₂ (λ xs x. xs ++ x ∷ []) h.listed (named_now p n (text_at old) h.first text at number named same is);
})

-- a text that had no number has one
pub named_insert : (text : List ℕ) (at : ℕ) (old : List ℕ → Option ℕ) (q : List ℕ) (found : Option ℕ) → None ≡ old text → found ≡ cond (bytes_eq text q) (Some at) (old q)
    → found ≡ option_or (old q) (cond (bytes_eq q text) (Some at) None)
named_insert text at old q found absent h = h ∙ by (bytes_eq text q) (bytes_eq q text) (bytes_eq-Decides text q) (bytes_eq-Decides q text)
  where
    by : (a b : Bool) → Decides a (text ≡ q) → Decides b (q ≡ text) → cond a (Some at) (old q) ≡ option_or (old q) (cond b (Some at) None)
    by true true d e = ap (λ o. option_or o (Some at)) (absent ∙ ap old (d.0 refl))
    by true false d e = absurd (false≢true (e.1 (sym (d.0 refl))))
    by false true d e = absurd (false≢true (d.1 (sym (e.0 refl))))
    by false false d e = same (old q)
      where
        same : (o : Option ℕ) → o ≡ option_or o None
        same None = refl
        same (Some x) = refl

-- it has the one that it had
pub numbers_same : {S : Type 0} (numbers : HashMap (Bor (List ℕ)) ℕ S) (text : List ℕ) (at found : ℕ) → Some found ≡ text_at numbers text → Numbers numbers numbers text at
numbers_same numbers text at found had = record { kept = λ q. by (text_at numbers q) (bytes_eq q text) (bytes_eq-Decides q text) refl }
  where
    by : {q : List ℕ} (o : Option ℕ) (b : Bool) → Decides b (q ≡ text) → o ≡ text_at numbers q → o ≡ option_or o (cond b (Some at) None)
    by (Some x) b d e = refl
    by None false d e = refl
    by None true d e = absurd (none-some found (e ∙ ap (text_at numbers) (d.0 refl) ∙ sym had))

pub named_at : (p : Rows) (names : List ℕ) (n : ℕ) → names ≡ tabulated (name_row p) (length p) → n < length p → slice_index_or names n n ≡ name_row p n
named_at p names n e lt = ap (λ xs. slice_index_or xs n n) e ∙ tabulated_at (name_row p) n (length p) n lt
