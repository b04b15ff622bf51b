-- The qualifiers of a reference, one at a time.
use Rattle.std.proofs.Common.{◌≡◌, refl, sym, ◌∙◌, ap, arith, ℕ, zero, suc, ◌+◌, ◌-◌, ◌<◌, ◌≤◌, Bool, true, false, cond, List, [], ◌∷◌, ◌++◌, append_assoc, append-nil}
use Rattle.jr_tree.specs.Rows.{Rows}
use Rattle.jr_defs.specs.Referents.{Table}
use Rattle.jr_shapes.specs.Parts.{is_qualifier, parts_from}

by_true : (b : Bool) (k : ℕ) (xs : List ℕ) → b ≡ true → cond b (k ∷ xs) [] ≡ k ∷ xs
by_true true k xs h = refl
by_true false k xs h = cc

by_false : (b : Bool) (k : ℕ) (xs : List ℕ) → b ≡ false → cond b (k ∷ xs) [] ≡ []
by_false true k xs h = cc
by_false false k xs h = refl

step : (p : Rows) (t : Table) (n m : ℕ) → is_qualifier p t n ≡ true → parts_from p t n (suc m) ≡ n ∷ parts_from p t (n + 1) m
step p t n m h = by_true (is_qualifier p t n) n (parts_from p t (n + 1) m) h

-- these are the first of so many from one on, and the next one may stand at n
pub record PartsTo (p : Rows) (t : Table) (first end n : ℕ) (done : List ℕ) : Type 0 where
  pub rest : done ++ parts_from p t n (end - n) ≡ parts_from p t first (end - first)

pub parts_more : {p : Rows} {t : Table} {first end n : ℕ} {done : List ℕ} (more : List ℕ) → PartsTo p t first end n done → is_qualifier p t n ≡ true → n < end → more ≡ done ++ n ∷ []
    → PartsTo p t first end (n + 1) more
parts_more {p = p} {t = t} {first = first} {end = end} {n = n} {done = done} more before h lt pushed = record {
  rest = ap (λ xs. xs ++ parts_from p t (n + 1) (end - (n + 1))) pushed ∙ append_assoc done (n ∷ []) (parts_from p t (n + 1) (end - (n + 1)))
      ∙ ap (λ xs. done ++ xs) (sym (step p t n (end - (n + 1)) h)) ∙ ap (λ m. done ++ parts_from p t n m) room ∙ before.rest;
}
  where
    room : suc (end - (n + 1)) ≡ end - n
    room = omega arith

stopped : (p : Rows) (t : Table) (n m : ℕ) → is_qualifier p t n ≡ false → parts_from p t n m ≡ []
stopped p t n zero h = refl
stopped p t n (suc m) h = by_false (is_qualifier p t n) n (parts_from p t (n + 1) m) h

pub parts_stop : {p : Rows} {t : Table} {first end n : ℕ} {done : List ℕ} → PartsTo p t first end n done → is_qualifier p t n ≡ false → done ≡ parts_from p t first (end - first)
parts_stop {p = p} {t = t} {end = end} {n = n} {done = done} before h = sym (append-nil done) ∙ ap (λ xs. done ++ xs) (sym (stopped p t n (end - n) h)) ∙ before.rest

pub parts_end : {p : Rows} {t : Table} {first end n : ℕ} {done : List ℕ} → PartsTo p t first end n done → end ≤ n → done ≡ parts_from p t first (end - first)
parts_end {p = p} {t = t} {end = end} {n = n} {done = done} before h = sym (append-nil done) ∙ ap (λ m. done ++ parts_from p t n m) none ∙ before.rest
  where
    none : 0 ≡ end - n
    none = omega arith
