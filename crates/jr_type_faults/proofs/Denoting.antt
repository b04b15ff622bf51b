-- What denotes a variable, from parentheses inwards.
use Rattle.std.proofs.Common.{◌≡◌, refl, sym, ◌∙◌, ap, arith, ℕ, suc, ◌+◌, ◌-◌, ◌<◌, ◌≤◌, Bool, true, false, cond, ◌&&◌, ◌||◌, length, nat_eq, Option, Some, None}
use Rattle.std.proofs.lemmas.Bool.{false≢true}
use Rattle.std.proofs.lemmas.Option.{none-some, same_Some}
use Rattle.jr_tree.specs.Rows.{Rows, label, parent}
use Rattle.jr_defs.specs.Referents.{Table}
use Rattle.jr_plain.specs.Declarations.{is_variable}
use Rattle.jr_supers.specs.Tabled.{first_child}
use Rattle.jr_rules.specs.TypedTests.{declared_row, found}
use Rattle.jr_rules.specs.OperandTests.{is_index, is_paren, denotes_by, denotes_within, denotes_variable}

-- ---- tests

so_told : (a b x : Bool) → (a || b) ≡ true → (a || (b || x)) ≡ true
so_told true b x is = refl
so_told false true x is = refl
so_told false false x is = absurd (false≢true is)

else_told : (a b x : Bool) → (a || b) ≡ false → (a || (b || x)) ≡ x
else_told true b x is = absurd (false≢true (sym is))
else_told false true x is = absurd (false≢true (sym is))
else_told false false x is = refl

inner_none : (q e x : Bool) (n : ℕ) → cond q (cond e (Some n) None) None ≡ None → ((q && e) && x) ≡ false
inner_none true true x n is = absurd (none-some n (sym is))
inner_none true false x n is = refl
inner_none false e x n is = refl

inner_some : (q e x : Bool) (n m : ℕ) → cond q (cond e (Some n) None) None ≡ Some m → (((q && e) && x) ≡ x) × (n ≡ m)
inner_some true true x n m is = (refl, same_Some n m is)
inner_some true false x n m is = absurd (none-some m is)
inner_some false e x n m is = absurd (none-some m is)

module _ (p : Rows) (t : Table) where
  abbrev plainly : ℕ → Bool
  plainly n = found (declared_row (t n)) (λ d. is_variable p d) || is_index (label p n)

  abbrev inner : ℕ → Option ℕ
  inner n = cond (is_paren (label p n)) (first_child p n) None

  module _ (n : ℕ) (x : Bool) where
    by_plain : plainly n ≡ true → denotes_by p t n x ≡ true
    by_plain is = so_told (found (declared_row (t n)) (λ d. is_variable p d)) (is_index (label p n)) _ is

    by_none : plainly n ≡ false → inner n ≡ None → denotes_by p t n x ≡ false
    by_none apart none = else_told (found (declared_row (t n)) (λ d. is_variable p d)) (is_index (label p n)) _ apart ∙ inner_none (is_paren (label p n)) (nat_eq (parent p (n + 1)) n) x (n + 1) none

    by_some : (m : ℕ) → plainly n ≡ false → inner n ≡ Some m → (denotes_by p t n x ≡ x) × (n + 1 ≡ m)
    by_some m apart is = let both = inner_some (is_paren (label p n)) (nat_eq (parent p (n + 1)) n) x (n + 1) m is in
        (else_told (found (declared_row (t n)) (λ d. is_variable p d)) (is_index (label p n)) _ apart ∙ both.0, both.1)

  -- with so many rounds left, the answer at a row is the one that is sought
  abbrev pub IsSought : ℕ → ℕ → Bool → Type 0
  IsSought rounds n answer = denotes_within p t rounds n ≡ answer

  pub sought_start : (n : ℕ) → IsSought (length p - 0) n (denotes_variable p t n)
  sought_start n = ap (λ r. denotes_within p t r n) (let z : length p - 0 ≡ length p = omega arith in z)

  left : (turn : ℕ) → turn < length p → length p - turn ≡ suc (length p - (turn + 1))
  left turn lt = omega arith

  pub sought_here : (turn n : ℕ) (answer : Bool) → turn < length p → IsSought (length p - turn) n answer → plainly n ≡ true → true ≡ answer
  sought_here turn n answer lt h is = sym (by_plain n _ is) ∙ sym (ap (λ r. denotes_within p t r n) (left turn lt)) ∙ h

  pub sought_none : (turn n : ℕ) (answer : Bool) → turn < length p → IsSought (length p - turn) n answer → plainly n ≡ false → inner n ≡ None → false ≡ answer
  sought_none turn n answer lt h apart none = sym (by_none n _ apart none) ∙ sym (ap (λ r. denotes_within p t r n) (left turn lt)) ∙ h

  pub sought_next : (turn n m : ℕ) (answer : Bool) → turn < length p → IsSought (length p - turn) n answer → plainly n ≡ false → inner n ≡ Some m → IsSought (length p - (turn + 1)) m answer
  sought_next turn n m answer lt h apart is = let next = by_some n (denotes_within p t (length p - (turn + 1)) (n + 1)) m apart is in
      ap (denotes_within p t (length p - (turn + 1))) (sym next.1) ∙ sym next.0 ∙ sym (ap (λ r. denotes_within p t r n) (left turn lt)) ∙ h

  pub sought_end : (turn n : ℕ) (answer : Bool) → length p ≤ turn → IsSought (length p - turn) n answer → false ≡ answer
  sought_end turn n answer le h = sym (ap (λ r. denotes_within p t r n) (let z : length p - turn ≡ 0 = omega arith in z)) ∙ h
