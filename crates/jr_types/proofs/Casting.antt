-- Casts from the innermost types out.
use Rattle.std.proofs.Common.{◌≡◌, refl, ◌∙◌, ap, ap₂, arith, ◌⊎◌, inl, inr, ℕ, zero, suc, ◌+◌, ◌-◌, Bool, ◌&&◌, ◌||◌, nat_eq}
use Rattle.std.proofs.lemmas.Bool.{ne_eqb}
use Rattle.jr_tree.specs.Rows.{Rows}
use Rattle.jr_defs.specs.declared.referent.Element.{Element}
use Rattle.jr_defs.specs.declared.referent.RowType.{RowType}
use Rattle.jr_defs.specs.Referents.{Table}
use Rattle.jr_defs.specs.Types.{array}
use Rattle.jr_plain.specs.Supertypes.{is_reference_type}
use Rattle.jr_plain.specs.Conversions.{is_related, is_castable_from, is_castable}
use Rattle.jr_types.specs.Casts.{is_castable_plain, is_castable_end, is_castable_over}

by_dims : (p : Rows) (t : Table) (a b : Element) (m n : ℕ) → (m ≡ 0) ⊎ (n ≡ 0) → (nat_eq m 0 && nat_eq n 0 && is_castable_plain p a b) || is_related p t (array a m) (array b n) ≡ is_castable_from p t a b m n
by_dims p t a b zero zero h = refl
by_dims p t a b zero (suc n) h = ap (λ x. (x && is_castable_plain p a b) || is_related p t (array a 0) (array b (suc n))) (ne_eqb (suc n) 0 (λ e. absurd (omega arith)))
by_dims p t a b (suc m) zero h = ap (λ x. (x && nat_eq 0 0 && is_castable_plain p a b) || is_related p t (array a (suc m)) (array b 0)) (ne_eqb (suc m) 0 (λ e. absurd (omega arith)))
by_dims p t a b (suc m) (suc n) (inl e) = absurd (omega arith)
by_dims p t a b (suc m) (suc n) (inr e) = absurd (omega arith)

-- the innermost types that both have
pub castable_start : (p : Rows) (t : Table) (a b : Element) (m n : ℕ) (x y : RowType) (is : Bool) → x ≡ array a m → y ≡ array b n → is ≡ is_castable_end p t x y → (m ≡ 0) ⊎ (n ≡ 0)
    → is ≡ is_castable_from p t a b (m + 0) (n + 0)
castable_start p t a b m n x y is ex ey e h = e ∙ ap₂ (λ u v. is_castable_end p t u v) ex ey ∙ by_dims p t a b m n h
    ∙ ap₂ (λ i j. is_castable_from p t a b i j) (let z : m ≡ m + 0 = omega arith in z) (let z : n ≡ n + 0 = omega arith in z)

over_by : (p : Rows) (t : Table) (a b : Element) (m n i j : ℕ) → i ≡ m → j ≡ n
    → (is_reference_type (array a i) && is_reference_type (array b j) && is_castable_from p t a b m n) || is_related p t (array a (suc m)) (array b (suc n)) ≡ is_castable_from p t a b (suc m) (suc n)
over_by p t a b m n i j ei ej = ap₂ (λ i j. (is_reference_type (array a i) && is_reference_type (array b j) && is_castable_from p t a b m n) || is_related p t (array a (suc m)) (array b (suc n))) ei ej

-- one dimension more
castable_over : (p : Rows) (t : Table) (a b : Element) (m n : ℕ) (x y : RowType) (inner is : Bool) → x ≡ array a (suc m) → y ≡ array b (suc n) → inner ≡ is_castable_from p t a b m n
    → is ≡ is_castable_over p t x y inner → is ≡ is_castable_from p t a b (suc m) (suc n)
castable_over p t a b m n x y inner is ex ey ei e = e ∙ ap₂ (λ u v. is_castable_over p t u v inner) ex ey ∙ ap (λ i. is_castable_over p t (array a (suc m)) (array b (suc n)) i) ei
    ∙ over_by p t a b m n (suc m - 1) (suc n - 1) (omega arith) (omega arith)

pub castable_next : (p : Rows) (t : Table) (a b : Element) (low high more next : ℕ) (x y : RowType) (inner is : Bool) → next ≡ more + 1 → x ≡ array a (low + more + 1) → y ≡ array b (high + more + 1)
    → inner ≡ is_castable_from p t a b (low + more) (high + more) → is ≡ is_castable_over p t x y inner → is ≡ is_castable_from p t a b (low + next) (high + next)
castable_next p t a b low high more next x y inner is en ex ey ei e =
    castable_over p t a b (low + more) (high + more) x y inner is (ex ∙ ap (array a) (let z : low + more + 1 ≡ suc (low + more) = omega arith in z)) (ey ∙ ap (array b) (let z : high + more + 1 ≡ suc (high + more) = omega arith in z)) ei e
    ∙ ap₂ (λ i j. is_castable_from p t a b i j) (let z : suc (low + more) ≡ low + next = omega arith in z) (let z : suc (high + more) ≡ high + next = omega arith in z)

-- all of them are the two types
pub castable_all : (p : Rows) (t : Table) (from to : RowType) (is : Bool) (low high turn : ℕ) → is ≡ is_castable_from p t from.element to.element (low + turn) (high + turn) → low + turn ≡ from.dims → high + turn ≡ to.dims
    → is ≡ is_castable p t from to
castable_all p t from to is low high turn e l h = e ∙ ap₂ (λ x y. is_castable_from p t from.element to.element x y) l h
