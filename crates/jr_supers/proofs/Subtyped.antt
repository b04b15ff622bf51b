-- The test of subtypes by dimensions is that of the definition.
use Rattle.std.proofs.Common.{◌≡◌, ◌<◌, ⊎_elim, refl, sym, ◌∙◌, ap, ap₂, arith, ℕ, zero, suc, Bool, true, false, cond, ◌&&◌, ◌||◌, nat_eq, nat_lt, Decides}
use Rattle.std.proofs.lemmas.Bool.{false≢true, cases_Bool, cases_eq, cases_lt}
use Rattle.std.proofs.lemmas.Bool.Decides.{Decides-eqb, Decides-ltb}
use Rattle.jr_tree.specs.Rows.{Rows}
use Rattle.jr_defs.specs.declared.referent.Element.{Element}
use Rattle.jr_defs.specs.declared.referent.Element.TheVariants as element
use Rattle.jr_defs.specs.declared.referent.RowType.{RowType}
use Rattle.jr_defs.specs.Referents.{Table}
use Rattle.jr_plain.specs.Same.{same_element}
use Rattle.jr_plain.specs.Supertypes.{widens, is_null, is_reference, is_object_type, is_above_class, is_below, is_subtype}
use Rattle.jr_supers.specs.Supers.{is_below_plain, is_subtype_where}

-- tests that tell the same are one
pub one_test : (a b : Bool) (P : Type 0) → Decides a P → Decides b P → a ≡ b
one_test true true P d e = refl
one_test true false P d e = sym (e.1 (d.0 refl))
one_test false true P d e = d.1 (e.0 refl)
one_test false false P d e = refl

regroup : (a b c d : Bool) → (((a || b) || c) || d) ≡ ((a || (b || c)) || d)
regroup true b c d = refl
regroup false b c d = refl

apart : (m n : ℕ) → (m ≡ n → ⊥) → nat_eq m n ≡ false
apart m n no' = ⊎_elim (λ h. absurd (no' ((Decides-eqb m n).0 h))) (λ h. h) (cases_Bool (nat_eq m n))

and_false : (b : Bool) → (b && false) ≡ false
and_false true = refl
and_false false = refl

module _ (p : Rows) (t : Table) where
  -- only classes are reference types without dimensions that may be below another
  of_classes : (a b : Element) → ((is_reference 0 a && is_reference 0 b) && (is_below_plain a b || is_above_class p t a b)) ≡ is_above_class p t a b
  of_classes (element.Class c) (element.Class s) = refl
  of_classes (element.Class c) _ = refl
  of_classes _ _ = refl

  no_null : (a : Element) (r : Bool) → ((is_reference 0 a && r) && is_null a) ≡ false
  no_null (element.Class c) r = and_false r
  no_null _ r = refl

  of_object : (n : ℕ) (b : Element) → (is_reference n b && is_object_type p b) ≡ is_object_type p b
  of_object zero (element.Class s) = refl
  of_object zero _ = refl
  of_object (suc n) b = refl

  module _ (a b : Element) where
    -- as many dimensions
    even_step : (n : ℕ) (same : Bool) → is_below p t a b n n ≡ ((same || (nat_eq n 0 && is_below_plain a b)) || is_above_class p t a b)
        → ((same && nat_eq n n) || ((is_reference n a && is_reference n b) && is_below p t a b n n)) ≡ ((same || (nat_eq (suc n) 0 && is_below_plain a b)) || is_above_class p t a b)
    even_step n true h = ap (λ x. x || ((is_reference n a && is_reference n b) && is_below p t a b n n)) ((Decides-eqb n n).1 refl)
    even_step zero false h = ap (λ x. (is_reference 0 a && is_reference 0 b) && x) h ∙ of_classes a b ∙ ap (λ x. (x && is_below_plain a b) || is_above_class p t a b) (sym (apart 1 0 (λ e. absurd (omega arith))))
    even_step (suc n) false h = h ∙ ap (λ x. (x && is_below_plain a b) || is_above_class p t a b) (apart (suc n) 0 (λ e. absurd (omega arith)) ∙ sym (apart (suc (suc n)) 0 (λ e. absurd (omega arith))))

    even : (n : ℕ) → is_below p t a b n n ≡ ((same_element a b || (nat_eq n 0 && is_below_plain a b)) || is_above_class p t a b)
    even zero = regroup (same_element a b) (widens a b) (is_null a && is_reference zero b) (is_above_class p t a b)
    even (suc n) = even_step n (same_element a b) (even n)

    -- fewer
    fewer_step : (m n : ℕ) (same : Bool) → nat_eq m n ≡ false → is_below p t a b m n ≡ (nat_eq m 0 && is_null a) → ((same && nat_eq m n) || ((is_reference m a && is_reference n b) && is_below p t a b m n)) ≡ false
    fewer_step m n same e h = ap₂ (λ x y. (same && x) || ((is_reference m a && is_reference n b) && y)) e h ∙ ap (λ x. x || ((is_reference m a && is_reference n b) && (nat_eq m 0 && is_null a))) (and_false same) ∙ by m
      where
        by : (m : ℕ) → ((is_reference m a && is_reference n b) && (nat_eq m 0 && is_null a)) ≡ false
        by zero = no_null a (is_reference n b)
        by (suc m) = ap (λ x. (true && is_reference n b) && (x && is_null a)) (apart (suc m) 0 (λ e. absurd (omega arith))) ∙ and_false (true && is_reference n b)

    fewer : (m n : ℕ) → m < n → is_below p t a b m n ≡ (nat_eq m 0 && is_null a)
    fewer zero zero lt = absurd (omega arith)
    fewer zero (suc n) lt = refl
    fewer (suc m) zero lt = absurd (omega arith)
    fewer (suc m) (suc n) lt = fewer_step m n (same_element a b) (apart m n (λ e. absurd (omega arith))) (fewer m n (omega arith)) ∙ sym (ap (λ x. x && is_null a) (apart (suc m) 0 (λ e. absurd (omega arith))))

    -- more
    more_step : (m n : ℕ) (same : Bool) → nat_eq m n ≡ false → n < m → is_below p t a b m n ≡ is_object_type p b → ((same && nat_eq m n) || ((is_reference m a && is_reference n b) && is_below p t a b m n)) ≡ is_object_type p b
    more_step zero n same e lt h = absurd (omega arith)
    more_step (suc m) n same e lt h = ap₂ (λ x y. (same && x) || (is_reference n b && y)) e h ∙ ap (λ x. x || (is_reference n b && is_object_type p b)) (and_false same) ∙ of_object n b

    more : (m n : ℕ) → n < m → is_below p t a b m n ≡ is_object_type p b
    more zero n lt = absurd (omega arith)
    more (suc m) zero lt = refl
    more (suc m) (suc n) lt = more_step m n (same_element a b) (apart m n (λ e. absurd (omega arith))) (omega arith) (more m n (omega arith))

    Form : ℕ → ℕ → Bool → Bool → Bool
    Form m n x y = cond x ((same_element a b || (nat_eq m 0 && is_below_plain a b)) || is_above_class p t a b) (cond y (is_object_type p b) (nat_eq m 0 && is_null a))

    formed : (m n : ℕ) (x y : Bool) → nat_eq m n ≡ x → nat_lt n m ≡ y → Form m n x y ≡ is_below p t a b m n
    unfolding Form
    formed m n true y e f = sym (even m) ∙ ap (is_below p t a b m) ((Decides-eqb m n).0 e)
    formed m n false true e f = sym (more m n ((Decides-ltb n m).0 f))
    formed m n false false e f = sym (fewer m n (⊎_elim (λ lt. absurd (false≢true (sym f ∙ (Decides-ltb n m).1 lt)))
        (λ le. ⊎_elim (λ same. absurd (false≢true (sym e ∙ (Decides-eqb m n).1 same))) (λ no'. omega arith) (cases_eq m n)) (cases_lt n m)))

    pub where_is : (m n : ℕ) → is_subtype_where p (record { element = a; dims = m }) (record { element = b; dims = n }) (is_above_class p t a b) ≡ is_below p t a b m n
    unfolding Form
    where_is m n = formed m n (nat_eq m n) (nat_lt n m) refl refl

pub subtype_is : (p : Rows) (t : Table) (low high : RowType) (above : Bool) → above ≡ is_above_class p t low.element high.element → is_subtype_where p low high above ≡ is_subtype p t low high
subtype_is p t low high above is = ap (is_subtype_where p low high) is ∙ where_is p t low.element high.element low.dims high.dims
