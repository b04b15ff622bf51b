-- The answer of rows that have all one level.
use Rattle.std.proofs.Common.{◌≡◌, ℕ, Bool, true, false, ◌&&◌, if◌then◌else◌, List, [], ◌∷◌, Option, Some, None, nat_eq, refl, ap, ◌∙◌, subst}
use Rattle.std.specs.List.{list_all, slice_get}
use Rattle.std.proofs.lemmas.Bool.{eq-eqb}
use Rattle.jr_defs.specs.declared.referent.Referent.{Referent}
use Rattle.jr_defs.specs.declared.referent.Referent.TheVariants.{Ambiguous, Declared}
use Rattle.jr_plain.specs.Lists.{at_level}
use Rattle.jr_plain.specs.Referents.{answer_of}
use Rattle.jr_plain.specs.Same.{same_level, same_candidate}

none_some : {A : Type 0} {a : A} → None ≡ Some a → ⊥
none_some e = cc

some_none : {A : Type 0} {a : A} → Some a ≡ None → ⊥
some_none e = cc

some_is : {A : Type 0} {a b : A} → Some a ≡ Some b → a ≡ b
some_is e = cc

level_itself : (level : Option ℕ) → same_level level level ≡ true
level_itself None = refl
level_itself (Some n) = eq-eqb n n refl

and_true : (b : Bool) → (b && true) ≡ b
and_true true = refl
and_true false = refl

rest_is : (x : ℕ) (r b : Bool) → (nat_eq x x && r) ≡ b → r ≡ b
rest_is x r b h = rw (eq-eqb x x refl) at h

same_rows : (x : ℕ) (level : Option ℕ) (rows : List ℕ) → list_all (same_candidate (x, level)) (at_level level rows) ≡ list_all (nat_eq x) rows
same_rows x level [] = refl
same_rows x level (y ∷ more) = rw (level_itself level, and_true (nat_eq x y), same_rows x level more) refl

answered : (x : ℕ) (more : List ℕ) (level : Option ℕ) (o : Referent) (b : Bool) → list_all (nat_eq x) (x ∷ more) ≡ b
    → answer_of (at_level level (x ∷ more)) o ≡ (if b then Declared x level else Ambiguous)
answered x more level o b h = ap (λ c. if c then Declared x level else Ambiguous) (same_rows x level more ∙ rest_is x (list_all (nat_eq x) more) b h)

by_first : (rows : List ℕ) (level : Option ℕ) (first : ℕ) (o : Referent) (b : Bool) → slice_get rows 0 ≡ Some first → list_all (nat_eq first) rows ≡ b
    → answer_of (at_level level rows) o ≡ (if b then Declared first level else Ambiguous)
by_first [] level first o b h all = absurd (none_some h)
by_first (x ∷ more) level first o b h all =
    subst (λ f. list_all (nat_eq f) (x ∷ more) ≡ b → answer_of (at_level level (x ∷ more)) o ≡ (if b then Declared f level else Ambiguous)) (some_is h) (answered x more level o b) all

pub none_is : (rows : List ℕ) (level : Option ℕ) (o : Referent) → slice_get rows 0 ≡ None → answer_of (at_level level rows) o ≡ o
none_is [] level o h = refl
none_is (x ∷ more) level o h = absurd (some_none h)

pub one_is : (rows : List ℕ) (level : Option ℕ) (first : ℕ) (o : Referent) → slice_get rows 0 ≡ Some first → list_all (nat_eq first) rows ≡ true
    → answer_of (at_level level rows) o ≡ Declared first level
one_is rows level first o h all = by_first rows level first o true h all

pub several_are : (rows : List ℕ) (level : Option ℕ) (first : ℕ) (o : Referent) → slice_get rows 0 ≡ Some first → list_all (nat_eq first) rows ≡ false
    → answer_of (at_level level rows) o ≡ Ambiguous
several_are rows level first o h all = by_first rows level first o false h all
