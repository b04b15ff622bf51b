-- The packages and types before a reference as they would be written now.
use Rattle.std.proofs.Common.{◌≡◌, refl, sym, ◌∙◌, ap, ap₂, subst, ℕ, zero, suc, ◌+◌, ◌-◌, ◌<◌, Bool, true, false, cond, List, [], ◌∷◌, length, Option, Some, None, nat_eq}
use Rattle.std.specs.Prelude.{⊤}
use Rattle.std.specs.Option.{option_map_or}
use Rattle.std.proofs.Math.Dec.{eqb-suc-zero}
use Rattle.std.proofs.lemmas.Bool.{and_parts, false≢true}
use Rattle.std.proofs.lemmas.Option.{none-some, same_Some}
use Rattle.jr_base.specs.declared.text.Text.{Text}
use Rattle.jr_tree.specs.declared.label.Role.TheVariants as role
use Rattle.jr_tree.specs.Labels.{role_of}
use Rattle.jr_tree.specs.Rows.{Rows, label, parent}
use Rattle.jr_tree.specs.Tree.{IsTree}
use Rattle.jr_defs.specs.declared.referent.Referent.{Referent}
use Rattle.jr_defs.specs.declared.referent.Referent.TheVariants as referent
use Rattle.jr_defs.specs.Referents.{Table}
use Rattle.jr_plain.specs.Declarations.{is_type}
use Rattle.jr_plain.specs.Same.{same_role}
use Rattle.jr_plain.proofs.Bounds.{bounded}
use Rattle.jr_shapes.specs.declared.parts.Before.{Before}
use Rattle.jr_shapes.specs.declared.parts.Before.TheVariants as before
use Rattle.jr_shapes.specs.Names.{kept, kept_package}
use Rattle.jr_shapes.specs.Parts.{end_of, is_name, is_part, is_qualifier, type_of, before_at, parts_from, parts_by, parts}
use Rattle.jr_spelling_rules.specs.Candidates as candidate
use Rattle.jr_spell.specs.Adding.{AreWithin, AreNumbersOf, AreNumbered, loses}
use Rattle.jr_spell.proofs.Suffixed.{package_within}

-- ---- all are rows of the program

module _ (p : Rows) where
  pub is_type_below : (d : ℕ) → is_type p d ≡ true → d < length p
  is_type_below d e = bounded (λ l. same_role (role_of l) role.Type ≡ true) (λ none. false≢true none) p d e

  abbrev Within : Option ℕ → Type 0
  Within (Some c) = c < length p
  Within None = ⊤

  type_by_within : (d : ℕ) (b : Bool) → is_type p d ≡ b → Within (cond b (Some d) None)
  type_by_within d true e = is_type_below d e
  type_by_within d false e = tt

  type_within : (found : Referent) → Within (type_of p found)
  type_within (referent.Declared d level) = type_by_within d (is_type p d) refl
  type_within referent.Unbound = tt
  type_within referent.Ambiguous = tt
  type_within referent.ArrayLength = tt
  type_within referent.Package = tt

  qualifier_below : (t : Table) (n : ℕ) → is_qualifier p t n ≡ true → n < length p
  qualifier_below t n e = bounded (λ l. is_name l ≡ true) (λ none. false≢true none) p n (and_parts (is_name (label p n)) (is_part p (t n)) e).0

  parts_from_within : (t : Table) (n m : ℕ) → AreWithin p (parts_from p t n m)
  parts_from_within t n zero = tt
  parts_from_within t n (suc m) = by (parts_from_within t (n + 1) m) (is_qualifier p t n) refl
    where
      by : AreWithin p (parts_from p t (n + 1) m) → (b : Bool) → is_qualifier p t n ≡ b → AreWithin p (cond b (n ∷ parts_from p t (n + 1) m) [])
      by rest true e = (qualifier_below t n e, rest)
      by rest false e = tt

  parts_by_within : (t : Table) (n : ℕ) (b : Before) → AreWithin p (parts_by b p t n)
  parts_by_within t n before.Name = parts_from_within t n (end_of p n - n)
  parts_by_within t n before.Nothing = tt
  parts_by_within t n before.Expression = tt

  pub parts_within : (t : Table) (n : ℕ) → AreWithin p (parts p t n)
  parts_within t n = parts_by_within t (n + 1) (before_at p n)

  module _ (tree : IsTree p) (t : Table) where
    kept_package_within : (behind : Option ℕ) (rest : List ℕ) → AreWithin p rest → AreWithin p (kept_package p behind rest)
    kept_package_within (Some c) rest h = package_within p tree (parent p c + 1 + 1) (parent p c + 1)
    kept_package_within None rest h = h

    kept_from_within : (behind : Option ℕ) → Within behind → (all : List ℕ) → AreWithin p all → AreWithin p (kept p t behind all)
    kept_from_within behind lt [] h = tt
    kept_from_within behind lt (n ∷ rest) h = by (λ c less. kept_from_within (Some c) less rest h.1) (type_of p (t n)) (type_within (t n))
      where
        by : ((c : ℕ) → c < length p → AreWithin p (kept p t (Some c) rest)) → (o : Option ℕ) → Within o
            → AreWithin p (elim o as (λ _. List ℕ) [ Some c ↦ c ∷ kept p t (Some c) rest | None ↦ kept_package p behind (n ∷ rest) ])
        by more (Some c) less = (less, more c less)
        by more None less = kept_package_within behind (n ∷ rest) h

    pub kept_within : (found : Referent) (all : List ℕ) → AreWithin p all → AreWithin p (kept p t (type_of p found) all)
    kept_within found all h = kept_from_within (type_of p found) (type_within found) all h

-- ---- a package that would become the unnamed one

pub empty_is : (xs : List ℕ) → nat_eq (length xs) 0 ≡ candidate.is_empty xs
empty_is [] = refl
empty_is (x ∷ xs) = eqb-suc-zero (length xs)

module _ (p : Rows) (t : Table) (behind : Option ℕ) (n : ℕ) (rest : List ℕ) where
  abbrev lost_by : Option ℕ → Bool
  lost_by o = option_map_or candidate.is_empty
      (elim o as (λ _. Option (List ℕ)) [ Some c ↦ candidate.package_before p t (Some c) rest | None ↦ Some (kept_package p behind (n ∷ rest)) ]) false

  pub loses_later : {whole : Bool} (c : ℕ) → whole ≡ loses p t behind (n ∷ rest) → type_of p (t n) ≡ Some c → whole ≡ loses p t (Some c) rest
  loses_later c h e = h ∙ ap lost_by e

  pub loses_here : {whole : Bool} → whole ≡ loses p t behind (n ∷ rest) → type_of p (t n) ≡ None → whole ≡ candidate.is_empty (kept_package p behind (n ∷ rest))
  loses_here h e = h ∙ ap lost_by e

-- ---- as they would be written

abbrev names_by : List Text → Bool → Option (List Text)
names_by texts lost = cond lost None (Some texts)

module _ (p : Rows) (t : Table) (n : ℕ) (lock : Referent) (is : lock ≡ t n) (parts_are : List ℕ) (are : parts_are ≡ parts p t n) (lost : Bool) (told : lost ≡ loses p t (type_of p lock) parts_are) where
  told_here : lost ≡ loses p t (type_of p (t n)) (parts p t n)
  told_here = told ∙ ap₂ (λ f xs. loses p t (type_of p f) xs) is are

  pub kept_none : lost ≡ true → AreNumbered p None (candidate.kept_names p t n)
  kept_none e = subst (AreNumbered p None) (sym (ap (names_by (candidate.texts p (kept p t (type_of p (t n)) (parts p t n)))) (sym told_here ∙ e))) AreNumbered.none

  pub kept_rows_within : IsTree p → AreWithin p (kept p t (type_of p lock) parts_are)
  kept_rows_within tree = kept_within p tree t lock parts_are (subst (AreWithin p) (sym are) (parts_within p t n))

  pub kept_some : lost ≡ false → (all : List ℕ) → AreNumbersOf p (candidate.texts p (kept p t (type_of p lock) parts_are)) all → AreNumbered p (Some all) (candidate.kept_names p t n)
  kept_some e all h = subst (AreNumbered p (Some all)) (sym (ap (names_by (candidate.texts p (kept p t (type_of p (t n)) (parts p t n)))) (sym told_here ∙ e)))
      (AreNumbered.some (subst (λ xs. AreNumbersOf p (candidate.texts p xs) all) (ap₂ (λ f xs. kept p t (type_of p f) xs) is are) h))

  pub kept_given : IsTree p → lost ≡ false → (given all : List ℕ) → given ≡ kept p t (type_of p lock) parts_are → (AreWithin p given → AreNumbersOf p (candidate.texts p given) all) → AreNumbered p (Some all) (candidate.kept_names p t n)
  kept_given tree e given all same h = kept_some e all (subst (λ xs. AreNumbersOf p (candidate.texts p xs) all) same (h (subst (AreWithin p) (sym same) (kept_rows_within tree))))

pub numbered_some : {p : Rows} {o : Option (List ℕ)} {q : Option (List Text)} → AreNumbered p o q → (all : List ℕ) → o ≡ Some all → (texts : List Text) × (q ≡ Some texts) × AreNumbersOf p texts all
numbered_some AreNumbered.none all e = absurd (none-some all e)
numbered_some {p} (AreNumbered.some {all = one} {texts = texts} h) all e = (texts, refl, subst (AreNumbersOf p texts) (same_Some one all e) h)

pub numbered_none : {p : Rows} {o : Option (List ℕ)} {q : Option (List Text)} → AreNumbered p o q → o ≡ None → q ≡ None
numbered_none AreNumbered.none e = refl
numbered_none (AreNumbered.some {all = one} h) e = absurd (none-some one (sym e))
