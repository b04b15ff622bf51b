-- In the rows of shaped units the name of a superclass stands right behind its type.
use Rattle.std.proofs.Common.{◌≡◌, ◌⊎◌, inl, inr, sym, ◌∙◌, ap, subst, arith, ℕ, suc, ◌+◌, ◌<◌, ◌≤◌, List, [], ◌∷◌, ◌++◌, length, length-append}
use Rattle.std.specs.Prelude.{⊤}
use Rattle.std.specs.List.{AllByRecursion}
use Rattle.std.proofs.Math.ListN.{get_or-append}
use Rattle.std.proofs.lemmas.Bool.{cases_lt}
use Rattle.std.proofs.lemmas.List.{get_or-append-add, get_or_default, get_or_past}
use Rattle.jr_tree.specs.declared.tree.Unit as declared_unit
use Rattle.jr_tree.specs.Shape.{IsShaped}
use Rattle.jr_tree.specs.declared.label.Label.{Label}
use Rattle.jr_tree.specs.declared.label.Label.TheVariants as is
use Rattle.jr_tree.specs.declared.label.NamePlace.TheVariants as place
use Rattle.jr_tree.specs.declared.row.Row.{Row}
use Rattle.jr_tree.specs.Forest.{Forest, none, more, size}
use Rattle.jr_tree.specs.Rows.{Rows, rows_from, row, label, parent, program_rows}
use Rattle.jr_tree.specs.Below.{IsTypeLabel, Under, Fits}
use Rattle.jr_tree.proofs.Trees.{past, length_rows, units_forest}
use Rattle.jr_tree.proofs.Locals.{HasRows, which, program_has_rows}
use Rattle.jr_tree.proofs.FittingStmts.{units_fit}
use Rattle.jr_defs.specs.Supertypes.{IsSuperclassLabel}
use Rattle.jr_one_method.specs.OneMethod.{TypesNameOneSuperclass}
use Rattle.jr_one_method.proofs.Ordered.{NamesNone, NamesFirst, Ordered, units_ordered}

-- ---- the name of a superclass stands first

-- below a label that is no type none stands
none_below : (over : Label) (f : Forest) → (IsTypeLabel over → ⊥) → Fits over f → NamesNone f
none_below over none no' fits = tt
none_below over (more l x kids rest) no' fits = (λ s. no' (asked over l s fits.0), none_below over rest no' fits.3)
  where
    asked : (over l : Label) → IsSuperclassLabel l → Under over l → IsTypeLabel over
    asked over (is.Name k place.Superclass b) s u = by over u
      where
        by : (over : Label) → Under over (is.Name k place.Superclass b) → IsTypeLabel over
        by (is.Name j at c) u = absurd u
        by (is.Import form) u = absurd u
        by is.Package u = absurd u
        by _ u = u.0
    asked over _ s u = absurd s

is_type_or_not : (l : Label) → IsTypeLabel l ⊎ (IsTypeLabel l → ⊥)
is_type_or_not (is.Class m b) = inl tt
is_type_or_not (is.Interface m b) = inl tt
is_type_or_not _ = inr (λ h. h)

names_first : (l : Label) (kids : Forest) → Fits l kids → (IsTypeLabel l → NamesFirst kids) → NamesFirst kids
names_first l kids fits own = elim (is_type_or_not l) [ inl k ↦ own k | inr no' ↦ first kids (none_below l kids no' fits) ]
  where
    first : (f : Forest) → NamesNone f → NamesFirst f
    first none h = tt
    first (more l x kids rest) h = h.1

module _ (p : Rows) where
  -- the row, if it names a superclass, stands right behind the one over it
  abbrev IsBehind : ℕ → Type 0
  IsBehind n = IsSuperclassLabel (label p n) → n ≡ parent p n + 1

  by_place : (at size_of_kids size_of_rest n : ℕ) → at ≤ n → n < at + (1 + size_of_kids + size_of_rest) → IsBehind at → ((n : ℕ) → at + 1 ≤ n → n < at + 1 + size_of_kids → IsBehind n)
      → ((n : ℕ) → at + 1 + size_of_kids ≤ n → n < at + 1 + size_of_kids + size_of_rest → IsBehind n) → IsBehind n
  by_place at k r n ge lt own inside behind = elim (which n at (at + 1 + k) ge) [
    | inl q ↦ subst IsBehind (sym q) own
    | inr w ↦ elim w [ inl q ↦ inside n q.0 q.1 | inr q ↦ behind n q (omega arith) ]
  ]

  mutual
    -- below a row
    kids_behind : (f : Forest) (over : ℕ) (lo : Label) → HasRows p over (over + 1) f → Fits lo f → Ordered f → NamesFirst f → (n : ℕ) → over + 1 ≤ n → n < over + 1 + size f → IsBehind n
    kids_behind none over lo w fits o first n ge lt = absurd (omega arith)
    kids_behind (more l x kids rest) over lo w fits o first n ge lt = by_place (over + 1) (size kids) (size rest) n ge lt (λ s. ap (λ m. m + 1) (sym w.1))
        (λ n. kids_behind kids (over + 1) l w.3 fits.2 o.1 (names_first l kids fits.2 o.0) n) (λ n. rest_behind rest over (over + 1 + 1 + size kids) lo w.4 fits.3 o.2 first n)

    -- behind such rows
    rest_behind : (f : Forest) (over at : ℕ) (lo : Label) → HasRows p over at f → Fits lo f → Ordered f → NamesNone f → (n : ℕ) → at ≤ n → n < at + size f → IsBehind n
    rest_behind none over at lo w fits o no' n ge lt = absurd (omega arith)
    rest_behind (more l x kids rest) over at lo w fits o no' n ge lt = by_place at (size kids) (size rest) n ge lt (λ s. absurd (no'.0 (subst IsSuperclassLabel w.0 s)))
        (λ n. kids_behind kids at l w.3 fits.2 o.1 (names_first l kids fits.2 o.0) n) (λ n. rest_behind rest over (at + 1 + size kids) lo w.4 fits.3 o.2 no'.1 n)

-- ---- programs

within : (p : Rows) (n : ℕ) → IsSuperclassLabel (label p n) → n < length p
within p n s = elim (cases_lt n (length p)) [ inl lt ↦ lt | inr le ↦ absurd (subst IsSuperclassLabel (ap (λ r. r.label) (get_or_past p n (past n) le)) s) ]

-- the name of a superclass stands right behind the type over it
pub is_behind : (units : List declared_unit.Unit) → AllByRecursion IsShaped units → (n : ℕ) → IsSuperclassLabel (label (program_rows units) n) → n ≡ parent (program_rows units) n + 1
is_behind units shaped n s =
    let p = program_rows units in let all = units_forest units in
    let w = program_has_rows units in
    let long = length_rows 0 0 0 (more is.Program [] all none) in let lt = within p n s in
    elim (first_or n) [
      | inl e ↦ absurd (subst IsSuperclassLabel (ap (label p) e ∙ w.0) s)
      | inr le ↦ rest_behind p all 0 1 is.Program w.3 (units_fit units shaped) (units_ordered units shaped) (none_below is.Program all (λ h. h) (units_fit units shaped)) n le (omega arith) s
    ]
  where
    first_or : (n : ℕ) → (n ≡ 0) ⊎ (1 ≤ n)
    first_or n = grind arith

pub one_superclass : TypesNameOneSuperclass
one_superclass units shaped c n m g h = is_behind units shaped n g.names ∙ ap (λ x. x + 1) (g.inside ∙ sym h.inside) ∙ sym (is_behind units shaped m h.names)
