-- The type that a row stands for as an initializer, by that of the row over it.
use Rattle.std.proofs.Common.{◌≡◌, refl, sym, ◌∙◌, ap, ⊎_elim, arith, ℕ, zero, suc, ◌<◌, ◌≤◌, List, length, Option, None}
use Rattle.std.proofs.lemmas.Bool.{cases_eq}
use Rattle.jr_tree.specs.Rows.{Rows, label, parent}
use Rattle.jr_tree.specs.Local.{IsLocal}
use Rattle.jr_defs.specs.declared.referent.RowType.{RowType}
use Rattle.jr_defs.specs.Referents.{Table}
use Rattle.jr_plain.specs.Overloads.{Types}
use Rattle.jr_plain.proofs.Bounds.{parent_past}
use Rattle.jr_places.specs.Tabulated.{tabulated}
use Rattle.jr_places.proofs.Tables.{tabulated_at}
use Rattle.jr_rules.specs.PlaceTests.{held_by, initializer_within}
use Rattle.jr_type_facts.specs.Tables.{grown, initializer_by, AreInitializers}
use Rattle.jr_type_facts.proofs.Tabling.{grown_told, held_past}

module _ (p : Rows) (t : Table) (types : Types) (local : IsLocal p) where
  abbrev within : ℕ → ℕ → Option RowType
  within rounds n = initializer_within p t types rounds n

  abbrev held : ℕ → Option RowType → Option RowType
  held m x = held_by p t types m x (label p m)

  -- the program holds no initializer, whatever is known of lists
  root_held : (x y : Option RowType) → held 0 x ≡ held 0 y
  root_held x y = ap (held_by p t types 0 x) local.program ∙ sym (ap (held_by p t types 0 y) local.program)

  root_same : (n : ℕ) (x y : Option RowType) → n ≡ 0 → held (parent p n) x ≡ held (parent p n) y
  root_same n x y e = let at = ap (parent p) e ∙ local.tree.root in ap (λ m. held m x) at ∙ root_held x y ∙ sym (ap (λ m. held m y) at)

  -- a round more changes nothing, where there are enough
  enough : (rounds n : ℕ) → n < rounds → rounds ≤ length p → within (suc rounds) n ≡ within rounds n
  enough zero n lt le = absurd (omega arith)
  enough (suc rounds) n lt le = ⊎_elim (λ e. root_same n (within (suc rounds) (parent p n)) (within rounds (parent p n)) e)
      (λ some. let up = local.tree.up n (omega arith) (omega arith) in ap (held (parent p n)) (enough rounds (parent p n) (omega arith) (omega arith))) (cases_eq n 0)

  -- by the type of the list round it, or whatever, of the program
  by_list : (size n : ℕ) → suc size ≡ length p → n < length p → initializer_by p t types (tabulated (within (suc size)) n) n ≡ within (suc size) n
  by_list size n whole lt = ⊎_elim (λ e. root_same n _ (within size (parent p n)) e)
      (λ some. let up = local.tree.up n lt (omega arith) in ap (held (parent p n)) (tabulated_at (within (suc size)) None n (parent p n) up ∙ enough size (parent p n) (omega arith) (omega arith))) (cases_eq n 0)

  past : (size n : ℕ) → length p ≤ n → None ≡ within (suc size) n
  past size n le = held_past p t types n (within size (parent p n)) le ∙ ap (λ m. held m (within size (parent p n))) (sym (parent_past p n le))

  told : (size : ℕ) → suc size ≡ length p → (all : List (Option RowType)) → all ≡ grown (initializer_by p t types) (length p) → AreInitializers p t types all
  told size whole all is n = grown_told (initializer_by p t types) (within (suc size)) (length p) None all is (λ k lt. by_list size k whole lt) (λ k le. past size k le) n
      ∙ ap (λ r. within r n) whole

  pub initializers_told : (all : List (Option RowType)) → all ≡ grown (initializer_by p t types) (length p) → AreInitializers p t types all
  initializers_told all is = by (length p) refl local.some
    where
      by : (size : ℕ) → length p ≡ size → 0 < size → AreInitializers p t types all
      by zero e lt = absurd (omega arith)
      by (suc size) e lt = told size (sym e) all is
