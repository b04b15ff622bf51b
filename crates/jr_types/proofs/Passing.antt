-- The types of all rows, from the last one back: each by those of the rows behind it.
use Rattle.std.proofs.Common.{◌≡◌, refl, sym, ◌∙◌, ap, ap₂, arith, ℕ, zero, suc, ◌+◌, ◌<◌, ◌≤◌, ⊎_elim, false, true, cond, length, List, Option, Some, None, nat_eq, slice_set}
use Rattle.std.specs.Prelude.{option_and_then, slice_index_or}
use Rattle.std.proofs.lemmas.Bool.{cases_eq}
use Rattle.std.proofs.lemmas.List.{get_or_past, get_or-set_other}
use Rattle.std.proofs.lemmas.Grind.{get_or-set_at}
use Rattle.jr_base.specs.declared.kind.Symbol.{Symbol}
use Rattle.jr_tree.specs.declared.label.Label.{Label}
use Rattle.jr_tree.specs.declared.label.Label.TheVariants as is
use Rattle.jr_tree.specs.Rows.{Rows, label, parent, end}
use Rattle.jr_tree.specs.Tree.{IsTree}
use Rattle.jr_defs.specs.declared.referent.RowType.{RowType}
use Rattle.jr_defs.specs.Referents.{Table}
use Rattle.jr_defs.specs.Typing.{class_of, operator_of}
use Rattle.jr_plain.specs.Overloads.{Types}
use Rattle.jr_plain.specs.Conversions.{Constants, of_two}
use Rattle.jr_plain.specs.Typing as plain
use Rattle.jr_plain.specs.Typing.{first, second, third, typed_by, typed_within, expression_types}
use Rattle.jr_types.specs.Typed.{types_in, AreTypesFrom}
use Rattle.jr_types.proofs.Operands.{untyped_past}

module _ (p : Rows) (tree : IsTree p) (t : Table) (constant : Constants) where
  -- the parts of a row stand behind it
  module _ (these those : Types) (n : ℕ) (same : (m : ℕ) → n < m → these m ≡ those m) where
    child_same : (m : ℕ) → n < m → plain.child p these n m ≡ plain.child p those n m
    child_same m lt = ap (λ a. cond (nat_eq (parent p m) n) a None) (same m lt)

    first_same : first p these n ≡ first p those n
    first_same = child_same (n + 1) (omega arith)

    second_same : second p these n ≡ second p those n
    second_same = let next = tree.nested (n + 1) in child_same (end p (n + 1)) (omega arith)

    third_same : third p these n ≡ third p those n
    third_same = let next = tree.nested (n + 1) in let last = tree.nested (end p (n + 1)) in child_same (end p (end p (n + 1))) (omega arith)

    assigned_same : (sign : Symbol) (op : Option Symbol) → plain.assigned_type p t these n sign op ≡ plain.assigned_type p t those n sign op
    assigned_same sign (Some op) = ap₂ (of_two (plain.compound_type p t op)) first_same second_same
    assigned_same sign None = ap (λ a. cond (plain.is_assign sign) a None) first_same

    typed_same : (l : Label) → typed_by p t constant these n l ≡ typed_by p t constant those n l
    typed_same (is.Literal token) = refl
    typed_same (is.Name kind place is_qualified) = refl
    typed_same is.Select = refl
    typed_same is.SuperSelect = refl
    typed_same (is.Call receiver) = refl
    typed_same is.New = refl
    typed_same (is.NewArray (Some e) lengths extra) = refl
    typed_same (is.NewArray None lengths extra) = refl
    typed_same is.Cast = refl
    typed_same is.Paren = first_same
    typed_same (is.This false) = refl
    typed_same (is.This true) = refl
    typed_same is.Index = ap (option_and_then plain.item_type) first_same
    typed_same is.IsA = ap (option_and_then plain.tested_type) first_same
    typed_same (is.Unary op) = ap (option_and_then (plain.unary_of op)) first_same
    typed_same (is.PreStep op) = ap (option_and_then plain.stepped_type) first_same
    typed_same (is.PostStep op) = ap (option_and_then plain.stepped_type) first_same
    typed_same (is.Binary op) = ap₂ (of_two (plain.binary_type p t (class_of op))) first_same second_same
    typed_same is.Conditional = ap₂ plain.chosen_type first_same (ap₂ (of_two (plain.conditional_type p t constant (end p (n + 1)) (end p (end p (n + 1))))) second_same third_same)
    typed_same (is.Assign sign) = assigned_same sign (operator_of sign)
    typed_same _ = refl

  -- the rounds suffice
  within_more : (rounds others n : ℕ) → length p ≤ n + rounds → length p ≤ n + others → typed_within p t constant rounds n ≡ typed_within p t constant others n
  within_more zero zero n le more = refl
  within_more zero (suc others) n le more = untyped_past p t constant (typed_within p t constant others) n (omega arith)
  within_more (suc rounds) zero n le more = sym (untyped_past p t constant (typed_within p t constant rounds) n (omega arith))
  within_more (suc rounds) (suc others) n le more = typed_same (typed_within p t constant rounds) (typed_within p t constant others) n (λ m lt. within_more rounds others m (omega arith) (omega arith)) (label p n)

  -- the type of a row is that by the types of all rows
  by_all : (n : ℕ) → expression_types p t constant n ≡ typed_by p t constant (expression_types p t constant) n (label p n)
  by_all n = within_more (length p) (suc (length p)) n (omega arith) (omega arith)

  -- where the types behind a row are known, so is its own
  typed_next : (types : Types) (n : ℕ) → ((m : ℕ) → n < m → types m ≡ expression_types p t constant m) → typed_by p t constant types n (label p n) ≡ expression_types p t constant n
  typed_next types n known = typed_same types (expression_types p t constant) n known (label p n) ∙ sym (by_all n)

  none_past : (n : ℕ) → length p ≤ n → None ≡ expression_types p t constant n
  none_past n le = untyped_past p t constant (expression_types p t constant) n le ∙ sym (by_all n)

  -- ---- the table that is filled from the last row back

  pub types_start : (types : List (Option RowType)) (at : ℕ) → length types ≡ length p → length p ≤ at → AreTypesFrom p t constant types at
  types_start types at size le m more = get_or_past types m None (omega arith) ∙ none_past m (omega arith)

  pub types_next : (types more : List (Option RowType)) (at : ℕ) → at < length types → AreTypesFrom p t constant types (at + 1) → more ≡ slice_set types at (typed_by p t constant (types_in types) at (label p at)) → AreTypesFrom p t constant more at
  types_next types more at lt known is m le = ap (λ all. slice_index_or all m None) is ∙ ⊎_elim
      (λ same. get_or-set_at types at m _ None same lt ∙ typed_next (types_in types) at (λ k behind. known k (omega arith)) ∙ ap (expression_types p t constant) (sym same))
      (λ apart. get_or-set_other types at m _ None apart ∙ known m (omega arith)) (cases_eq m at)
