-- What a row has by tables is what the plain function of the row gives.
use Rattle.std.proofs.Common.{◌≡◌, refl, sym, ◌∙◌, ap, ap₂, arith, ℕ, zero, suc, ◌+◌, ◌≤◌, ◌<◌, Bool, true, false, cond, List, [], ◌∷◌, length, Option, Some, None, slice_get, nat_eq, subst}
use Rattle.std.specs.Prelude.{Result, Ok, Err, IfOk, slice_index_or, option_map, option_and_then}
use Rattle.std.proofs.lemmas.Bool.Decides.{Decides-eqb}
use Rattle.std.proofs.lemmas.Option.{none-some, same_Some}
use Rattle.jr_base.specs.declared.kind.Symbol.{Symbol}
use Rattle.jr_base.specs.declared.constant.Const.{Const}
use Rattle.jr_tree.specs.declared.row.Row.{Row}
use Rattle.jr_tree.specs.declared.label.Label.TheVariants as is
use Rattle.jr_tree.specs.Rows.{Rows, label, parent, end}
use Rattle.jr_defs.specs.declared.referent.RowType.{RowType}
use Rattle.jr_defs.specs.Referents.{Table}
use Rattle.jr_defs.specs.Operators.{cast_to, unary_value, binary_value}
use Rattle.jr_plain.specs.Types.{type_at}
use Rattle.jr_plain.specs.Conversions.{Constants, of_two}
use Rattle.jr_plain.specs.Constants as plain
use Rattle.jr_plain.proofs.Bounds.{row_past, parent_past}
use Rattle.jr_constants.specs.declared.value.Value.{Value}
use Rattle.jr_constants.specs.Values.{seen_if, value_in_if}
use Rattle.jr_constants.proofs.Told.{cast_tells, conditional_tells, unary_tells}
use Rattle.jr_constants.specs.Tables.{item, values_in, after, part, part_if, second, third, cast_type, valued_by, IsInIf, AreIn}

-- ---- children

got : {A : Type 0} (xs : List A) (i : ℕ) (d x : A) → slice_get xs i ≡ Some x → slice_index_or xs i d ≡ x
got [] i d x h = absurd (none-some x h)
got (y ∷ ys) zero d x h = same_Some y x h
got (y ∷ ys) (suc i) d x h = got ys i d x h

not_got : {A : Type 0} (xs : List A) (i : ℕ) → slice_get xs i ≡ None → length xs ≤ i
not_got [] i h = omega arith
not_got (y ∷ ys) zero h = absurd (none-some y (sym h))
not_got (y ∷ ys) (suc i) h = let le = not_got ys i h in omega arith

module _ (texts : List (List ℕ)) (p : Rows) (all : List (Option Value)) where
  pub part_tells : (n m : ℕ) → value_in_if texts (part p all n m) ≡ plain.part p (values_in texts all) n m
  part_tells n m = by (nat_eq (parent p m) n)
    where
      by : (b : Bool) → value_in_if texts (cond b (item all m) None) ≡ cond b (values_in texts all m) None
      by true = refl
      by false = refl

  past_none : (values : Constants) (n m : ℕ) → n < length p → length p ≤ m → plain.part p values n m ≡ None
  past_none values n m lt le = by (nat_eq (parent p m) n) (Decides-eqb (parent p m) n).0
    where
      by : (b : Bool) → (b ≡ true → parent p m ≡ n) → cond b (values m) None ≡ None
      by true e = let same = sym (parent_past p m le) ∙ e refl in absurd (omega arith)
      by false e = refl

  at_end : (n m : ℕ) (o : Option Row) → n < length p → slice_get p m ≡ o → value_in_if texts (part_if p all n (option_map (λ r. r.end) o)) ≡ plain.part p (values_in texts all) n (end p m)
  at_end n m (Some r) lt h = part_tells n r.end ∙ ap (plain.part p (values_in texts all) n) (sym (ap (λ x. x.end) (got p m _ r h)))
  at_end n m None lt h = let le = not_got p m h in let e : end p m ≡ m + 1 = ap (λ x. x.end) (row_past p m le) in sym (past_none (values_in texts all) n (end p m) lt (omega arith))

  pub second_tells : (n : ℕ) → n < length p → value_in_if texts (second p all n) ≡ plain.part p (values_in texts all) n (end p (n + 1))
  second_tells n lt = at_end n (n + 1) (slice_get p (n + 1)) lt refl

  pub third_tells : (n : ℕ) → n < length p → value_in_if texts (third p all n) ≡ plain.part p (values_in texts all) n (end p (end p (n + 1)))
  third_tells n lt = by (slice_get p (n + 1)) refl
    where
      by : (o : Option Row) → slice_get p (n + 1) ≡ o → value_in_if texts (part_if p all n (option_and_then (after p) (option_map (λ r. r.end) o))) ≡ plain.part p (values_in texts all) n (end p (end p (n + 1)))
      by (Some r) h =
          let e = ap (λ x. x.end) (got p (n + 1) _ r h) in
          subst (λ m. value_in_if texts (part_if p all n (after p m)) ≡ plain.part p (values_in texts all) n (end p (end p (n + 1)))) e
          (at_end n (end p (n + 1)) (slice_get p (end p (n + 1))) lt refl)
      by None h =
          let le = not_got p (n + 1) h in
          let e : end p (n + 1) ≡ n + 1 + 1 = ap (λ x. x.end) (row_past p (n + 1) le) in
          let f : end p (end p (n + 1)) ≡ end p (n + 1) + 1 = ap (λ x. x.end) (row_past p (end p (n + 1)) (omega arith)) in
          sym (past_none (values_in texts all) n (end p (end p (n + 1))) lt (omega arith))

-- ---- the value of a row, with the strings

pub read_tells : (texts : List (List ℕ)) (all : List (Option Value)) (b : Bool) (o : Option ℕ)
    → value_in_if texts (cond b (option_and_then (item all) o) None) ≡ cond b (option_and_then (values_in texts all) o) None
read_tells texts all true (Some d) = refl
read_tells texts all true None = refl
read_tells texts all false o = refl

pub read_inside : (texts : List (List ℕ)) (all : List (Option Value)) (b : Bool) (o : Option ℕ) → AreIn texts all → IsInIf texts (cond b (option_and_then (item all) o) None)
read_inside texts all true (Some d) h = h d
read_inside texts all true None h = tt
read_inside texts all false o h = tt

pub part_inside : (texts : List (List ℕ)) (p : Rows) (all : List (Option Value)) (n m : ℕ) → AreIn texts all → IsInIf texts (part p all n m)
part_inside texts p all n m h = by (nat_eq (parent p m) n)
  where
    by : (b : Bool) → IsInIf texts (cond b (item all m) None)
    by true = h m
    by false = tt

pub part_if_inside : (texts : List (List ℕ)) (p : Rows) (all : List (Option Value)) (n : ℕ) (o : Option ℕ) → AreIn texts all → IsInIf texts (part_if p all n o)
part_if_inside texts p all n None h = tt
part_if_inside texts p all n (Some m) h = part_inside texts p all n m h

pub cast_case : (F : RowType → Const → Option Const) (p : Rows) (t : Table) (n : ℕ) (x : Option Const)
    → of_two F (cast_type p t n) x ≡ cond (nat_eq (parent p (n + 1)) n) (of_two F (type_at p t (n + 1)) x) None
cast_case F p t n x = by (nat_eq (parent p (n + 1)) n)
  where
    by : (b : Bool) → of_two F (option_and_then (type_at p t) (cond b (Some (n + 1)) None)) x ≡ cond b (of_two F (type_at p t (n + 1)) x) None
    by true = refl
    by false = refl

module _ (texts : List (List ℕ)) (p : Rows) (t : Table) (k : ℕ → Bool) (variables : Constants) (all : List (Option Value)) (n : ℕ) (found : Option Value) where
  pub cast_row : n < length p → seen_if found ≡ of_two (plain.converted_as p cast_to) (cast_type p t n) (seen_if (second p all n))
      → value_in_if texts found ≡ valued_by p t k variables (values_in texts all) n is.Cast
  cast_row lt h = (cast_tells p (cast_type p t n) texts (second p all n) found h).0 ∙ (ap (of_two (plain.converted_as p cast_to) (cast_type p t n)) (second_tells texts p all n lt)
      ∙ cast_case (plain.converted_as p cast_to) p t n (plain.part p (values_in texts all) n (end p (n + 1))))

  pub cast_inside : seen_if found ≡ of_two (plain.converted_as p cast_to) (cast_type p t n) (seen_if (second p all n)) → AreIn texts all → IsInIf texts found
  cast_inside h are = (cast_tells p (cast_type p t n) texts (second p all n) found h).1 (part_if_inside texts p all n (after p (n + 1)) are)

  pub conditional_row : n < length p → seen_if found ≡ plain.chosen_value (seen_if (part p all n (n + 1))) (seen_if (second p all n)) (seen_if (third p all n))
      → value_in_if texts found ≡ valued_by p t k variables (values_in texts all) n is.Conditional
  conditional_row lt h = (conditional_tells texts (part p all n (n + 1)) (second p all n) (third p all n) found h).0
      ∙ (ap (λ x. plain.chosen_value x (value_in_if texts (second p all n)) (value_in_if texts (third p all n))) (part_tells texts p all n (n + 1))
      ∙ ap₂ (plain.chosen_value (plain.part p (values_in texts all) n (n + 1))) (second_tells texts p all n lt) (third_tells texts p all n lt))

  pub conditional_inside : seen_if found ≡ plain.chosen_value (seen_if (part p all n (n + 1))) (seen_if (second p all n)) (seen_if (third p all n)) → AreIn texts all → IsInIf texts found
  conditional_inside h are = (conditional_tells texts (part p all n (n + 1)) (second p all n) (third p all n) found h).1
      (part_if_inside texts p all n (after p (n + 1)) are) (part_if_inside texts p all n (option_and_then (after p) (after p (n + 1))) are)

  pub unary_inside : (op : Symbol) → seen_if found ≡ option_and_then (unary_value op) (seen_if (part p all n (n + 1))) → AreIn texts all → IsInIf texts found
  unary_inside op h are = (unary_tells op texts (part p all n (n + 1)) found h).1 (part_inside texts p all n (n + 1) are)

binary_row : (texts : List (List ℕ)) (p : Rows) (t : Table) (k : ℕ → Bool) (variables : Constants) (all : List (Option Value)) (n : ℕ) (op : Symbol) (found : Option Const) → n < length p
    → found ≡ of_two (binary_value op) (value_in_if texts (part p all n (n + 1))) (value_in_if texts (second p all n)) → found ≡ valued_by p t k variables (values_in texts all) n (is.Binary op)
binary_row texts p t k variables all n op found lt h = h ∙ ap₂ (of_two (binary_value op)) (part_tells texts p all n (n + 1)) (second_tells texts p all n lt)

module _ (texts new : List (List ℕ)) (p : Rows) (t : Table) (k : ℕ → Bool) (variables : Constants) (all : List (Option Value)) (n : ℕ) (op : Symbol) (one : Row) where
  pub binary_at : {E : Type 0} (most : ℕ) (found : Result (Option Value) E) → n < length p → ((d : Row) → one ≡ slice_index_or p n d) → one.label ≡ is.Binary op → length p < most
      → (n + 1 < most → IfOk found (λ value. value_in_if new value ≡ of_two (binary_value op) (value_in_if texts (part p all n (n + 1))) (value_in_if texts (second p all n))))
      → IfOk found (λ value. value_in_if new value ≡ valued_by p t k variables (values_in texts all) n (label p n))
  binary_at most (Ok value) lt at called few h =
      let same : label p n ≡ is.Binary op = ap (λ r. r.label) (sym (at _)) ∙ called in
      subst (λ l. value_in_if new value ≡ valued_by p t k variables (values_in texts all) n l) (sym same) (binary_row texts p t k variables all n op (value_in_if new value) lt (h (omega arith)))
  binary_at most (Err e) lt at called few h = tt
