-- The operands of a row, of which some may stand past the last row.
use Rattle.std.proofs.Common.{◌≡◌, refl, sym, ◌∙◌, ap, arith, ⊎_elim, ℕ, zero, suc, ◌+◌, ◌-◌, ◌<◌, ◌≤◌, Bool, true, false, cond, length, List, [], ◌∷◌, Option, Some, None, nat_eq, get_or}
use Rattle.std.specs.Prelude.{ℤ, option_map, option_and_then, slice_index_or}
use Rattle.std.proofs.lemmas.Bool.{cases_lt}
use Rattle.std.proofs.lemmas.Bool.Decides.{Decides-eqb}
use Rattle.std.proofs.lemmas.Option.{slice_get_past, slice_get-get_or}
use Rattle.jr_base.specs.declared.kind.Kind.{Kind}
use Rattle.jr_base.specs.declared.kind.Symbol.{Symbol}
use Rattle.jr_tree.specs.declared.tree.Primitive.{Primitive}
use Rattle.jr_tree.specs.declared.row.Row.{Row}
use Rattle.jr_tree.specs.declared.label.Label.{Label}
use Rattle.jr_tree.specs.declared.label.Label.TheVariants as is
use Rattle.jr_tree.specs.declared.label.NameKind.{NameKind}
use Rattle.jr_tree.specs.declared.label.NamePlace.{NamePlace}
use Rattle.jr_tree.specs.declared.label.ReceiverKind.{ReceiverKind}
use Rattle.jr_tree.specs.Rows.{Rows, label, parent, end}
use Rattle.jr_defs.specs.declared.referent.RowType.{RowType}
use Rattle.jr_defs.specs.declared.referent.Element.{Element}
use Rattle.jr_defs.specs.Referents.{Table}
use Rattle.jr_defs.specs.Types.{array}
use Rattle.jr_plain.specs.Overloads.{Types}
use Rattle.jr_plain.specs.Conversions.{Constants, of_two}
use Rattle.jr_plain.specs.Types.{type_at}
use Rattle.jr_plain.specs.Typing.{child, first, second, third, item_at, is_assign, assigned_type, typed_by}
use Rattle.jr_plain.proofs.Bounds.{row_past, label_past, parent_past}
use Rattle.jr_types.specs.Typed.{end_if, third_if, child_if, operand_of, operand_at, operand_if, cast_type, created_type, operated_by}

by_child : (b : Bool) (p : Rows) (types : Types) (n m : ℕ) → length p ≤ m → n < m → nat_eq (parent p m) n ≡ b → cond b (types m) None ≡ None
by_child true p types n m le lt e = let past = parent_past p m le in let same = (Decides-eqb (parent p m) n).0 e in absurd (omega arith)
by_child false p types n m le lt e = refl

-- past the end there are no children
child_none : (p : Rows) (types : Types) (n m : ℕ) → length p ≤ m → n < m → child p types n m ≡ None
child_none p types n m le lt = by_child (nat_eq (parent p m) n) p types n m le lt refl

end_past : (p : Rows) (n : ℕ) → length p ≤ n → end p n ≡ n + 1
end_past p n le = ap (λ r. r.end) (row_past p n le)

pub no_first : (p : Rows) (types : Types) (n : ℕ) → length p ≤ n + 1 → first p types n ≡ None
no_first p types n le = child_none p types n (n + 1) le (omega arith)

pub no_second_row : (p : Rows) (n : ℕ) → length p ≤ n → end_if p n ≡ None
no_second_row p n le = ap (option_map (λ r. r.end)) (slice_get_past p n le)

second_past : (p : Rows) (types : Types) (n : ℕ) → length p ≤ n + 1 → second p types n ≡ None
second_past p types n le = let e = end_past p (n + 1) le in child_none p types n (end p (n + 1)) (omega arith) (omega arith)

-- a row is there, or it is past the end
end_within : (p : Rows) (n : ℕ) → n < length p → end_if p n ≡ Some (end p n)
end_within p n lt = ap (option_map (λ r. r.end)) (slice_get-get_or p n (record { label = is.Skip; name = []; parent = n; end = n + 1; previous = n }) lt)

module _ (p : Rows) (types : Types) (n : ℕ) where
  pub second_is : child_if p types n (end_if p (n + 1)) ≡ second p types n
  second_is = ⊎_elim (λ lt. ap (child_if p types n) (end_within p (n + 1) lt)) (λ le. ap (child_if p types n) (no_second_row p (n + 1) le) ∙ sym (second_past p types n le)) (cases_lt (n + 1) (length p))

  third_past : length p ≤ n + 1 → third p types n ≡ None
  third_past le = let e = end_past p (n + 1) le in let f = end_past p (end p (n + 1)) (omega arith) in child_none p types n (end p (end p (n + 1))) (omega arith) (omega arith)

  third_next : n + 1 < length p → length p ≤ end p (n + 1) → third p types n ≡ None
  third_next lt le = let f = end_past p (end p (n + 1)) le in child_none p types n (end p (end p (n + 1))) (omega arith) (omega arith)

  module _ (ints : List (Option ℤ)) where
    operand_none : (m : ℕ) → child p types n m ≡ None → operand_at p types ints n m ≡ None
    operand_none m e = ap (option_map (λ a. operand_of a (slice_index_or ints m None))) e

    pub operand_second : operand_if p types ints n (end_if p (n + 1)) ≡ operand_at p types ints n (end p (n + 1))
    operand_second = ⊎_elim (λ lt. ap (operand_if p types ints n) (end_within p (n + 1) lt)) (λ le. ap (operand_if p types ints n) (no_second_row p (n + 1) le) ∙ sym (operand_none (end p (n + 1)) (second_past p types n le))) (cases_lt (n + 1) (length p))

    third_from : n + 1 < length p → operand_if p types ints n (end_if p (end p (n + 1))) ≡ operand_at p types ints n (end p (end p (n + 1)))
    third_from lt = ⊎_elim (λ inside. ap (operand_if p types ints n) (end_within p (end p (n + 1)) inside))
        (λ le. ap (operand_if p types ints n) (no_second_row p (end p (n + 1)) le) ∙ sym (operand_none (end p (end p (n + 1))) (third_next lt le))) (cases_lt (end p (n + 1)) (length p))

    pub operand_third : operand_if p types ints n (third_if p n) ≡ operand_at p types ints n (end p (end p (n + 1)))
    operand_third = ⊎_elim (λ lt. ap (λ k. operand_if p types ints n (option_and_then (end_if p) k)) (end_within p (n + 1) lt) ∙ third_from lt)
        (λ le. ap (λ k. operand_if p types ints n (option_and_then (end_if p) k)) (no_second_row p (n + 1) le) ∙ sym (operand_none (end p (end p (n + 1))) (third_past le))) (cases_lt (n + 1) (length p))

pub item_none : (e : Element) (dims : ℕ) → dims ≡ 0 → None ≡ item_at dims e
item_none e zero z = refl
item_none e (suc dims) z = absurd (omega arith)

pub item_some : (e : Element) (dims : ℕ) → (dims ≡ 0 → ⊥) → Some (array e (dims - 1)) ≡ item_at dims e
item_some e zero some = absurd (some refl)
item_some e (suc dims) some = ap (λ n. Some (array e n)) (let z : suc dims - 1 ≡ dims = omega arith in z)

-- two operands that are mapped
pub two_mapped : {A B C D E : Type 0} (f : C → D → Option E) (g : A → B → Option E) (h : A → C) (k : B → D) → ((a : A) (b : B) → f (h a) (k b) ≡ g a b) → (u : Option A) (v : Option B)
    → of_two f (option_map h u) (option_map k v) ≡ of_two g u v
two_mapped f g h k same (Some a) (Some b) = same a b
two_mapped f g h k same (Some a) None = refl
two_mapped f g h k same None v = refl

by_cast : (b : Bool) (p : Rows) (t : Table) (n : ℕ) → option_and_then (type_at p t) (cond b (Some (n + 1)) None) ≡ cond b (type_at p t (n + 1)) None
by_cast true p t n = refl
by_cast false p t n = refl

pub cast_is : (p : Rows) (t : Table) (n : ℕ) → cast_type p t n ≡ cond (nat_eq (parent p (n + 1)) n) (type_at p t (n + 1)) None
cast_is p t n = by_cast (nat_eq (parent p (n + 1)) n) p t n

-- a simple assignment has the type of its place
pub assigned_none : (p : Rows) (t : Table) (types : Types) (n : ℕ) (sign : Symbol) (place : Option RowType) (op : Option Symbol) → place ≡ first p types n → None ≡ op
    → cond (is_assign sign) place None ≡ assigned_type p t types n sign op
assigned_none p t types n sign place op is none = ap (λ a. cond (is_assign sign) a None) is ∙ ap (assigned_type p t types n sign) none

pub created_is : (p : Rows) (t : Table) (constant : Constants) (types : Types) (n : ℕ) (e : Option Primitive) (lengths extra : ℕ) → created_type p t n e (lengths + extra) ≡ typed_by p t constant types n (is.NewArray e lengths extra)
created_is p t constant types n (Some e) lengths extra = refl
created_is p t constant types n None lengths extra = refl

-- what stands at a number, with any other row past the end
read_row : (p : Rows) (n : ℕ) (r d : Row) → n < length p → r ≡ get_or p n r → get_or p n d ≡ r
read_row [] n r d lt same = absurd (omega arith)
read_row (x ∷ p) zero r d lt same = sym same
read_row (x ∷ p) (suc n) r d lt same = read_row p n r d (omega arith) same

pub label_of : (p : Rows) (n : ℕ) (r : Row) → n < length p → r ≡ get_or p n r → label p n ≡ r.label
label_of p n r lt same = ap (λ r. r.label) (read_row p n r (record { label = is.Skip; name = []; parent = n; end = n + 1; previous = n }) lt same)

-- a row past the end has no type
pub untyped_past : (p : Rows) (t : Table) (constant : Constants) (types : Types) (n : ℕ) → length p ≤ n → None ≡ typed_by p t constant types n (label p n)
untyped_past p t constant types n le = sym (ap (typed_by p t constant types n) (label_past p n le))

-- an expression that names nothing, and is no literal, has operands
pub other_typed : (p : Rows) (t : Table) (constant : Constants) (types : Types) (n : ℕ) (l : Label) → ((kind : Kind) → l ≡ is.Literal kind → ⊥)
    → ((kind : NameKind) (place : NamePlace) (dot : Bool) → l ≡ is.Name kind place dot → ⊥) → (l ≡ is.Select → ⊥) → (l ≡ is.SuperSelect → ⊥) → ((on : ReceiverKind) → l ≡ is.Call on → ⊥)
    → (l ≡ is.New → ⊥) → ((word : Option Primitive) (count : ℕ) (more : ℕ) → l ≡ is.NewArray word count more → ⊥) → (l ≡ is.Cast → ⊥) → ((dot : Bool) → l ≡ is.This dot → ⊥)
    → operated_by p t constant types n l ≡ typed_by p t constant types n l
other_typed p t constant types n (is.Literal kind) h _ _ _ _ _ _ _ _ = absurd (h kind refl)
other_typed p t constant types n (is.Name kind place dot) _ h _ _ _ _ _ _ _ = absurd (h kind place dot refl)
other_typed p t constant types n is.Select _ _ h _ _ _ _ _ _ = absurd (h refl)
other_typed p t constant types n is.SuperSelect _ _ _ h _ _ _ _ _ = absurd (h refl)
other_typed p t constant types n (is.Call on) _ _ _ _ h _ _ _ _ = absurd (h on refl)
other_typed p t constant types n is.New _ _ _ _ _ h _ _ _ = absurd (h refl)
other_typed p t constant types n (is.NewArray word count more) _ _ _ _ _ _ h _ _ = absurd (h word count more refl)
other_typed p t constant types n is.Cast _ _ _ _ _ _ _ h _ = absurd (h refl)
other_typed p t constant types n (is.This dot) _ _ _ _ _ _ _ _ h = absurd (h dot refl)
other_typed p t constant types n is.Paren _ _ _ _ _ _ _ _ _ = refl
other_typed p t constant types n is.Index _ _ _ _ _ _ _ _ _ = refl
other_typed p t constant types n is.IsA _ _ _ _ _ _ _ _ _ = refl
other_typed p t constant types n (is.Unary op) _ _ _ _ _ _ _ _ _ = refl
other_typed p t constant types n (is.PreStep op) _ _ _ _ _ _ _ _ _ = refl
other_typed p t constant types n (is.PostStep op) _ _ _ _ _ _ _ _ _ = refl
other_typed p t constant types n (is.Binary op) _ _ _ _ _ _ _ _ _ = refl
other_typed p t constant types n is.Conditional _ _ _ _ _ _ _ _ _ = refl
other_typed p t constant types n (is.Assign sign) _ _ _ _ _ _ _ _ _ = refl
other_typed p t constant types n _ _ _ _ _ _ _ _ _ _ = refl
