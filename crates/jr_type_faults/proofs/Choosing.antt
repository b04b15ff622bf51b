-- The type of `?:` on two branches that have types.
use Rattle.std.proofs.Common.{◌≡◌, sym, ◌∙◌, ap, ap₂, ⊎_elim, ℕ, ◌+◌, ◌<◌, length, [], Option, Some}
use Rattle.std.specs.Prelude.{ℤ, option_map, option_and_then}
use Rattle.std.proofs.lemmas.Bool.{cases_lt}
use Rattle.std.proofs.lemmas.Option.{none-some, slice_get-get_or}
use Rattle.jr_tree.specs.declared.label.Label.TheVariants as is
use Rattle.jr_tree.specs.Rows.{Rows, end}
use Rattle.jr_defs.specs.declared.referent.RowType.{RowType}
use Rattle.jr_defs.specs.Referents.{Table}
use Rattle.jr_plain.specs.Conversions.{Constants}
use Rattle.jr_plain.specs.Overloads.{Types}
use Rattle.jr_plain.specs.Typing.{second, third, conditional_type}
use Rattle.jr_types.specs.declared.conditional.Operand.{Operand}
use Rattle.jr_types.specs.Seen.{operands}
use Rattle.jr_types.specs.Typed.{int_of, end_if, third_if, child_if, operand_of}
use Rattle.jr_types.proofs.Operands.{no_second_row, second_is}
use Rattle.jr_types.proofs.Values.{conditional_is}
use Rattle.jr_type_facts.proofs.Parts.{third_is}

-- a row is there, or past the end
end_within : (p : Rows) (n : ℕ) → n < length p → end_if p n ≡ Some (end p n)
end_within p n lt = ap (option_map (λ r. r.end)) (slice_get-get_or p n (record { label = is.Skip; name = []; parent = n; end = n + 1; previous = n }) lt)

module _ (p : Rows) (types : Types) (n : ℕ) where
  -- where the second child has a type, it is there
  second_there : (a : RowType) → second p types n ≡ Some a → end_if p (n + 1) ≡ Some (end p (n + 1))
  second_there a is = ⊎_elim (λ lt. end_within p (n + 1) lt)
      (λ le. absurd (none-some a (ap (child_if p types n) (sym (no_second_row p (n + 1) le)) ∙ second_is p types n ∙ is))) (cases_lt (n + 1) (length p))

  third_from : (b : RowType) → n + 1 < length p → third p types n ≡ Some b → third_if p n ≡ Some (end p (end p (n + 1)))
  third_from b lt is = ⊎_elim (λ inside. next ∙ end_within p (end p (n + 1)) inside)
      (λ le. absurd (none-some b (ap (child_if p types n) (sym (next ∙ no_second_row p (end p (n + 1)) le)) ∙ third_is p types n ∙ is))) (cases_lt (end p (n + 1)) (length p))
    where
      next : third_if p n ≡ end_if p (end p (n + 1))
      next = ap (option_and_then (end_if p)) (end_within p (n + 1) lt)

  third_there : (b : RowType) → third p types n ≡ Some b → third_if p n ≡ Some (end p (end p (n + 1)))
  third_there b is = ⊎_elim (λ lt. third_from b lt is)
      (λ le. absurd (none-some b (ap (child_if p types n) (sym (ap (option_and_then (end_if p)) (no_second_row p (n + 1) le))) ∙ third_is p types n ∙ is))) (cases_lt (n + 1) (length p))

abbrev value_at : Constants → Option ℕ → Option ℤ
value_at constant k = option_and_then (λ m. int_of (constant m)) k

pub typed_told : (p : Rows) (t : Table) (constant : Constants) (types : Types) (n : ℕ) (a b : RowType) (one other : Operand) (r : Option RowType) → second p types n ≡ Some a → third p types n ≡ Some b
    → one ≡ operand_of a (value_at constant (end_if p (n + 1))) → other ≡ operand_of b (value_at constant (third_if p n))
    → r ≡ conditional_type p t (operands one.value other.value) 0 1 one.ty other.ty → r ≡ conditional_type p t constant (end p (n + 1)) (end p (end p (n + 1))) a b
typed_told p t constant types n a b one other r left right first last is = is
    ∙ ap₂ (λ x y. conditional_type p t (operands x.value y.value) 0 1 x.ty y.ty)
    (first ∙ ap (λ k. operand_of a (value_at constant k)) (second_there p types n a left)) (last ∙ ap (λ k. operand_of b (value_at constant k)) (third_there p types n b right))
    ∙ conditional_is constant (end p (n + 1)) (end p (end p (n + 1))) p t a b
