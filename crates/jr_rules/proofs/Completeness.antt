-- An expression whose parts have types has one, or a rule is broken there.
use Rattle.std.proofs.Common.{◌≡◌, ◌⊎◌, refl, sym, ◌∙◌, ap, subst, inl, inr, ⊎_elim, ℕ, zero, suc, ◌+◌}
use Rattle.jr_tree.specs.declared.label.Label.TheVariants as is
use Rattle.jr_tree.specs.Rows.{Rows, label, end}
use Rattle.jr_defs.specs.declared.referent.Element.{Element}
use Rattle.jr_defs.specs.declared.referent.Element.TheVariants as element
use Rattle.jr_defs.specs.declared.referent.RowType.{RowType}
use Rattle.jr_defs.specs.Referents.{Table}
use Rattle.jr_defs.specs.Types.{array, plain, class_type}
use Rattle.jr_defs.specs.Supertypes.{IsReferenceType}
use Rattle.jr_defs.specs.Constants.{HasConstantForm}
use Rattle.jr_defs.specs.Instances.{HasInstance}
use Rattle.jr_defs.specs.Typing.{TypeOf, ConditionalType}
use Rattle.jr_plain.specs.Conversions.{is_boolean}
use Rattle.jr_plain.specs.Typing.{IsTypable}
use Rattle.jr_plain.proofs.Tests.{both, decide}
use Rattle.jr_plain.proofs.Modified.{some_tells}
use Rattle.jr_plain.proofs.Supertyped.{reference_type_tells, subtype_tells}
use Rattle.jr_plain.proofs.Instanced.{instance_tells}
use Rattle.jr_plain.proofs.Converted.{boolean_tells, is_plain_one, reference_or_null_tells}
use Rattle.jr_rules.specs.Typed.{Typed, FirstOf, SecondOf, ThirdOf, TypeBelow}
use Rattle.jr_rules.specs.Objects.{NeedsObject, LacksObject}
use Rattle.jr_rules.specs.Operands.{OperandsDoNotFit, CastIsNotAllowed}
use Rattle.jr_rules.specs.Statements.{TestsFirst, IsCondition}
use Rattle.jr_rules.specs.Places.{ArrayDoesNotFit}
use Rattle.jr_rules.specs.TypeRules.{BreaksTypes}
use Rattle.jr_rules.specs.Computed.{types}
use Rattle.jr_rules.specs.Completeness.{HasTypedParts, IsTypedOrBreaks}
use Rattle.jr_rules.proofs.Known.{types_find}

module _ (p : Rows) (t : Table) (typable : IsTypable p t) where
  abbrev IsTyped : ℕ → Type 0
  IsTyped n = (a : RowType) × Typed p t n a

  typed_or_not : (n : ℕ) → IsTyped n ⊎ (IsTyped n → ⊥)
  typed_or_not n = decide (some_tells (λ a. Typed p t n a) (types p t n) (types_find p t typable n))

  here : {rule : ℕ} (n : ℕ) → BreaksTypes p t rule n → IsTypedOrBreaks p t n
  here {rule} n h = inr (record { rule = rule; place = n; near = inl refl; breaks = h })

  at_first : {rule : ℕ} (n : ℕ) → BreaksTypes p t rule (n + 1) → IsTypedOrBreaks p t n
  at_first {rule} n h = inr (record { rule = rule; place = n + 1; near = inr refl; breaks = h })

  operands_or : (n : ℕ) → ((IsTyped n → ⊥) → OperandsDoNotFit p t n) → IsTypedOrBreaks p t n
  operands_or n give = ⊎_elim (λ h. inl h) (λ lacking. here n (BreaksTypes.operands (give lacking))) (typed_or_not n)

  -- ---- the conditional operator

  module _ (n : ℕ) (a b r : RowType) (at : label p n ≡ is.Conditional) (first : FirstOf p t n a) (second : SecondOf p t n b) (third : ThirdOf p t n r) where
    conditional_typed : a ≡ plain element.Boolean → (q : RowType) → ConditionalType p t (HasConstantForm p t) (end p (n + 1)) (end p (end p (n + 1))) b r q → Typed p t n q
    conditional_typed e q h = TypeOf.conditional at (record { at = refl; inside = first.inside }) (subst (λ x. Typed p t (n + 1) x) e first.typed)
        (record { at = refl; inside = second.inside }) second.typed (record { at = refl; inside = third.inside }) third.typed h

    other_condition : (a ≡ plain element.Boolean → ⊥) → BreaksTypes p t 28 (n + 1)
    other_condition lacking = BreaksTypes.condition (record {
      condition = IsCondition.as_first (subst TestsFirst (sym (ap (label p) first.inside)) (subst TestsFirst (sym at) tt)) (ap (λ m. m + 1) (sym first.inside));
      type = a;
      typed = first.typed;
      other = lacking;
    })

    by_references : a ≡ plain element.Boolean → IsReferenceType b × IsReferenceType r → IsTypedOrBreaks p t n
    by_references e refs = ⊎_elim (λ h. inl (r, conditional_typed e r (ConditionalType.wider_right refs.0 refs.1 h)))
        (λ lacking. ⊎_elim (λ h. inl (b, conditional_typed e b (ConditionalType.wider_left refs.0 refs.1 h)))
        (λ other. here n (BreaksTypes.branches (record { conditional = at; left = b; right = r; second = second; third = third; references = refs; unrelated = (lacking, other) })))
        (decide (subtype_tells p t typable.headed r b))) (decide (subtype_tells p t typable.headed b r))

    by_others : a ≡ plain element.Boolean → (IsReferenceType b × IsReferenceType r → ⊥) → IsTypedOrBreaks p t n
    by_others e out = operands_or n (λ lacking. OperandsDoNotFit.two_branches at second third out (λ q h. lacking (q, conditional_typed e q h)))

    conditional_parts : IsTypedOrBreaks p t n
    conditional_parts = ⊎_elim (λ e. ⊎_elim (by_references e) (by_others e) (decide (both (reference_type_tells b) (reference_type_tells r)))) (λ lacking. at_first n (other_condition lacking))
        (decide (is_plain_one element.Boolean is_boolean boolean_tells a))

  -- ---- the other forms

  index_parts : (n : ℕ) (e : Element) (dims : ℕ) → label p n ≡ is.Index → FirstOf p t n (array e dims) → IsTypedOrBreaks p t n
  index_parts n e zero at h = at_first n (BreaksTypes.array (ArrayDoesNotFit.of_indexed (ap (label p) h.inside ∙ at) (ap (λ m. m + 1) (sym h.inside)) h.typed refl))
  index_parts n e (suc dims) at h = inl (array e dims, TypeOf.index at (record { at = refl; inside = h.inside }) h.typed)

  test_parts : (n : ℕ) (a b : RowType) → label p n ≡ is.IsA → FirstOf p t n a → TypeBelow p t n (end p (n + 1)) b → IsTypedOrBreaks p t n
  test_parts n a b at h w = ⊎_elim (λ r. inl (plain element.Boolean, TypeOf.is_a at (record { at = refl; inside = h.inside }) h.typed r))
      (λ lacking. here n (BreaksTypes.cast (CastIsNotAllowed.of_test at h w (λ k. lacking k.0)))) (decide (reference_or_null_tells a))

  object_or : (n c : ℕ) → (HasInstance p n c → Typed p t n (class_type c)) → NeedsObject p t n c → IsTypedOrBreaks p t n
  object_or n c give need = ⊎_elim (λ h. inl (class_type c, give h)) (λ lacking. here n (BreaksTypes.lacks_object (LacksObject.not_there need (λ may. lacking may.there)))) (decide (instance_tells p n c))

  pub typed_or_breaks : (n : ℕ) → HasTypedParts p t n → IsTypedOrBreaks p t n
  typed_or_breaks n (HasTypedParts.of_one l h) = operands_or n (λ lacking. OperandsDoNotFit.one_operand l h (λ a k. lacking (a, k)))
  typed_or_breaks n (HasTypedParts.of_two l h k) = operands_or n (λ lacking. OperandsDoNotFit.two_operands l h k (λ a w. lacking (a, w)))
  typed_or_breaks n (HasTypedParts.of_three {a = a} {b = b} {r = r} at h k w) = conditional_parts n a b r at h k w
  typed_or_breaks n (HasTypedParts.of_assignment {a = a} at h) = inl (a, TypeOf.assigned at (record { at = refl; inside = h.inside }) h.typed)
  typed_or_breaks n (HasTypedParts.of_parentheses {a = a} at h) = inl (a, TypeOf.paren at (record { at = refl; inside = h.inside }) h.typed)
  typed_or_breaks n (HasTypedParts.of_index {a = a} at h) = index_parts n a.element a.dims at h
  typed_or_breaks n (HasTypedParts.of_cast {a = a} at w) = inl (a, TypeOf.cast at w.inside w.written)
  typed_or_breaks n (HasTypedParts.of_test {a = a} {b = b} at h w) = test_parts n a b at h w
  typed_or_breaks n (HasTypedParts.of_this {c = c} at i) = object_or n c (λ h. TypeOf.this at i h) (NeedsObject.as_this at i)
  typed_or_breaks n (HasTypedParts.of_this_of {c = c} at i) = object_or n c (λ h. TypeOf.this_of at i h) (NeedsObject.as_this_of at i)
