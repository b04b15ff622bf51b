-- Rules on types and static contexts are broken at rows of the program, where the table has nothing past its end.
use Rattle.std.proofs.Common.{◌≡◌, ap, sym, ◌∙◌, subst, ⊎_elim, ℕ, ◌≤◌, ◌<◌, length}
use Rattle.std.proofs.lemmas.Bool.{cases_lt}
use Rattle.jr_tree.specs.declared.label.Label.{Label}
use Rattle.jr_tree.specs.declared.label.Label.TheVariants as is
use Rattle.jr_tree.specs.Labels.{sought_by}
use Rattle.jr_tree.specs.Rows.{Rows, label, parent}
use Rattle.jr_defs.specs.declared.referent.Referent.{Referent}
use Rattle.jr_defs.specs.declared.referent.Referent.TheVariants.{Unbound, Declared}
use Rattle.jr_defs.specs.Referents.{Table}
use Rattle.jr_defs.specs.Rules.{IsBehindDot}
use Rattle.jr_defs.specs.MemberRules.{IsOtherName}
use Rattle.jr_plain.specs.Search.{Reaches}
use Rattle.jr_plain.proofs.Bounds.{label_past, parent_past, bounded, constructor_below}
use Rattle.jr_rules.specs.Objects.{IsBySuper, NeedsObject, LacksObject}
use Rattle.jr_rules.specs.Initializing.{IsSimple}
use Rattle.jr_rules.specs.Creations.{CallsByThis, AbstractIsUsed}
use Rattle.jr_rules.specs.Operands.{TakesOne, TakesTwo, OperandsDoNotFit, ChangesFirst, CastIsNotAllowed}
use Rattle.jr_rules.specs.Statements.{IsNotThrowable, TestsFirst, TestsSecond, IsCondition, SwitchDoesNotFit, ReturnDoesNotFit, HasNoTarget}
use Rattle.jr_rules.specs.Places.{IsNewArray, PlaceOf, ArrayDoesNotFit}
use Rattle.jr_rules.specs.TypeRules.{BreaksTypes}

module _ (p : Rows) where
  row_is : (n : ℕ) (l : Label) → (l ≡ is.Skip → ⊥) → label p n ≡ l → n < length p
  row_is n l other e = bounded (λ k. k ≡ l) (λ s. other (sym s)) p n e

  -- what stands below a row that is not empty
  child_of : (P : Label → Type 0) → (P is.Skip → ⊥) → (n : ℕ) → P (label p (parent p n)) → n < length p
  child_of P never n h = ⊎_elim (λ lt. lt) (λ le. absurd (never (subst P (ap (label p) (parent_past p n le) ∙ label_past p n le) h))) (cases_lt n (length p))

  below_is : (n : ℕ) (l : Label) → (l ≡ is.Skip → ⊥) → label p (parent p n) ≡ l → n < length p
  below_is n l other e = child_of (λ k. k ≡ l) (λ s. other (sym s)) n e

  condition_row : (n : ℕ) → IsCondition p n → n < length p
  condition_row n (IsCondition.as_first h e) = child_of TestsFirst (λ h. h) n h
  condition_row n (IsCondition.as_second h e) = child_of TestsSecond (λ h. h) n h

  module _ (t : Table) (past : (o : ℕ) → length p ≤ o → t o ≡ Unbound) where
    refers_row : (o : ℕ) (r : Referent) → (r ≡ Unbound → ⊥) → t o ≡ r → o < length p
    refers_row o r bound e = ⊎_elim (λ lt. lt) (λ le. absurd (bound (sym e ∙ past o le))) (cases_lt o (length p))

    needs_row : (o c : ℕ) → NeedsObject p t o c → o < length p
    needs_row o c (NeedsObject.as_this e h) = row_is o (is.This _) (λ e. cc) e
    needs_row o c (NeedsObject.as_this_of e h) = row_is o (is.This _) (λ e. cc) e
    needs_row o c (NeedsObject.by_super h i) = bounded IsBySuper (λ h. h) p o h
    needs_row o c (NeedsObject.of_member e h) = refers_row o (Declared _ _) (λ e. cc) e
    needs_row o c (NeedsObject.round_new e h) = row_is o is.New (λ e. cc) e

    lacks_row : (o : ℕ) → LacksObject p t o → o < length p
    lacks_row o (LacksObject.not_there {c = c} h no') = needs_row o c h
    lacks_row o (LacksObject.behind_type h n e i) = bounded (λ l. IsBehindDot (sought_by l)) (λ h. h) p o h

    round_row : (a b : ℕ) → Reaches (CallsByThis p t) a b → a < length p
    round_row a b (Reaches.direct e) = constructor_below p a e.constructor
    round_row a b (Reaches.further e more) = constructor_below p a e.constructor

    abstract_row : (n : ℕ) → AbstractIsUsed p t n → n < length p
    abstract_row n (AbstractIsUsed.by_creation e h a) = row_is n is.New (λ e. cc) e
    abstract_row n (AbstractIsUsed.by_super_call e h a) = row_is n (is.Call _) (λ e. cc) e

    operands_row : (n : ℕ) → OperandsDoNotFit p t n → n < length p
    operands_row n (OperandsDoNotFit.one_operand h a no') = bounded TakesOne (λ h. h) p n h
    operands_row n (OperandsDoNotFit.two_operands h a b no') = bounded TakesTwo (λ h. h) p n h
    operands_row n (OperandsDoNotFit.two_branches e a b r no') = row_is n is.Conditional (λ e. cc) e

    cast_row : (n : ℕ) → CastIsNotAllowed p t n → n < length p
    cast_row n (CastIsNotAllowed.of_cast e a b no') = row_is n is.Cast (λ e. cc) e
    cast_row n (CastIsNotAllowed.of_test e a b no') = row_is n is.IsA (λ e. cc) e

    throwable_row : (n : ℕ) → IsNotThrowable p t n → n < length p
    throwable_row n (IsNotThrowable.of_throw e a no') = row_is n is.Throw (λ e. cc) e
    throwable_row n (IsNotThrowable.of_catch e a no') = below_is n is.Catch (λ e. cc) e
    throwable_row n (IsNotThrowable.of_header h i e no') = bounded IsOtherName (λ h. h) p n i

    switch_row : (n : ℕ) → SwitchDoesNotFit p t n → n < length p
    switch_row n (SwitchDoesNotFit.of_type e a no') = row_is n is.Switch (λ e. cc) e
    switch_row n (SwitchDoesNotFit.not_constant e no') = row_is n is.Case (λ e. cc) e
    switch_row n (SwitchDoesNotFit.not_assignable e a b no') = row_is n is.Case (λ e. cc) e
    switch_row n (SwitchDoesNotFit.repeated v w e lt) = row_is n is.Case (λ e. cc) w.case
    switch_row n (SwitchDoesNotFit.two_defaults d e s lt) = row_is n is.Default (λ e. cc) e

    return_row : (n : ℕ) → ReturnDoesNotFit p t n → n < length p
    return_row n (ReturnDoesNotFit.in_initializer e m i) = row_is n is.Return (λ e. cc) e
    return_row n (ReturnDoesNotFit.with_value e m i c) = row_is n is.Return (λ e. cc) e
    return_row n (ReturnDoesNotFit.without_value e m i c) = row_is n is.Return (λ e. cc) e
    return_row n (ReturnDoesNotFit.with_other_value e m i a b no') = row_is n is.Return (λ e. cc) e

    target_row : (n : ℕ) → HasNoTarget p t n → n < length p
    target_row n (HasNoTarget.of_break e no') = row_is n (is.Break _) (λ e. cc) e
    target_row n (HasNoTarget.of_continue e no') = row_is n (is.Continue _) (λ e. cc) e
    target_row n (HasNoTarget.of_label e r no') = row_is n (is.Continue _) (λ e. cc) e

    place_row : (n : ℕ) (a : _) → PlaceOf p t n a → n < length p
    place_row n a (PlaceOf.assigned_to e i f) = below_is n (is.Assign _) (λ e. cc) e
    place_row n a (PlaceOf.initial e i) = below_is n is.Value (λ e. cc) e

    array_row : (n : ℕ) → ArrayDoesNotFit p t n → n < length p
    array_row n (ArrayDoesNotFit.of_index e i a no') = below_is n is.Index (λ e. cc) e
    array_row n (ArrayDoesNotFit.of_indexed e i a d) = below_is n is.Index (λ e. cc) e
    array_row n (ArrayDoesNotFit.of_length h a no') = child_of IsNewArray (λ h. h) n h
    array_row n (ArrayDoesNotFit.of_list e i d) = row_is n is.List (λ e. cc) e

    pub breaking_row : (rule n : ℕ) → BreaksTypes p t rule n → n < length p
    breaking_row _ n (BreaksTypes.lacks_object h) = lacks_row n h
    breaking_row _ n (BreaksTypes.used_too_early h) = bounded (λ l. IsSimple (sought_by l)) (λ h. h) p n h.simple
    breaking_row _ n (BreaksTypes.calls_itself_round h) = round_row n n h
    breaking_row _ n (BreaksTypes.not_throwable h) = throwable_row n h
    breaking_row _ n (BreaksTypes.operands h) = operands_row n h
    breaking_row _ n (BreaksTypes.value h) = place_row n h.place h.stands
    breaking_row _ n (BreaksTypes.no_variable h) = child_of ChangesFirst (λ h. h) n h.changed
    breaking_row _ n (BreaksTypes.cast h) = cast_row n h
    breaking_row _ n (BreaksTypes.condition h) = condition_row n h.condition
    breaking_row _ n (BreaksTypes.switch h) = switch_row n h
    breaking_row _ n (BreaksTypes.void h) = row_is n (is.Call h.receiver) (λ e. cc) h.call
    breaking_row _ n (BreaksTypes.returns h) = return_row n h
    breaking_row _ n (BreaksTypes.abstracts h) = abstract_row n h
    breaking_row _ n (BreaksTypes.array h) = array_row n h
    breaking_row _ n (BreaksTypes.jump h) = target_row n h
    breaking_row _ n (BreaksTypes.branches h) = row_is n is.Conditional (λ e. cc) h.conditional
