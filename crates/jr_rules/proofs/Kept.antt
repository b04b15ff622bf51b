-- What the rules on types say of a program that keeps them.
use Rattle.std.proofs.Common.{◌≡◌, ⊎_elim, arith, ℕ, ◌+◌, length}
use Rattle.jr_tree.specs.declared.label.Label.TheVariants as is
use Rattle.jr_tree.specs.Rows.{Rows, label, parent}
use Rattle.jr_defs.specs.declared.referent.Element.TheVariants as element
use Rattle.jr_defs.specs.declared.referent.RowType.{RowType}
use Rattle.jr_defs.specs.Referents.{Table}
use Rattle.jr_defs.specs.Types.{plain, HasType}
use Rattle.jr_defs.specs.Constants.{HasConstantForm}
use Rattle.jr_defs.specs.Conversions.{IsCastable, IsAssignable}
use Rattle.jr_plain.specs.Conversions.{is_boolean}
use Rattle.jr_plain.specs.Typing.{IsTypable}
use Rattle.jr_plain.proofs.Tests.{decide}
use Rattle.jr_plain.proofs.Converted.{boolean_tells, is_plain_one, castable_tells, assignable_tells}
use Rattle.jr_rules.specs.Typed.{Typed, FirstOf, SecondOf, TypeBelow, InMember}
use Rattle.jr_rules.specs.Objects.{NeedsObject, MayUse, LacksObject}
use Rattle.jr_rules.specs.Operands.{DenotesVariable, ChangesFirst, CastIsNotAllowed}
use Rattle.jr_rules.specs.Statements.{IsThrowable, IsNotThrowable, IsCondition, GivesResult, ReturnDoesNotFit}
use Rattle.jr_rules.specs.Places.{PlaceOf}
use Rattle.jr_rules.specs.TypeRules.{BreaksTypes}
use Rattle.jr_rules.specs.Compiling.{KeepsTypes}
use Rattle.jr_rules.specs.Computed.{values}
use Rattle.jr_rules.proofs.Known.{values_find}
use Rattle.jr_rules.proofs.Objects.{may_use_tells}
use Rattle.jr_rules.proofs.Operands.{denotes_tells}
use Rattle.jr_rules.proofs.Statements.{throwable_tells}

pub object_there : (p : Rows) (t : Table) (o c : ℕ) → KeepsTypes p t → NeedsObject p t o c → MayUse p o c
object_there p t o c kept need = ⊎_elim (λ h. h) (λ lacking. absurd (kept 11 o (BreaksTypes.lacks_object (LacksObject.not_there need lacking)))) (decide (may_use_tells p o c))

pub condition_boolean : (p : Rows) (t : Table) (n : ℕ) (a : RowType) → KeepsTypes p t → IsCondition p n → Typed p t n a → a ≡ plain element.Boolean
condition_boolean p t n a kept at typed = ⊎_elim (λ h. h) (λ other. absurd (kept 28 n (BreaksTypes.condition (record { condition = at; type = a; typed = typed; other = other }))))
    (decide (is_plain_one element.Boolean is_boolean boolean_tells a))

module _ (p : Rows) (t : Table) (typable : IsTypable p t) (kept : KeepsTypes p t) where
  assignable_or : (n : ℕ) (a b : RowType) → ((IsAssignable p t (HasConstantForm p t) n b a → ⊥) → ⊥) → IsAssignable p t (HasConstantForm p t) n b a
  assignable_or n a b refuse = ⊎_elim (λ h. h) (λ other. absurd (refuse other)) (decide (assignable_tells p t typable.headed (HasConstantForm p t) (values p t) n (values_find p t typable n) b a))

  pub value_fits : (n : ℕ) (a b : RowType) → PlaceOf p t n a → Typed p t n b → IsAssignable p t (HasConstantForm p t) n b a
  value_fits n a b place typed = assignable_or n a b (λ other. kept 25 n (BreaksTypes.value (record { place = a; type = b; stands = place; typed = typed; not_assignable = other })))

  pub result_fits : (n c m : ℕ) (a b : RowType) → label p n ≡ is.Return → InMember p n c m → GivesResult (label p m) → HasType p t m a → FirstOf p t n b
      → IsAssignable p t (HasConstantForm p t) (n + 1) b a
  result_fits n c m a b at inside gives type first = assignable_or (n + 1) a b (λ other. kept 31 n (BreaksTypes.returns (ReturnDoesNotFit.with_other_value at inside gives type first other)))

  pub cast_allowed : (n : ℕ) (a b : RowType) → label p n ≡ is.Cast → TypeBelow p t n (n + 1) b → SecondOf p t n a → IsCastable p t a b
  cast_allowed n a b at written second = ⊎_elim (λ h. h) (λ other. absurd (kept 27 n (BreaksTypes.cast (CastIsNotAllowed.of_cast at written second other)))) (decide (castable_tells p t typable.headed a b))

  pub variable_changed : (n : ℕ) → ChangesFirst (label p (parent p n)) → n ≡ parent p n + 1 → DenotesVariable p t n
  variable_changed n changes at = ⊎_elim (λ h. h) (λ other. absurd (kept 26 n (BreaksTypes.no_variable (record { changed = changes; operand = at; no_variable = other }))))
      (decide (denotes_tells p t typable (length p) n (omega arith)))

  pub throwable_thrown : (n : ℕ) (a : RowType) → label p n ≡ is.Throw → FirstOf p t n a → IsThrowable p t a
  throwable_thrown n a at first = ⊎_elim (λ h. h) (λ other. absurd (kept 23 n (BreaksTypes.not_throwable (IsNotThrowable.of_throw at first other)))) (decide (throwable_tells p t typable a))
