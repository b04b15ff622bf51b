-- The test of all rules on types and static contexts tells what it is to tell.
use Rattle.std.proofs.Common.{◌≡◌, ◌⊎◌, refl, subst, inl, inr, ⊎_elim, ℕ, Bool, true, false, List, ◌++◌, nat_eq, Decides}
use Rattle.std.proofs.lemmas.Bool.{false≢true}
use Rattle.std.proofs.lemmas.Bool.Decides.{Decides-eqb}
use Rattle.jr_tree.specs.Rows.{Rows}
use Rattle.jr_defs.specs.Referents.{Table}
use Rattle.jr_defs.specs.Constants.{HasConstantForm, ConstantOf}
use Rattle.jr_plain.specs.Search.{has, Finds}
use Rattle.jr_plain.specs.Conversions.{Constants}
use Rattle.jr_plain.specs.Overloads.{Types}
use Rattle.jr_plain.specs.Typing.{IsTypable}
use Rattle.jr_plain.proofs.Tests.{never, either, like}
use Rattle.jr_plain.proofs.Searches.{among_append}
use Rattle.jr_rules.specs.Typed.{Typed}
use Rattle.jr_rules.specs.Objects.{LacksObject}
use Rattle.jr_rules.specs.Initializing.{IsUsedTooEarly}
use Rattle.jr_rules.specs.Creations.{CallsItselfRound, AbstractIsUsed}
use Rattle.jr_rules.specs.Operands.{OperandsDoNotFit, IsNoVariable, CastIsNotAllowed, BranchesAreUnrelated}
use Rattle.jr_rules.specs.Statements.{IsNotThrowable, ConditionIsNotBoolean, SwitchDoesNotFit, ReturnDoesNotFit, HasNoTarget}
use Rattle.jr_rules.specs.Places.{ValueDoesNotFit, VoidIsUsed, ArrayDoesNotFit}
use Rattle.jr_rules.specs.TypeRules.{BreaksTypes}
use Rattle.jr_rules.specs.Computed.{rule_if, broken_at, values, types, breaks_types}
use Rattle.jr_rules.proofs.Objects.{lacks_object_tells}
use Rattle.jr_rules.proofs.Initializing.{used_too_early_tells}
use Rattle.jr_rules.proofs.Creations.{calls_itself_tells, abstract_used_tells}
use Rattle.jr_rules.proofs.Operands.{operands_do_not_fit_tells, no_variable_tells, cast_tells, branches_tell}
use Rattle.jr_rules.proofs.Statements.{not_throwable_tells, not_boolean_tells, return_tells}
use Rattle.jr_rules.proofs.Switches.{switch_does_not_fit_tells, no_target_tells}
use Rattle.jr_rules.proofs.Places.{value_does_not_fit_tells, void_used_tells, array_tells}
use Rattle.jr_rules.proofs.Known.{values_find, types_find}

-- a rule that is broken is the one
rule_tells : {P : Type 0} (b : Bool) (k rule : ℕ) → Decides b P → Decides (has (rule_if b k) rule) ((k ≡ rule) × P)
rule_tells true k rule d = like (either (Decides-eqb k rule) never) (⊎_elim (λ e. (e, d.0 refl)) (λ h. absurd h)) (λ h. inl h.0)
rule_tells false k rule d = like never (λ h. absurd h) (λ h. false≢true (d.1 h.1))

-- a rule of the first list or of those behind it
pub or_tells : {P Q : Type 0} (first others : List ℕ) (rule : ℕ) → Decides (has first rule) P → Decides (has others rule) Q → Decides (has (first ++ others) rule) (P ⊎ Q)
or_tells first others rule p q = like (among_append nat_eq Decides-eqb first others rule) (⊎_elim (λ h. inl (p.0 h)) (λ h. inr (q.0 h))) (⊎_elim (λ h. inl (p.1 h)) (λ h. inr (q.1 h)))

module _ (p : Rows) (t : Table) (typable : IsTypable p t) (type_of : Types) (typed : (n : ℕ) → Finds (type_of n) (λ a. Typed p t n a))
    (constant : Constants) (known : (n : ℕ) → Finds (constant n) (λ v. ConstantOf p t (HasConstantForm p t) n v)) (rule n : ℕ) where
  abbrev Ways : Type 0
  Ways = ((11 ≡ rule) × LacksObject p t n) ⊎ (((12 ≡ rule) × IsUsedTooEarly p t n) ⊎ (((22 ≡ rule) × CallsItselfRound p t n) ⊎ (((23 ≡ rule) × IsNotThrowable p t n) ⊎ (((24 ≡ rule) × OperandsDoNotFit p t n) ⊎ (((25 ≡ rule) × ValueDoesNotFit p t n) ⊎ (((26 ≡ rule) × IsNoVariable p t n) ⊎ (((27 ≡ rule) × CastIsNotAllowed p t n) ⊎ (((28 ≡ rule) × ConditionIsNotBoolean p t n) ⊎ (((29 ≡ rule) × SwitchDoesNotFit p t n) ⊎ (((30 ≡ rule) × VoidIsUsed p t n) ⊎ (((31 ≡ rule) × ReturnDoesNotFit p t n) ⊎ (((32 ≡ rule) × AbstractIsUsed p t n) ⊎ (((33 ≡ rule) × ArrayDoesNotFit p t n) ⊎ (((34 ≡ rule) × HasNoTarget p t n) ⊎ ((35 ≡ rule) × BranchesAreUnrelated p t n)))))))))))))))

  ways_tell : Decides (has (broken_at p t constant type_of n) rule) Ways
  ways_tell = or_tells _ _ rule (rule_tells _ 11 rule (lacks_object_tells p t n))
      (or_tells _ _ rule (rule_tells _ 12 rule (used_too_early_tells p t n))
      (or_tells _ _ rule (rule_tells _ 22 rule (calls_itself_tells p t n))
      (or_tells _ _ rule (rule_tells _ 23 rule (not_throwable_tells p t typable type_of typed n))
      (or_tells _ _ rule (rule_tells _ 24 rule (operands_do_not_fit_tells p t typable type_of typed constant known n))
      (or_tells _ _ rule (rule_tells _ 25 rule (value_does_not_fit_tells p t typable type_of typed constant known n))
      (or_tells _ _ rule (rule_tells _ 26 rule (no_variable_tells p t typable n))
      (or_tells _ _ rule (rule_tells _ 27 rule (cast_tells p t typable type_of typed n))
      (or_tells _ _ rule (rule_tells _ 28 rule (not_boolean_tells p t typable type_of typed n))
      (or_tells _ _ rule (rule_tells _ 29 rule (switch_does_not_fit_tells p t typable type_of typed constant known n))
      (or_tells _ _ rule (rule_tells _ 30 rule (void_used_tells p t typable type_of typed n))
      (or_tells _ _ rule (rule_tells _ 31 rule (return_tells p t typable type_of typed constant known n))
      (or_tells _ _ rule (rule_tells _ 32 rule (abstract_used_tells p t n))
      (or_tells _ _ rule (rule_tells _ 33 rule (array_tells p t typable type_of typed n))
      (or_tells _ _ rule (rule_tells _ 34 rule (no_target_tells p t n))
      (rule_tells _ 35 rule (branches_tell p t typable type_of typed n))))))))))))))))

  moved : {k : ℕ} → k ≡ rule → BreaksTypes p t k n → BreaksTypes p t rule n
  moved e h = subst (λ r. BreaksTypes p t r n) e h

  ways_out : Ways → BreaksTypes p t rule n
  ways_out (inl h) = moved h.0 (BreaksTypes.lacks_object h.1)
  ways_out (inr (inl h)) = moved h.0 (BreaksTypes.used_too_early h.1)
  ways_out (inr (inr (inl h))) = moved h.0 (BreaksTypes.calls_itself_round h.1)
  ways_out (inr (inr (inr (inl h)))) = moved h.0 (BreaksTypes.not_throwable h.1)
  ways_out (inr (inr (inr (inr (inl h))))) = moved h.0 (BreaksTypes.operands h.1)
  ways_out (inr (inr (inr (inr (inr (inl h)))))) = moved h.0 (BreaksTypes.value h.1)
  ways_out (inr (inr (inr (inr (inr (inr (inl h))))))) = moved h.0 (BreaksTypes.no_variable h.1)
  ways_out (inr (inr (inr (inr (inr (inr (inr (inl h)))))))) = moved h.0 (BreaksTypes.cast h.1)
  ways_out (inr (inr (inr (inr (inr (inr (inr (inr (inl h))))))))) = moved h.0 (BreaksTypes.condition h.1)
  ways_out (inr (inr (inr (inr (inr (inr (inr (inr (inr (inl h)))))))))) = moved h.0 (BreaksTypes.switch h.1)
  ways_out (inr (inr (inr (inr (inr (inr (inr (inr (inr (inr (inl h))))))))))) = moved h.0 (BreaksTypes.void h.1)
  ways_out (inr (inr (inr (inr (inr (inr (inr (inr (inr (inr (inr (inl h)))))))))))) = moved h.0 (BreaksTypes.returns h.1)
  ways_out (inr (inr (inr (inr (inr (inr (inr (inr (inr (inr (inr (inr (inl h))))))))))))) = moved h.0 (BreaksTypes.abstracts h.1)
  ways_out (inr (inr (inr (inr (inr (inr (inr (inr (inr (inr (inr (inr (inr (inl h)))))))))))))) = moved h.0 (BreaksTypes.array h.1)
  ways_out (inr (inr (inr (inr (inr (inr (inr (inr (inr (inr (inr (inr (inr (inr (inl h))))))))))))))) = moved h.0 (BreaksTypes.jump h.1)
  ways_out (inr (inr (inr (inr (inr (inr (inr (inr (inr (inr (inr (inr (inr (inr (inr h))))))))))))))) = moved h.0 (BreaksTypes.branches h.1)

module _ (p : Rows) (t : Table) (typable : IsTypable p t) where
  -- the same ways, where the rule and the row are not fixed
  abbrev WaysOf : ℕ → ℕ → Type 0
  WaysOf rule n = Ways p t typable (types p t) (types_find p t typable) (values p t) (values_find p t typable) rule n

  ways_in : {rule n : ℕ} → BreaksTypes p t rule n → WaysOf rule n
  ways_in (BreaksTypes.lacks_object h) = inl (refl, h)
  ways_in (BreaksTypes.used_too_early h) = inr (inl (refl, h))
  ways_in (BreaksTypes.calls_itself_round h) = inr (inr (inl (refl, h)))
  ways_in (BreaksTypes.not_throwable h) = inr (inr (inr (inl (refl, h))))
  ways_in (BreaksTypes.operands h) = inr (inr (inr (inr (inl (refl, h)))))
  ways_in (BreaksTypes.value h) = inr (inr (inr (inr (inr (inl (refl, h))))))
  ways_in (BreaksTypes.no_variable h) = inr (inr (inr (inr (inr (inr (inl (refl, h)))))))
  ways_in (BreaksTypes.cast h) = inr (inr (inr (inr (inr (inr (inr (inl (refl, h))))))))
  ways_in (BreaksTypes.condition h) = inr (inr (inr (inr (inr (inr (inr (inr (inl (refl, h)))))))))
  ways_in (BreaksTypes.switch h) = inr (inr (inr (inr (inr (inr (inr (inr (inr (inl (refl, h))))))))))
  ways_in (BreaksTypes.void h) = inr (inr (inr (inr (inr (inr (inr (inr (inr (inr (inl (refl, h)))))))))))
  ways_in (BreaksTypes.returns h) = inr (inr (inr (inr (inr (inr (inr (inr (inr (inr (inr (inl (refl, h))))))))))))
  ways_in (BreaksTypes.abstracts h) = inr (inr (inr (inr (inr (inr (inr (inr (inr (inr (inr (inr (inl (refl, h)))))))))))))
  ways_in (BreaksTypes.array h) = inr (inr (inr (inr (inr (inr (inr (inr (inr (inr (inr (inr (inr (inl (refl, h))))))))))))))
  ways_in (BreaksTypes.jump h) = inr (inr (inr (inr (inr (inr (inr (inr (inr (inr (inr (inr (inr (inr (inl (refl, h)))))))))))))))
  ways_in (BreaksTypes.branches h) = inr (inr (inr (inr (inr (inr (inr (inr (inr (inr (inr (inr (inr (inr (inr (refl, h)))))))))))))))

  pub breaks_types_tells : (rule n : ℕ) → Decides (breaks_types p t rule n) (BreaksTypes p t rule n)
  breaks_types_tells rule n = like (ways_tell p t typable (types p t) (types_find p t typable) (values p t) (values_find p t typable) rule n)
      (ways_out p t typable (types p t) (types_find p t typable) (values p t) (values_find p t typable) rule n) ways_in
