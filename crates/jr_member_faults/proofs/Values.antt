-- What gives that the values of variables are those of the definition.
use Rattle.std.proofs.Common.{◌≡◌, refl, sym, ap, ◌∙◌, ℕ, ◌+◌, Bool, true, false, cond, Option, Some, None}
use Rattle.std.proofs.lemmas.Option.{none-some}
use Rattle.jr_base.specs.declared.constant.Const.{Const}
use Rattle.jr_tree.specs.Rows.{Rows}
use Rattle.jr_defs.specs.Constants.{ConstantOf, ConstantVariable, HasConstantForm}
use Rattle.jr_defs.specs.Laws.{Picked}
use Rattle.jr_defs.specs.Operators.{assigned_to}
use Rattle.jr_defs.specs.Referents.{Table}
use Rattle.jr_plain.specs.Constants.{constants, converted_as, has_constant_form, is_initialized, variable_value}
use Rattle.jr_plain.specs.Conversions.{of_two}
use Rattle.jr_plain.specs.Types.{type_of_declared}
use Rattle.jr_plain.specs.Typing.{IsTypable}
use Rattle.jr_plain.proofs.Valued.{constants_find, constant_form_tells, constant_more}
use Rattle.jr_places.proofs.Rounding.{one_found}
use Rattle.jr_constants.specs.declared.constants.Constants as code
use Rattle.jr_constants.specs.Resting.{values_of, variables_of, IsAtRest}
use Rattle.jr_constants.proofs.Completing.{values_whole}
use Rattle.jr_constants.proofs.Knowing.{value_out}
use Rattle.jr_member_rules.specs.Computed.{values}
use Rattle.jr_member_rules.proofs.Inner.{values_find, variable_finds}

module _ (p : Rows) (t : Table) (k : ℕ → Bool) (same : (n : ℕ) → k n ≡ has_constant_form p t n) (typable : IsTypable p t) (found : code.Constants) (h : IsAtRest p t k found) where
  out : (n : ℕ) → Picked k n → HasConstantForm p t n
  out n picked = (constant_form_tells p t n).0 (sym (same n) ∙ picked)

  into : (n : ℕ) → HasConstantForm p t n → Picked k n
  into n form = same n ∙ (constant_form_tells p t n).1 form

  values_same : (n : ℕ) → values_of found n ≡ values p t n
  values_same n = values_whole p t k typable found h.known h.stable h.resting n
      ∙ one_found (λ v. ConstantOf p t (Picked k) n v) (constants p t k n) (values p t n) (constants_find p t k typable n)
      (λ v. (λ e. constant_more p t (HasConstantForm p t) (Picked k) into n v ((values_find p t typable n v).0 e), λ c. (values_find p t typable n v).1 (constant_more p t (Picked k) (HasConstantForm p t) out n v c)))

  variable_to : (d : ℕ) (w : Const) → ConstantVariable p t (Picked k) d w → ConstantVariable p t (HasConstantForm p t) d w
  variable_to d w (ConstantVariable.variable {v = v} x f i a b c m made) = ConstantVariable.variable x f i a b c (constant_more p t (Picked k) (HasConstantForm p t) out (d + 2) v m) made

  sound : (d : ℕ) (w : Const) → variables_of found d ≡ Some w → variable_value p t (values p t) d ≡ Some w
  sound d w e = (variable_finds p t (values p t) (values_find p t typable) d w).1 (variable_to d w (value_out (λ m w. ConstantVariable p t (Picked k) m w) found.texts found.variables.items h.known.of_variables d w e))

  whole : (d : ℕ) (w : Const) → variable_value p t (values p t) d ≡ Some w → (x : Const) × (variables_of found d ≡ Some x)
  whole d w e = by (is_initialized p d) refl e
    where
      by : (b : Bool) → is_initialized p d ≡ b → cond b (of_two (converted_as p assigned_to) (type_of_declared p t d) (values p t (d + 2))) None ≡ Some w → (x : Const) × (variables_of found d ≡ Some x)
      by true is made = h.resting d is w (ap (of_two (converted_as p assigned_to) (type_of_declared p t d)) (values_same (d + 2)) ∙ made)
      by false is made = absurd (none-some w made)

  pub variables_same : (d : ℕ) → variables_of found d ≡ variable_value p t (values p t) d
  variables_same d = by (variables_of found d) (variable_value p t (values p t) d) refl refl
    where
      by : (a b : Option Const) → variables_of found d ≡ a → variable_value p t (values p t) d ≡ b → a ≡ b
      by (Some w) b e f = sym (sound d w e) ∙ f
      by None None e f = refl
      by None (Some w) e f = let x = whole d w f in absurd (none-some x.0 (sym e ∙ x.1))
