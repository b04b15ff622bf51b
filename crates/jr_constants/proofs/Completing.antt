-- Where no value is missing, each constant has its value.
use Rattle.std.proofs.Common.{◌≡◌, refl, sym, ◌∙◌, ap, ap₂, subst, ℕ, ◌+◌, Bool, true, cond, Option, Some, None, nat_eq}
use Rattle.std.specs.Prelude.{option_and_then}
use Rattle.std.proofs.lemmas.Bool.Decides.{Decides-eqb}
use Rattle.std.proofs.lemmas.Option.{none-some, same_Some}
use Rattle.jr_base.specs.declared.constant.Const.{Const}
use Rattle.jr_base.specs.declared.constant.Const.TheVariants as c
use Rattle.jr_tree.specs.declared.label.Label.{Label}
use Rattle.jr_tree.specs.declared.label.Label.TheVariants as is
use Rattle.jr_tree.specs.Rows.{Rows, label, parent, end}
use Rattle.jr_defs.specs.declared.referent.Referent.TheVariants.{Declared}
use Rattle.jr_defs.specs.Referents.{Table}
use Rattle.jr_defs.specs.Declarations.{IsVariable}
use Rattle.jr_defs.specs.Laws.{Picked}
use Rattle.jr_defs.specs.Operators.{cast_to, assigned_to, unary_value, binary_value, chosen}
use Rattle.jr_defs.specs.Constants.{Converts, ConstantOf, ConstantVariable, HasConstantForm, Constant}
use Rattle.jr_plain.specs.Search.{Finds}
use Rattle.jr_plain.specs.Types.{type_at, type_of_declared}
use Rattle.jr_plain.specs.Typing.{IsTypable, IsVariableLabel}
use Rattle.jr_plain.specs.Conversions.{of_two}
use Rattle.jr_plain.specs.Constants as plain
use Rattle.jr_plain.proofs.Typed.{type_finds, has_type_finds}
use Rattle.jr_plain.proofs.Finding.{guard_finds, then_finds, two_finds}
use Rattle.jr_plain.proofs.Valued.{convert_finds, constants_find, constant_form_tells, constant_more}
use Rattle.jr_supers.specs.Tabled.{declared}
use Rattle.jr_constants.specs.declared.constants.Constants as code
use Rattle.jr_constants.specs.Tables.{valued_by, AreKnown}
use Rattle.jr_constants.specs.Resting.{values_of, variables_of, IsStable, IsResting}
use Rattle.jr_constants.proofs.Knowing.{itself_finds, value_out, initialized_tells}

-- what finds the same is the same
finds_same : {A : Type 0} {P : A → Type 0} (a b : Option A) → Finds a P → Finds b P → a ≡ b
finds_same (Some x) b f g = sym ((g x).1 ((f x).0 refl))
finds_same None None f g = refl
finds_same None (Some y) f g = (f y).1 ((g y).0 refl)

variable_of : (p : Rows) (t : Table) (K : ℕ → Type 0) (d : ℕ) (w : Const) → ConstantVariable p t K d w → IsVariable p d
variable_of p t K d w (ConstantVariable.variable x f h i j k l m) = x

module _ (p : Rows) (t : Table) (k : ℕ → Bool) (typable : IsTypable p t) (found : code.Constants) (known : AreKnown p t k found.texts found.variables.items found.values.items) (stable : IsStable p t k found)
    (resting : IsResting p t found) where
  one : (n : ℕ) (v w : Const) → ConstantOf p t (Picked k) n v → ConstantOf p t (Picked k) n w → v ≡ w
  one n v w a b = same_Some v w (sym ((constants_find p t k typable n v).1 a) ∙ (constants_find p t k typable n w).1 b)

  part_is : (n m : ℕ) → parent p m ≡ n → plain.part p (values_of found) n m ≡ values_of found m
  part_is n m e = ap (λ b. cond b (values_of found m) None) ((Decides-eqb (parent p m) n).1 e)

  at : (n : ℕ) (l : Label) → label p n ≡ l → values_of found n ≡ valued_by p t k (variables_of found) (values_of found) n l
  at n l e = stable n ∙ ap (valued_by p t k (variables_of found) (values_of found) n) e

  reads : (n d : ℕ) (level : Option ℕ) → k n ≡ true → t n ≡ Declared d level → cond (k n) (option_and_then (variables_of found) (declared (t n))) None ≡ variables_of found d
  reads n d level picked e = ap₂ (λ b r. cond b (option_and_then (variables_of found) (declared r)) None) picked e

  refers : (n d : ℕ) (level : Option ℕ) (l : Label) → label p n ≡ l → IsVariableLabel l → k n ≡ true → t n ≡ Declared d level → values_of found n ≡ variables_of found d
  refers n d level (is.Name kind place is_qualified) at_label h picked e = at n (is.Name kind place is_qualified) at_label ∙ reads n d level picked e
  refers n d level is.Select at_label h picked e = at n is.Select at_label ∙ reads n d level picked e
  refers n d level is.SuperSelect at_label h picked e = at n is.SuperSelect at_label ∙ reads n d level picked e
  refers n d level _ at_label h picked e = absurd h

  mutual
    of_row : (n : ℕ) (v : Const) → ConstantOf p t (Picked k) n v → values_of found n ≡ Some v
    of_row n v (ConstantOf.literal {token = token} e h) = at n (is.Literal token) e ∙ h
    of_row n v (ConstantOf.reference {d = d} {level = level} picked e w) = let x = of_variable d v w in
        let here = refers n d level (label p n) refl (typable.variable n d level e (variable_of p t (Picked k) d v w)) picked e ∙ x.1 in
        here ∙ ap Some (one n x.0 v (value_out (λ m w. ConstantOf p t (Picked k) m w) found.texts found.values.items known.of_rows n x.0 here) (ConstantOf.reference picked e w))
    of_row n v (ConstantOf.paren e i w) = at n is.Paren e ∙ part_is n (n + 1) i ∙ of_row (n + 1) v w
    of_row n w (ConstantOf.cast {a = a} {v = v} e b i j h made) = at n is.Cast e ∙ (guard_finds (nat_eq (parent p (n + 1)) n) (of_two (plain.converted_as p cast_to) (type_at p t (n + 1)) (plain.part p (values_of found) n (end p (n + 1))))
        (Decides-eqb (parent p (n + 1)) n) (two_finds (λ a v w. Converts p cast_to v w a) (plain.converted_as p cast_to) (λ a v. convert_finds p cast_to (λ s units. refl) a v)
        (type_at p t (n + 1)) (plain.part p (values_of found) n (end p (n + 1))) (type_finds p t (n + 1)) (itself_finds (plain.part p (values_of found) n (end p (n + 1))))) w).1
        (b, (a, v, i, part_is n (end p (n + 1)) j ∙ of_row (end p (n + 1)) v h, made))
    of_row n w (ConstantOf.unary {op = op} {v = v} e i h made) = at n (is.Unary op) e
        ∙ (then_finds (unary_value op) (plain.part p (values_of found) n (n + 1)) (itself_finds (plain.part p (values_of found) n (n + 1))) (λ v. itself_finds (unary_value op v)) w).1
        (v, part_is n (n + 1) i ∙ of_row (n + 1) v h, made)
    of_row n w (ConstantOf.binary {op = op} {u = u} {v = v} e i h j g made) = at n (is.Binary op) e
        ∙ (two_finds (λ u v w. binary_value op u v ≡ Some w) (binary_value op) (λ u v. itself_finds (binary_value op u v)) (plain.part p (values_of found) n (n + 1)) (plain.part p (values_of found) n (end p (n + 1)))
        (itself_finds (plain.part p (values_of found) n (n + 1))) (itself_finds (plain.part p (values_of found) n (end p (n + 1)))) w).1
        (u, v, part_is n (n + 1) i ∙ of_row (n + 1) u h, part_is n (end p (n + 1)) j ∙ of_row (end p (n + 1)) v g, made)
    of_row n w (ConstantOf.conditional {test = test} {u = u} {v = v} e i h j g q f made) = at n is.Conditional e
        ∙ ap (λ o. plain.chosen_value o (plain.part p (values_of found) n (end p (n + 1))) (plain.part p (values_of found) n (end p (end p (n + 1))))) (part_is n (n + 1) i ∙ of_row (n + 1) (c.Bool test) h)
        ∙ (two_finds (λ u v w. chosen test u v ≡ Some w) (chosen test) (λ u v. itself_finds (chosen test u v)) (plain.part p (values_of found) n (end p (n + 1))) (plain.part p (values_of found) n (end p (end p (n + 1))))
        (itself_finds (plain.part p (values_of found) n (end p (n + 1)))) (itself_finds (plain.part p (values_of found) n (end p (end p (n + 1))))) w).1
        (u, v, part_is n (end p (n + 1)) j ∙ of_row (end p (n + 1)) u g, part_is n (end p (end p (n + 1))) q ∙ of_row (end p (end p (n + 1))) v f, made)

    of_variable : (d : ℕ) (w : Const) → ConstantVariable p t (Picked k) d w → (x : Const) × (variables_of found d ≡ Some x)
    of_variable d w (ConstantVariable.variable {a = a} {v = v} x f h i j g m made) = resting d ((initialized_tells p d).1 ((((x, f), i), j), g)) w
        ((two_finds (λ a v w. Converts p assigned_to v w a) (plain.converted_as p assigned_to) (λ a v. convert_finds p assigned_to (λ s units. refl) a v)
        (type_of_declared p t d) (values_of found (d + 2)) (has_type_finds p t d) (itself_finds (values_of found (d + 2))) w).1 (a, v, h, of_row (d + 2) v m, made))

  values_found : (n : ℕ) → Finds (values_of found n) (λ v. ConstantOf p t (Picked k) n v)
  values_found n v = (value_out (λ m w. ConstantOf p t (Picked k) m w) found.texts found.values.items known.of_rows n v, of_row n v)

  pub values_whole : (n : ℕ) → values_of found n ≡ plain.constants p t k n
  values_whole n = finds_same (values_of found n) (plain.constants p t k n) (values_found n) (constants_find p t k typable n)

-- where the references that are picked are those of the form, the values are constants of the program
pub are_constants : (p : Rows) (t : Table) (k : ℕ → Bool) → ((n : ℕ) → k n ≡ plain.has_constant_form p t n) → (found : code.Constants) → AreKnown p t k found.texts found.variables.items found.values.items
    → (n : ℕ) (v : Const) → values_of found n ≡ Some v → Constant p t n v
are_constants p t k same found known n v e = constant_more p t (Picked k) (HasConstantForm p t) (λ m h. (constant_form_tells p t m).0 (sym (same m) ∙ h)) n v
    (value_out (λ m w. ConstantOf p t (Picked k) m w) found.texts found.values.items known.of_rows n v e)
