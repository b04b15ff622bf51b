-- Constants that were found under one table are those under another, where both agree at names and at the names of types.
use Rattle.std.proofs.Common.{◌≡◌, refl, sym, ◌∙◌, ap, subst, inl, inr, ⊎_elim, arith, ℕ, ◌+◌, ◌≤◌, ◌<◌, ℤ, Bool, true, cond, List, length, Option, Some, None, nat_eq, slice_index_or, slice_set, Result, Ok, Err, IfOk}
use Rattle.std.specs.Prelude.{option_and_then}
use Rattle.std.proofs.Math.Path.{fun_ext}
use Rattle.std.proofs.lemmas.Bool.{cases_eq, cases_lt}
use Rattle.std.proofs.lemmas.List.{get_or_past, get_or-set_other, length-set}
use Rattle.std.proofs.lemmas.Grind.{get_or-set_at}
use Rattle.jr_tree.specs.declared.label.Label.{Label}
use Rattle.jr_tree.specs.declared.label.Label.TheVariants as is
use Rattle.jr_tree.specs.declared.label.NameKind.TheVariants as kind
use Rattle.jr_tree.specs.Rows.{Rows, label, parent, end, sought_at}
use Rattle.jr_defs.specs.Referents.{Table}
use Rattle.jr_defs.specs.Formed.{IsNameLabel, IsFormed}
use Rattle.jr_defs.specs.Laws.{Picked}
use Rattle.jr_defs.specs.Operators.{cast_to, assigned_to}
use Rattle.jr_defs.specs.Constants.{HasConstantForm}
use Rattle.jr_defs.proofs.TypesAgree.{SameTypes}
use Rattle.jr_defs.proofs.TypingSame.{SameNames, name_label, constant_same, variable_same}
use Rattle.jr_plain.specs.Conversions.{Constants, of_two}
use Rattle.jr_plain.specs.Constants as plain
use Rattle.jr_plain.proofs.Valued.{constant_form_tells, constant_more, variable_more}
use Rattle.jr_with.specs.Same.{SameTypeNames}
use Rattle.jr_with.proofs.Constant.{form_same}
use Rattle.jr_with.proofs.Worlds.{where_test, type_at_same, declared_same}
use Rattle.jr_supers.specs.Tabled.{declared}
use Rattle.jr_constants.specs.declared.value.Value.{Value}
use Rattle.jr_constants.specs.declared.value.Value.TheVariants as v
use Rattle.jr_constants.specs.declared.constants.Constants as code
use Rattle.jr_constants.specs.Values.{value_in_if}
use Rattle.jr_constants.specs.Tables.{item, valued_by, picks}
use Rattle.jr_constants.specs.Resting.{values_of, variables_of, IsAtRest}
use Rattle.jr_constants.proofs.Completing.{values_whole, are_constants}
use Rattle.jr_types.specs.Typed.{int_of}
use Rattle.jr_bind.specs.Filled.{int_in, int_at, AreIntsTo}
use Rattle.jr_bind.specs.Exact.{AreConstants, AreFormed}
use Rattle.jr_bind.proofs.Carrying.{written_same}

-- under the table under which they were found
pub constants_under : (p : Rows) (t : Table) (found : code.Constants) → AreFormed p t found → AreConstants p t found
constants_under p t found h = record {
  sound = are_constants p t h.picked h.formed found h.at_rest.known;
  whole = λ typable n. values_whole p t h.picked typable found h.at_rest.known h.at_rest.stable h.at_rest.resting n ∙ ap (λ k. plain.constants p t k n) (fun_ext h.formed);
  formed = h;
}

module _ (p : Rows) (formed : IsFormed p) (t u : Table) (types : SameTypes p t u) (names : (n : ℕ) → IsNameLabel (label p n) → t n ≡ u n) (found : code.Constants) (h : AreFormed p t found) where
  written : SameTypeNames p t u
  written = written_same p formed t u types

  abbrev k : ℕ → Bool
  k = plain.has_constant_form p u

  rest : IsAtRest p t k found
  rest = subst (λ k. IsAtRest p t k found) (fun_ext h.formed ∙ form_same p t u written names formed.name_below) h.at_rest

  form_name : (n : ℕ) → HasConstantForm p u n → IsNameLabel (label p n)
  form_name n (HasConstantForm.simple e) = name_label (label p n) (sought_at p n) refl kind.Variable (inl e)
  form_name n (HasConstantForm.of_type e w) = name_label (label p n) (sought_at p n) refl kind.Variable (inr e)

  reads : (n : ℕ) → k n ≡ true → t n ≡ u n
  reads n e = names n (form_name n ((constant_form_tells p u n).0 e))

  read_over : (variables : Constants) (n : ℕ) → cond (k n) (option_and_then variables (declared (t n))) None ≡ cond (k n) (option_and_then variables (declared (u n))) None
  read_over variables n = where_test (k n) (option_and_then variables (declared (t n))) (option_and_then variables (declared (u n))) None (λ e. ap (λ r. option_and_then variables (declared r)) (reads n e))

  value_over : (variables values : Constants) (n : ℕ) (l : Label) → valued_by p t k variables values n l ≡ valued_by p u k variables values n l
  value_over variables values n (is.Literal token) = refl
  value_over variables values n (is.Name kind place is_qualified) = read_over variables n
  value_over variables values n is.Select = read_over variables n
  value_over variables values n is.SuperSelect = read_over variables n
  value_over variables values n is.Paren = refl
  value_over variables values n is.Cast = ap (λ f. cond (nat_eq (parent p (n + 1)) n) (of_two (plain.converted_as p cast_to) (f (n + 1)) (plain.part p values n (end p (n + 1)))) None) (type_at_same p t u written)
  value_over variables values n (is.Unary op) = refl
  value_over variables values n (is.Binary op) = refl
  value_over variables values n is.Conditional = refl
  value_over variables values n _ = refl

  there : IsAtRest p t (plain.has_constant_form p t) found
  there = subst (λ k. IsAtRest p t k found) (fun_ext h.formed) h.at_rest

  name_rows : SameNames p t u
  name_rows = record { at = names }

  form_out : (n : ℕ) → Picked (plain.has_constant_form p t) n → HasConstantForm p t n
  form_out n e = (constant_form_tells p t n).0 e

  form_in : (n : ℕ) → HasConstantForm p u n → Picked k n
  form_in n e = (constant_form_tells p u n).1 e

  at_rest_over : IsAtRest p u k found
  at_rest_over = record {
    known = record {
      of_rows = λ n value e. (
        (there.known.of_rows n value e).0,
        constant_more p u (HasConstantForm p u) (Picked k) form_in n _
            (constant_same p t u formed types name_rows n _ (constant_more p t (Picked (plain.has_constant_form p t)) (HasConstantForm p t) form_out n _ (there.known.of_rows n value e).1)),
      );
      of_variables = λ n value e. (
        (there.known.of_variables n value e).0,
        variable_more p u (HasConstantForm p u) (Picked k) form_in n _
            (variable_same p t u formed types name_rows n _ (variable_more p t (Picked (plain.has_constant_form p t)) (HasConstantForm p t) form_out n _ (there.known.of_variables n value e).1)),
      );
      size = there.known.size;
    };
    stable = λ m. rest.stable m ∙ value_over (variables_of found) (values_of found) m (label p m);
    resting = λ d initialized w e. rest.resting d initialized w (ap (λ f. of_two (plain.converted_as p assigned_to) (f d) (values_of found (d + 2))) (declared_same p t u written) ∙ e);
  }

  pub constants_over : AreConstants p u found
  constants_over = record {
    sound = are_constants p u k (λ n. refl) found at_rest_over.known;
    whole = λ typable n. values_whole p u k typable found at_rest_over.known at_rest_over.stable at_rest_over.resting n;
    formed = record { picked = k; formed = λ n. refl; at_rest = at_rest_over };
  }

-- ---- ints

int_is : (texts : List (List ℕ)) (o : Option Value) → int_in o ≡ int_of (value_in_if texts o)
int_is texts None = refl
int_is texts (Some (v.Bool x)) = refl
int_is texts (Some (v.Byte x)) = refl
int_is texts (Some (v.Short x)) = refl
int_is texts (Some (v.Char x)) = refl
int_is texts (Some (v.Int x)) = refl
int_is texts (Some (v.Long x)) = refl
int_is texts (Some (v.Str x)) = refl

pub ints_known : (found : code.Constants) (ints : List (Option ℤ)) → ((n : ℕ) → slice_index_or ints n None ≡ int_at found n) → (n : ℕ) → slice_index_or ints n None ≡ int_of (values_of found n)
ints_known found ints h n = h n ∙ int_is found.texts (item found.values.items n)

module _ (found : code.Constants) (start : List (Option ℤ)) where
  pub ints_start : AreIntsTo found start start 0
  ints_start = record { size = refl; each = λ k lt. absurd (omega arith) }

  pub ints_next : (now next : List (Option ℤ)) (n : ℕ) → n < length start → next ≡ slice_set now n (int_at found n) → AreIntsTo found start now n → AreIntsTo found start next (n + 1)
  ints_next now next n lt set h = record {
    size = ap length set ∙ length-set now n (int_at found n) ∙ h.size;
    each = λ k le. ap (λ all. slice_index_or all k None) set ∙ ⊎_elim
        (λ e. get_or-set_at now n k _ None e (let size = h.size in omega arith) ∙ ap (int_at found) (sym e))
        (λ apart. get_or-set_other now n k _ None apart ∙ h.each k (omega arith)) (cases_eq k n);
  }

  pub ints_end : (now : List (Option ℤ)) (n : ℕ) → length start ≤ n → length start ≡ length found.values.items → AreIntsTo found start now n → (k : ℕ) → slice_index_or now k None ≡ int_at found k
  ints_end now n le size h k = ⊎_elim (λ lt. h.each k (omega arith))
      (λ past. let same = h.size in get_or_past now k None (omega arith) ∙ sym (ap int_in (get_or_past found.values.items k None (omega arith)))) (cases_lt k (length start))

pub are_formed : (p : Rows) (t : Table) (forms : List Bool) (found : code.Constants) → ((n : ℕ) → picks forms n ≡ plain.has_constant_form p t n) → IsAtRest p t (picks forms) found → AreFormed p t found
are_formed p t forms found formed rest = record { picked = picks forms; formed = formed; at_rest = rest }

pub formed_result : {B E : Type 0} (p : Rows) (t : Table) (forms read : List Bool) (value : B → code.Constants) (found : Result B E) → read ≡ forms → ((n : ℕ) → picks forms n ≡ plain.has_constant_form p t n)
    → IfOk found (λ all. IsAtRest p t (picks read) (value all)) → IfOk found (λ all. AreFormed p t (value all))
formed_result p t forms read value (Ok all) e formed resting = are_formed p t forms (value all) formed (subst (λ these. IsAtRest p t (picks these) (value all)) e resting)
formed_result p t forms read value (Err x) e formed resting = tt
