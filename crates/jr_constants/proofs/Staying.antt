-- Values of rows stay, where those of later rows and of variables do.
use Rattle.std.proofs.Common.{◌≡◌, refl, sym, ◌∙◌, ap, ap₂, subst, ⊎_elim, arith, ℕ, suc, ◌+◌, ◌≤◌, ◌<◌, Bool, true, false, cond, List, length, Option, Some, None, nat_eq}
use Rattle.std.proofs.Math.Path.{fun_ext}
use Rattle.std.specs.Prelude.{option_and_then, slice_index_or, ◌^◌, is_some}
use Rattle.std.proofs.lemmas.Bool.{cases_eq, cases_lt, false≢true}
use Rattle.std.proofs.lemmas.Option.{none-some}
use Rattle.std.proofs.lemmas.Bool.Decides.{Decides-eqb}
use Rattle.std.proofs.lemmas.List.{get_or_past, get_or-set_other}
use Rattle.std.proofs.lemmas.Grind.{get_or-set_at}
use Rattle.jr_base.specs.declared.constant.Const.{Const}
use Rattle.jr_tree.specs.declared.label.Label.{Label}
use Rattle.jr_tree.specs.declared.label.Label.TheVariants as is
use Rattle.jr_tree.specs.Rows.{Rows, label, parent, end}
use Rattle.jr_tree.specs.Tree.{IsTree}
use Rattle.jr_defs.specs.Operators.{cast_to, assigned_to, unary_value, binary_value}
use Rattle.jr_defs.specs.Referents.{Table}
use Rattle.jr_plain.specs.Types.{type_at, type_of_declared}
use Rattle.jr_plain.specs.Conversions.{Constants, of_two}
use Rattle.jr_plain.specs.Constants as plain
use Rattle.jr_plain.proofs.Bounds.{label_past, parent_past}
use Rattle.jr_constants.specs.declared.value.Value.{Value}
use Rattle.jr_constants.specs.declared.constants.Constants as code
use Rattle.jr_constants.specs.Values.{seen_if, value_in, value_in_if}
use Rattle.jr_constants.specs.Tables.{item, values_in, valued_by, variable_read, IsIn, IsInIf, AreIn, IsGrown, AreKnown, IsInitializer}
use Rattle.jr_constants.specs.Resting.{values_of, variables_of, SetsRow, IsStableFrom, IsStable, IsRestingAt, IsResting}
use Rattle.jr_constants.proofs.Told.{assigned_tells}
use Rattle.jr_constants.proofs.Knowing.{in_more, known_in, initialized_tells}

same_values : (old new : List (List ℕ)) (all : List (Option Value)) → IsGrown old new → AreIn old all → (n : ℕ) → values_in new all n ≡ values_in old all n
same_values old new all grown inside n = by (item all n) (inside n)
  where
    by : (o : Option Value) → IsInIf old o → value_in_if new o ≡ value_in_if old o
    by None h = refl
    by (Some value) h = ap Some (ap (λ texts. value_in texts value) grown.1 ∙ sym (in_more old grown.0 value h).1)

module _ (p : Rows) (tree : IsTree p) (t : Table) (k : ℕ → Bool) where
  -- the parts of a row stand behind it
  module _ (these those vars others : Constants) (n : ℕ) (read : (d : ℕ) → vars d ≡ others d) (same : (m : ℕ) → n < m → these m ≡ those m) where
    part_same : (m : ℕ) → n < m → plain.part p these n m ≡ plain.part p those n m
    part_same m lt = ap (λ a. cond (nat_eq (parent p m) n) a None) (same m lt)

    read_same : variable_read t k vars n ≡ variable_read t k others n
    read_same = ap (λ f. variable_read t k f n) (fun_ext read)

    first_same : plain.part p these n (n + 1) ≡ plain.part p those n (n + 1)
    first_same = part_same (n + 1) (omega arith)

    second_same : plain.part p these n (end p (n + 1)) ≡ plain.part p those n (end p (n + 1))
    second_same = let next = tree.nested (n + 1) in part_same (end p (n + 1)) (omega arith)

    third_same : plain.part p these n (end p (end p (n + 1))) ≡ plain.part p those n (end p (end p (n + 1)))
    third_same = let next = tree.nested (n + 1) in let last = tree.nested (end p (n + 1)) in part_same (end p (end p (n + 1))) (omega arith)

    valued_same : (l : Label) → valued_by p t k vars these n l ≡ valued_by p t k others those n l
    valued_same (is.Literal token) = refl
    valued_same (is.Name kind place is_qualified) = read_same
    valued_same is.Select = read_same
    valued_same is.SuperSelect = read_same
    valued_same is.Paren = first_same
    valued_same is.Cast = ap (λ o. cond (nat_eq (parent p (n + 1)) n) (of_two (plain.converted_as p cast_to) (type_at p t (n + 1)) o) None) second_same
    valued_same (is.Unary op) = ap (option_and_then (unary_value op)) first_same
    valued_same (is.Binary op) = ap₂ (of_two (binary_value op)) first_same second_same
    valued_same is.Conditional = ap (λ o. plain.chosen_value o (plain.part p these n (end p (n + 1))) (plain.part p these n (end p (end p (n + 1))))) first_same
        ∙ ap₂ (plain.chosen_value (plain.part p those n (n + 1))) second_same third_same
    valued_same _ = refl

  pub stable_start : (found : code.Constants) (n : ℕ) → AreKnown p t k found.texts found.variables.items found.values.items → length p ≤ n → IsStableFrom p t k found n
  stable_start found n known past m le = let size = known.size in
      ap (value_in_if found.texts) (get_or_past found.values.items m None (omega arith)) ∙ sym (ap (valued_by p t k (variables_of found) (values_of found) m) (label_past p m (omega arith)))

  pub stable_next : (old new : code.Constants) (n : ℕ) → SetsRow p t k n old new → AreKnown p t k old.texts old.variables.items old.values.items → n < length p → IsStableFrom p t k old (n + 1) → IsStableFrom p t k new n
  stable_next old new n set known lt stable m le = ⊎_elim here behind (cases_eq m n)
    where
      inside : AreIn old.texts old.variables.items × AreIn old.texts old.values.items
      inside = known_in p t k old.variables.items old.values.items old.texts known

      read : (d : ℕ) → variables_of old d ≡ variables_of new d
      read d = sym (ap (λ all. values_in new.texts all d) set.kept ∙ same_values old.texts new.texts old.variables.items set.grown inside.0 d)

      others : (i : ℕ) → (i ≡ n → ⊥) → values_of old i ≡ values_of new i
      others i apart = sym (ap (λ all. value_in_if new.texts (item all i)) set.set ∙ ap (value_in_if new.texts) (get_or-set_other old.values.items n i _ None apart) ∙ same_values old.texts new.texts old.values.items set.grown inside.1 i)

      at_n : values_of new n ≡ valued_by p t k (variables_of new) (values_of new) n (label p n)
      at_n = let size = known.size in ap (λ all. value_in_if new.texts (item all n)) set.set ∙ ap (value_in_if new.texts) (get_or-set_at old.values.items n n _ None refl (omega arith)) ∙ set.is
          ∙ valued_same (values_of old) (values_of new) (variables_of old) (variables_of new) n read (λ i behind. others i (λ e. absurd (omega arith))) (label p n)

      here : m ≡ n → values_of new m ≡ valued_by p t k (variables_of new) (values_of new) m (label p m)
      here e = subst (λ i. values_of new i ≡ valued_by p t k (variables_of new) (values_of new) i (label p i)) (sym e) at_n

      behind : (m ≡ n → ⊥) → values_of new m ≡ valued_by p t k (variables_of new) (values_of new) m (label p m)
      behind apart = sym (others m apart) ∙ stable m (omega arith)
          ∙ valued_same (values_of old) (values_of new) (variables_of old) (variables_of new) m read (λ i after. others i (λ e. absurd (omega arith))) (label p m)

-- ---- variables

-- an initializer stands in the program
initialized_inside : (p : Rows) (d : ℕ) → plain.is_initialized p d ≡ true → d + 2 < length p
initialized_inside p d h = ⊎_elim (λ lt. lt) (λ le. absurd (let e = ((initialized_tells p d).0 h).1 in let f = parent_past p (d + 2) le in omega arith)) (cases_lt (d + 2) (length p))

module _ (p : Rows) (t : Table) (found : code.Constants) (d : ℕ) where
  -- it has none
  pub rests_without : length p < 2 ^ 32 → (d + 2 < 2 ^ 32 → None ≡ cond (plain.is_initialized p d) (Some (d + 2)) None) → IsRestingAt p t found d
  rests_without few none initialized w e = let inside = initialized_inside p d initialized in
      absurd (none-some (d + 2) (none (omega arith) ∙ ap (λ b. cond b (Some (d + 2)) None) initialized))

  -- it has a value
  pub rests_known : (variable : Option Value) → variable ≡ item found.variables.items d → is_some variable ≡ true → IsRestingAt p t found d
  rests_known (Some x) e h initialized w made = (value_in found.texts x, ap (value_in_if found.texts) (sym e))
  rests_known None e h initialized w made = absurd (false≢true h)

  -- its initializer makes none
  none_made : (value : Option Value) → value_in_if found.texts value ≡ of_two (plain.converted_as p assigned_to) (type_of_declared p t d) (values_of found (d + 2)) → is_some value ≡ false → IsRestingAt p t found d
  none_made None e h initialized w made = absurd (none-some w (e ∙ made))
  none_made (Some y) e h initialized w made = absurd (false≢true (sym h))

  pub rests_unmade : (expression : ℕ) (value : Option Value) (ws : List (Option Value)) → IsInitializer p d expression → ws ≡ found.values.items
      → seen_if value ≡ of_two (plain.converted_as p assigned_to) (type_of_declared p t d) (seen_if (item ws expression)) → is_some value ≡ false → IsRestingAt p t found d
  rests_unmade expression value ws init same made fails =
      let at : item ws expression ≡ item found.values.items (d + 2) = ap₂ item same init.row in
      let told = assigned_tells p (type_of_declared p t d) found.texts (item found.values.items (d + 2)) value (made ∙ ap (λ o. of_two (plain.converted_as p assigned_to) (type_of_declared p t d) (seen_if o)) at) in
      none_made value told.0 fails

module _ (p : Rows) (t : Table) (found : code.Constants) (n : ℕ) (each : (d : ℕ) → d < n → IsRestingAt p t found d) where
  pub rests_next : IsRestingAt p t found n → (d : ℕ) → d < n + 1 → IsRestingAt p t found d
  rests_next here d lt = ⊎_elim (λ e. subst (λ k. IsRestingAt p t found k) (sym e) here) (λ apart. each d (omega arith)) (cases_eq d n)

  pub rests_all : length p ≤ n → IsResting p t found
  rests_all le d initialized = let inside = initialized_inside p d initialized in each d (omega arith) initialized
