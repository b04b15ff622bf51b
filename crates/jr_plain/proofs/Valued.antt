-- The values of constant expressions are those that are computed.
use Rattle.std.proofs.Common.{◌≡◌, ◌⊎◌, refl, sym, ◌∙◌, ap, subst, inl, inr, ⊎_elim, arith, ℕ, zero, suc, ◌+◌, ◌≤◌, ◌<◌, Bool, true, false, cond, not, [], ◌∷◌, ◌++◌, length, length-append, Option, Some, None, is_some, nat_eq, Decides}
use Rattle.std.proofs.lemmas.Bool.{false≢true, cases_eq}
use Rattle.std.proofs.lemmas.Bool.Decides.{Decides-eqb}
use Rattle.std.proofs.lemmas.Option.{none-some, same_Some}
use Rattle.jr_base.specs.declared.constant.Const.{Const}
use Rattle.jr_base.specs.declared.constant.Const.TheVariants as c
use Rattle.jr_tree.specs.declared.label.Label.{Label}
use Rattle.jr_tree.specs.declared.label.Label.TheVariants as is
use Rattle.jr_tree.specs.declared.label.NameKind.TheVariants as kind
use Rattle.jr_tree.specs.declared.label.Sought.{Sought}
use Rattle.jr_tree.specs.declared.label.Sought.TheVariants as sought
use Rattle.jr_tree.specs.Rows.{Rows, label, parent, end, sought_at}
use Rattle.jr_defs.specs.declared.referent.Element.{Element}
use Rattle.jr_defs.specs.declared.referent.Element.TheVariants as element
use Rattle.jr_defs.specs.declared.referent.RowType.{RowType}
use Rattle.jr_defs.specs.declared.referent.Referent.{Referent}
use Rattle.jr_defs.specs.declared.referent.Referent.TheVariants.{Declared}
use Rattle.jr_defs.specs.Referents.{Table}
use Rattle.jr_defs.specs.Declarations.{IsVariable}
use Rattle.jr_defs.specs.Modifiers.{IsFinal}
use Rattle.jr_defs.specs.Types.{array, plain, NamesType, TypeAt, HasType}
use Rattle.jr_defs.specs.Laws.{Picked}
use Rattle.jr_defs.specs.Operators.{cast_to, assigned_to, unary_value, binary_value, chosen}
use Rattle.jr_defs.specs.Constants.{literal_value, Converts, ConstantOf, ConstantVariable, HasConstantForm}
use Rattle.jr_plain.specs.Search.{gathered, numbers, if_empty, Finds}
use Rattle.jr_plain.specs.Declarations.{is_string}
use Rattle.jr_plain.specs.Types.{named_type, type_at, type_of_declared}
use Rattle.jr_plain.specs.Conversions.{Constants, of_two}
use Rattle.jr_plain.specs.Typing.{IsVariableLabel, IsTypable}
use Rattle.jr_plain.specs.Constants.{Conversion, or_value, text_as, value_as, converted_as, part, is_value, is_initialized, variable_value, referred_value, chosen_value, constant_by, Values, value_at, new_value, new_values, grown_values, constant_values, constants, has_form, has_constant_form}
use Rattle.jr_plain.proofs.Tests.{itself, both}
use Rattle.jr_plain.proofs.Bounds.{bounded}
use Rattle.jr_plain.proofs.Declared.{string_tells, variable_tells}
use Rattle.jr_plain.proofs.Modified.{some_tells, final_tells}
use Rattle.jr_plain.proofs.Typed.{named_finds, type_finds, has_type_finds}
use Rattle.jr_plain.proofs.Least.{passing, passing_most, less, below}
use Rattle.jr_plain.proofs.Converted.{then_yes}
use Rattle.jr_plain.proofs.Finding.{like_finds, some_finds, none_finds, guard_finds, then_finds, two_finds}

itself_finds : {A : Type 0} (found : Option A) → Finds found (λ x. found ≡ Some x)
itself_finds found x = (λ e. e, λ e. e)

-- ---- conversions of values

module _ (p : Rows) (via : Conversion) (no_text : (s : ℕ) (units : _) → via (element.Class s) (c.Str units) ≡ None) where
  text_out : (e : Element) (v w : Const) → text_as p e v ≡ Some w → Converts p via v w (plain e)
  text_out (element.Class s) (c.Str units) w e =
      let h = (guard_finds (is_string p s) (Some (c.Str units)) (string_tells p s) (some_finds (c.Str units)) w).0 e in Converts.string h.0 refl (sym h.1)
  text_out _ _ w e = absurd (none-some w e)

  value_out : (e : Element) (v w : Const) (found : Option Const) → via e v ≡ found → or_value found (text_as p e v) ≡ Some w → Converts p via v w (plain e)
  value_out e v w (Some x) h k = Converts.primitive (h ∙ k)
  value_out e v w None h k = text_out e v w k

  convert_out : (dims : ℕ) (e : Element) (v w : Const) → value_as p via dims e v ≡ Some w → Converts p via v w (array e dims)
  convert_out zero e v w h = value_out e v w (via e v) refl h
  convert_out (suc dims) e v w h = absurd (none-some w h)

  convert_into : {a : RowType} (v w : Const) → Converts p via v w a → converted_as p via a v ≡ Some w
  convert_into v w (Converts.primitive {e = e} h) = ap (λ x. or_value x (text_as p e v)) h
  convert_into v w (Converts.string {s = s} {units = units} h e k) = ap (λ x. or_value (via (element.Class s) x) (text_as p (element.Class s) x)) e
      ∙ (ap (λ x. or_value x (text_as p (element.Class s) (c.Str units))) (no_text s units)
      ∙ (then_yes (is_string p s) (Some (c.Str units)) None (string_tells p s) h ∙ ap Some (sym e ∙ sym k)))

  pub convert_finds : (a : RowType) (v : Const) → Finds (converted_as p via a v) (λ w. Converts p via v w a)
  convert_finds a v w = (convert_out a.dims a.element v w, convert_into v w)

-- ---- one row

value_label_tells : (l : Label) → Decides (is_value l) (l ≡ is.Value)
value_label_tells is.Value = (λ h. refl, λ e. refl)
value_label_tells _ = (λ h. absurd (false≢true h), λ e. absurd (cc))

chosen_finds : {P Q S : Const → Type 0} (test first second : Option Const) → Finds test P → Finds first Q → Finds second S
    → Finds (chosen_value test first second) (λ w. (b : Bool) × P (c.Bool b) × ((u : Const) × (v : Const) × Q u × S v × (chosen b u v ≡ Some w)))
chosen_finds {P} {Q} {S} (Some (c.Bool b)) first second h i j w =
    let g = two_finds (λ u v w. chosen b u v ≡ Some w) (chosen b) (λ u v. itself_finds (chosen b u v)) first second i j w in (
      λ e. (b, (h (c.Bool b)).0 refl, g.0 e),
      λ q. g.1 (subst (λ x. (u : Const) × (v : Const) × Q u × S v × (chosen x u v ≡ Some w)) (sym (test_of ((h (c.Bool q.0)).1 q.1))) q.2),
    )
  where
    test_of : {x z : Bool} → Some (c.Bool x) ≡ Some (c.Bool z) → x ≡ z
    test_of e = cc
chosen_finds _ first second h i j w = (λ e. absurd (none-some w e), λ q. let e = (h (c.Bool q.0)).1 q.1 in absurd (cc))

module _ (p : Rows) (t : Table) (k : ℕ → Bool) where
  -- how a row of each label has its value, where R has the values of others
  abbrev Initialized : ℕ → Type 0
  Initialized d = (((IsVariable p d × IsFinal p d) × (parent p (d + 1) ≡ d)) × (label p (d + 1) ≡ is.Value)) × (parent p (d + 2) ≡ d + 1)

  abbrev VariableWay : (ℕ → Const → Type 0) → ℕ → Const → Type 0
  VariableWay R d w = Initialized d × ((a : RowType) × (v : Const) × HasType p t d a × R (d + 2) v × Converts p assigned_to v w a)

  abbrev Referred : (ℕ → Const → Type 0) → Referent → Const → Type 0
  Referred R at w = (d : ℕ) × (level : Option ℕ) × (at ≡ Declared d level) × VariableWay R d w

  abbrev Part : (ℕ → Const → Type 0) → ℕ → ℕ → Const → Type 0
  Part R n m v = (parent p m ≡ n) × R m v

  abbrev Way : (ℕ → Const → Type 0) → ℕ → Label → Const → Type 0
  Way R n (is.Literal token) w = literal_value token ≡ Some w
  Way R n (is.Name kind place is_qualified) w = (k n ≡ true) × Referred R (t n) w
  Way R n is.Select w = (k n ≡ true) × Referred R (t n) w
  Way R n is.SuperSelect w = (k n ≡ true) × Referred R (t n) w
  Way R n is.Paren w = Part R n (n + 1) w
  Way R n is.Cast w = (parent p (n + 1) ≡ n) × ((a : RowType) × (v : Const) × TypeAt p t (n + 1) a × Part R n (end p (n + 1)) v × Converts p cast_to v w a)
  Way R n (is.Unary op) w = (v : Const) × Part R n (n + 1) v × (unary_value op v ≡ Some w)
  Way R n (is.Binary op) w = (u : Const) × (v : Const) × Part R n (n + 1) u × Part R n (end p (n + 1)) v × (binary_value op u v ≡ Some w)
  Way R n is.Conditional w = (b : Bool) × Part R n (n + 1) (c.Bool b)
      × ((u : Const) × (v : Const) × Part R n (end p (n + 1)) u × Part R n (end p (end p (n + 1))) v × (chosen b u v ≡ Some w))
  Way R n _ w = ⊥

  -- ---- what is computed is a way

  module _ (R : ℕ → Const → Type 0) (values : Constants) (known : (m : ℕ) → Finds (values m) (λ v. R m v)) where
    part_finds : (n m : ℕ) → Finds (part p values n m) (λ v. Part R n m v)
    part_finds n m = guard_finds (nat_eq (parent p m) n) (values m) (Decides-eqb (parent p m) n) (known m)

    initialized_tells : (d : ℕ) → Decides (is_initialized p d) (Initialized d)
    initialized_tells d =
        both (both (both (both (variable_tells p d) (final_tells p d)) (Decides-eqb (parent p (d + 1)) d)) (value_label_tells (label p (d + 1)))) (Decides-eqb (parent p (d + 2)) (d + 1))

    variable_finds : (d : ℕ) → Finds (variable_value p t values d) (λ w. VariableWay R d w)
    variable_finds d = guard_finds (is_initialized p d) (of_two (converted_as p assigned_to) (type_of_declared p t d) (values (d + 2))) (initialized_tells d)
        (two_finds (λ a v w. Converts p assigned_to v w a) (converted_as p assigned_to) (λ a v. convert_finds p assigned_to (λ s units. refl) a v)
        (type_of_declared p t d) (values (d + 2)) (has_type_finds p t d) (known (d + 2)))

    declared_row : {d e : ℕ} {l m : Option ℕ} → Declared d l ≡ Declared e m → d ≡ e
    declared_row e = cc

    referred_finds : (at : Referent) → Finds (referred_value p t values at) (λ w. Referred R at w)
    referred_finds (Declared d level) w = (
      λ e. (d, level, refl, (variable_finds d w).0 e),
      λ h. (variable_finds d w).1 (subst (λ x. VariableWay R x w) (sym (declared_row h.2)) h.3),
    )
    referred_finds _ w = (λ e. absurd (none-some w e), λ h. let e = h.2 in absurd (cc))

    reference_finds : (n : ℕ) → Finds (cond (k n) (referred_value p t values (t n)) None) (λ w. (k n ≡ true) × Referred R (t n) w)
    reference_finds n = guard_finds (k n) (referred_value p t values (t n)) (itself (k n)) (referred_finds (t n))

    way_finds : (n : ℕ) (l : Label) → Finds (constant_by p t k values n l) (λ w. Way R n l w)
    way_finds n (is.Literal token) = itself_finds (literal_value token)
    way_finds n (is.Name kind place is_qualified) = reference_finds n
    way_finds n is.Select = reference_finds n
    way_finds n is.SuperSelect = reference_finds n
    way_finds n is.Paren = part_finds n (n + 1)
    way_finds n is.Cast = guard_finds (nat_eq (parent p (n + 1)) n) (of_two (converted_as p cast_to) (type_at p t (n + 1)) (part p values n (end p (n + 1)))) (Decides-eqb (parent p (n + 1)) n)
        (two_finds (λ a v w. Converts p cast_to v w a) (converted_as p cast_to) (λ a v. convert_finds p cast_to (λ s units. refl) a v)
        (type_at p t (n + 1)) (part p values n (end p (n + 1))) (type_finds p t (n + 1)) (part_finds n (end p (n + 1))))
    way_finds n (is.Unary op) = then_finds (unary_value op) (part p values n (n + 1)) (part_finds n (n + 1)) (λ v. itself_finds (unary_value op v))
    way_finds n (is.Binary op) = two_finds (λ u v w. binary_value op u v ≡ Some w) (binary_value op) (λ u v. itself_finds (binary_value op u v))
        (part p values n (n + 1)) (part p values n (end p (n + 1))) (part_finds n (n + 1)) (part_finds n (end p (n + 1)))
    way_finds n is.Conditional = chosen_finds (part p values n (n + 1)) (part p values n (end p (n + 1))) (part p values n (end p (end p (n + 1))))
        (part_finds n (n + 1)) (part_finds n (end p (n + 1))) (part_finds n (end p (end p (n + 1))))
    way_finds n _ = none_finds

  -- ---- a way in one relation is one in a wider relation

  module _ (R S : ℕ → Const → Type 0) (wider : (m : ℕ) (v : Const) → R m v → S m v) (n : ℕ) where
    wider_reference : (w : Const) → (k n ≡ true) × Referred R (t n) w → (k n ≡ true) × Referred S (t n) w
    wider_reference w h = (h.0, (h.1.0, h.1.1, h.1.2, (h.1.3.0, (h.1.3.1.0, h.1.3.1.1, h.1.3.1.2, wider (h.1.0 + 2) h.1.3.1.1 h.1.3.1.3, h.1.3.1.4))))

    wider_part : (m : ℕ) (v : Const) → Part R n m v → Part S n m v
    wider_part m v h = (h.0, wider m v h.1)

    wider_way : (l : Label) (w : Const) → Way R n l w → Way S n l w
    wider_way (is.Literal token) w h = h
    wider_way (is.Name kind place is_qualified) w h = wider_reference w h
    wider_way is.Select w h = wider_reference w h
    wider_way is.SuperSelect w h = wider_reference w h
    wider_way is.Paren w h = wider_part (n + 1) w h
    wider_way is.Cast w h = (h.0, (h.1.0, h.1.1, h.1.2, wider_part (end p (n + 1)) h.1.1 h.1.3, h.1.4))
    wider_way (is.Unary op) w h = (h.0, wider_part (n + 1) h.0 h.1, h.2)
    wider_way (is.Binary op) w h = (h.0, h.1, wider_part (n + 1) h.0 h.2, wider_part (end p (n + 1)) h.1 h.3, h.4)
    wider_way is.Conditional w h =
        (h.0, wider_part (n + 1) (c.Bool h.0) h.1, (h.2.0, h.2.1, wider_part (end p (n + 1)) h.2.0 h.2.2, wider_part (end p (end p (n + 1))) h.2.1 h.2.3, h.2.4))
    wider_way _ w h = absurd h

  -- ---- a way gives the value

  abbrev Of : ℕ → Const → Type 0
  Of n v = ConstantOf p t (Picked k) n v

  reference_out : (n : ℕ) (w : Const) → (k n ≡ true) × Referred Of (t n) w → Of n w
  reference_out n w h = let i = h.1.3.0 in let q = h.1.3.1 in
      ConstantOf.reference h.0 h.1.2 (ConstantVariable.variable i.0.0.0.0 i.0.0.0.1 q.2 i.0.0.1 i.0.1 i.1 q.3 q.4)

  way_out : (n : ℕ) (l : Label) (w : Const) → label p n ≡ l → Way Of n l w → Of n w
  way_out n (is.Literal token) w at h = ConstantOf.literal at h
  way_out n (is.Name kind place is_qualified) w at h = reference_out n w h
  way_out n is.Select w at h = reference_out n w h
  way_out n is.SuperSelect w at h = reference_out n w h
  way_out n is.Paren w at h = ConstantOf.paren at h.0 h.1
  way_out n is.Cast w at h = ConstantOf.cast at h.0 h.1.2 h.1.3.0 h.1.3.1 h.1.4
  way_out n (is.Unary op) w at h = ConstantOf.unary at h.1.0 h.1.1 h.2
  way_out n (is.Binary op) w at h = ConstantOf.binary at h.2.0 h.2.1 h.3.0 h.3.1 h.4
  way_out n is.Conditional w at h = ConstantOf.conditional at h.1.0 h.1.1 h.2.2.0 h.2.2.1 h.2.3.0 h.2.3.1 h.2.4
  way_out n _ w at h = absurd h

-- ---- lists of values

one_kept : (b : Bool) (rest more : Option Const) (x v : Const) → (rest ≡ Some v → more ≡ Some v) → cond b (Some x) rest ≡ Some v → cond b (Some x) more ≡ Some v
one_kept true rest more x v f e = e
one_kept false rest more x v f e = f e

value_kept : (set more : Values) (n : ℕ) (v : Const) → value_at set n ≡ Some v → value_at (set ++ more) n ≡ Some v
value_kept [] more n v e = absurd (none-some v e)
value_kept (x ∷ xs) more n v e = one_kept (nat_eq x.0 n) (value_at xs n) (value_at (xs ++ more) n) x.1 v (value_kept xs more n v) e

one_part : {Q : Type 0} (b : Bool) (rest whole : Option Const) (x v : Const) → (whole ≡ Some v → (rest ≡ Some v) ⊎ Q) → cond b (Some x) whole ≡ Some v → (cond b (Some x) rest ≡ Some v) ⊎ Q
one_part true rest whole x v f e = inl e
one_part false rest whole x v f e = f e

value_parts : (set more : Values) (n : ℕ) (v : Const) → value_at (set ++ more) n ≡ Some v → (value_at set n ≡ Some v) ⊎ (value_at more n ≡ Some v)
value_parts [] more n v e = inr e
value_parts (x ∷ xs) more n v e = one_part (nat_eq x.0 n) (value_at xs n) (value_at (xs ++ more) n) x.1 v (value_parts xs more n v) e

one_found : (b : Bool) (whole : Option Const) (x : Const) → (w : Const) × (whole ≡ Some w) → (w : Const) × (cond b (Some x) whole ≡ Some w)
one_found true whole x h = (x, refl)
one_found false whole x h = h

value_after : (set more : Values) (n : ℕ) (v : Const) → value_at more n ≡ Some v → (w : Const) × (value_at (set ++ more) n ≡ Some w)
value_after [] more n v e = (v, e)
value_after (x ∷ xs) more n v e = one_found (nat_eq x.0 n) (value_at (xs ++ more) n) x.1 (value_after xs more n v e)

own_value : (n : ℕ) (v : Const) (more : Values) → value_at ((n, v) ∷ more) n ≡ Some v
own_value n v more = then_yes (nat_eq n n) (Some v) (value_at more n) (Decides-eqb n n) refl

new_out : (m n : ℕ) (old found : Option Const) (v : Const) → value_at (new_value m old found) n ≡ Some v → (m ≡ n) × (old ≡ None) × (found ≡ Some v)
new_out m n None (Some x) v e = let h = (guard_finds (nat_eq m n) (Some x) (Decides-eqb m n) (some_finds x) v).0 e in (h.0, refl, ap Some h.1)
new_out m n None None v e = absurd (none-some v e)
new_out m n (Some x) found v e = absurd (none-some v e)

new_into : (n : ℕ) (old found : Option Const) (v : Const) → old ≡ None → found ≡ Some v → value_at (new_value n old found) n ≡ Some v
new_into n None (Some x) v h e = own_value n x [] ∙ e
new_into n None None v h e = absurd (none-some v e)
new_into n (Some x) found v h e = absurd (none-some x (sym h))

module _ (old found : ℕ → Option Const) where
  gathered_out : (m n : ℕ) (v : Const) → value_at (gathered m (λ j. new_value j (old j) (found j))) n ≡ Some v → (n < m) × (old n ≡ None) × (found n ≡ Some v)
  gathered_out zero n v e = absurd (none-some v e)
  gathered_out (suc m) n v e = by (gathered_out m n v) (value_parts (gathered m (λ j. new_value j (old j) (found j))) (new_value m (old m) (found m)) n v e)
    where
      by : (value_at (gathered m (λ j. new_value j (old j) (found j))) n ≡ Some v → (n < m) × (old n ≡ None) × (found n ≡ Some v))
          → (value_at (gathered m (λ j. new_value j (old j) (found j))) n ≡ Some v) ⊎ (value_at (new_value m (old m) (found m)) n ≡ Some v) → (n < suc m) × (old n ≡ None) × (found n ≡ Some v)
      by before (inl h) = let q = before h in let lt = q.0 in (omega arith, q.1, q.2)
      by before (inr h) = let q = new_out m n (old m) (found m) v h in let e = q.0 in (omega arith, subst (λ x. old x ≡ None) e q.1, subst (λ x. found x ≡ Some v) e q.2)

  gathered_into : (m n : ℕ) (v : Const) → n < m → old n ≡ None → found n ≡ Some v → (w : Const) × (value_at (gathered m (λ j. new_value j (old j) (found j))) n ≡ Some w)
  gathered_into zero n v lt h e = absurd (omega arith)
  gathered_into (suc m) n v lt h e = by (λ lt. gathered_into m n v lt h e) (cases_eq n m)
    where
      by : (n < m → (w : Const) × (value_at (gathered m (λ j. new_value j (old j) (found j))) n ≡ Some w)) → (n ≡ m) ⊎ (n ≡ m → ⊥)
          → (w : Const) × (value_at (gathered m (λ j. new_value j (old j) (found j)) ++ new_value m (old m) (found m)) n ≡ Some w)
      by before (inl same) = value_after (gathered m (λ j. new_value j (old j) (found j))) (new_value m (old m) (found m)) n v
          (subst (λ x. value_at (new_value x (old x) (found x)) n ≡ Some v) same (new_into n (old n) (found n) v h e))
      by before (inr apart) = let q = before (omega arith) in (q.0, value_kept (gathered m (λ j. new_value j (old j) (found j))) (new_value m (old m) (found m)) n q.0 q.1)

-- ---- the values that follow from each other

numbers_length : (n : ℕ) → length (numbers n) ≡ n
numbers_length zero = refl
numbers_length (suc n) = let e = length-append (numbers n) (n ∷ []) in let h = numbers_length n in omega arith

module _ (p : Rows) (t : Table) (k : ℕ → Bool) where
  abbrev Found : Values → ℕ → Option Const
  Found set n = constant_by p t k (value_at set) n (label p n)

  fresh_out : (set : Values) (n : ℕ) (v : Const) → value_at (new_values p t k set) n ≡ Some v → (n < length p) × (value_at set n ≡ None) × (Found set n ≡ Some v)
  fresh_out set n v e = gathered_out (value_at set) (Found set) (length p) n v e

  fresh_into : (set : Values) (n : ℕ) (v : Const) → n < length p → value_at set n ≡ None → Found set n ≡ Some v → (w : Const) × (value_at (new_values p t k set) n ≡ Some w)
  fresh_into set n v lt h e = gathered_into (value_at set) (Found set) (length p) n v lt h e

  -- how many rows have no value yet
  abbrev missing : Values → ℕ
  missing set = passing (λ n. not (is_some (value_at set n))) (numbers (length p))

  one_less : (set : Values) (x : ℕ × Const) (more : Values) → new_values p t k set ≡ x ∷ more → missing (set ++ x ∷ more) < missing set
  one_less set x more e =
      let q = fresh_out set x.0 x.1 (subst (λ new. value_at new x.0 ≡ Some x.1) (sym e) (own_value x.0 x.1 more)) in
      let a = value_after set (x ∷ more) x.0 x.1 (own_value x.0 x.1 more) in
      less (λ n. not (is_some (value_at set n))) (λ n. not (is_some (value_at (set ++ x ∷ more) n))) (λ n. still (value_at set n) (value_at (set ++ x ∷ more) n) (value_kept set (x ∷ more) n)) nat_eq Decides-eqb
      (numbers (length p)) x.0 ((below (length p) x.0).1 q.0) (ap (λ o. not (is_some o)) a.1) (ap (λ o. not (is_some o)) q.1)
    where
      still : (old new : Option Const) → ((v : Const) → old ≡ Some v → new ≡ Some v) → not (is_some new) ≡ true → not (is_some old) ≡ true
      still None new f h = refl
      still (Some v) new f h = absurd (false≢true (sym (ap (λ o. not (is_some o)) (f v refl)) ∙ h))

  -- what follows from the values is among them
  abbrev IsClosed : Values → Type 0
  IsClosed set = (n : ℕ) (v : Const) → n < length p → Found set n ≡ Some v → (w : Const) × (value_at set n ≡ Some w)

  none_missing : (set : Values) → missing set ≤ 0 → IsClosed set
  none_missing set le n v lt h = by (value_at set n) refl
    where
      by : (old : Option Const) → value_at set n ≡ old → (w : Const) × (value_at set n ≡ Some w)
      by (Some w) e = (w, e)
      by None e = let fewer = less (λ m. not (is_some (value_at set m))) (λ m. false) (λ m e. absurd (false≢true e)) nat_eq Decides-eqb (numbers (length p)) n ((below (length p) n).1 lt) refl
          (ap (λ o. not (is_some o)) e) in absurd (omega arith)

  nothing_new : (set : Values) → new_values p t k set ≡ [] → IsClosed set
  nothing_new set e n v lt h = by (value_at set n) refl
    where
      by : (old : Option Const) → value_at set n ≡ old → (w : Const) × (value_at set n ≡ Some w)
      by (Some w) at = (w, at)
      by None at = let q = fresh_into set n v lt at h in absurd (none-some q.0 (subst (λ new. value_at new n ≡ Some q.0) e q.1))

  grown_closed : (rounds : ℕ) (set : Values) → missing set ≤ rounds → IsClosed (grown_values p t k rounds set)
  grown_closed zero set le = none_missing set le
  grown_closed (suc rounds) set le = by (new_values p t k set) refl (λ new fewer. grown_closed rounds (set ++ new) fewer)
    where
      by : (new : Values) → new_values p t k set ≡ new → ((new : Values) → missing (set ++ new) ≤ rounds → IsClosed (grown_values p t k rounds (set ++ new)))
          → IsClosed (if_empty new set (grown_values p t k rounds (set ++ new)))
      by [] e rest = nothing_new set e
      by (x ∷ more) e rest = let lt = one_less set x more e in rest (x ∷ more) (omega arith)

  -- what holds of values, and still does with those that follow, holds in the end
  grown_keeps : (I : Values → Type 0) → ((set : Values) → I set → I (set ++ new_values p t k set)) → (rounds : ℕ) (set : Values) → I set → I (grown_values p t k rounds set)
  grown_keeps I step zero set holds = holds
  grown_keeps I step (suc rounds) set holds = by (new_values p t k set) (step set holds) (grown_keeps I step rounds (set ++ new_values p t k set))
    where
      by : (new : Values) → I (set ++ new) → (I (set ++ new) → I (grown_values p t k rounds (set ++ new))) → I (if_empty new set (grown_values p t k rounds (set ++ new)))
      by [] h rest = holds
      by (x ∷ more) h rest = rest h

  -- ---- the values in the end

  abbrev At : Values → ℕ → Const → Type 0
  At set n v = value_at set n ≡ Some v

  found_way : (set : Values) (n : ℕ) → Finds (Found set n) (λ v. Way p t k (At set) n (label p n) v)
  found_way set n = way_finds p t k (At set) (value_at set) (λ m. itself_finds (value_at set m)) n (label p n)

  -- each is the value of its row
  abbrev IsSound : Values → Type 0
  IsSound set = (n : ℕ) (v : Const) → value_at set n ≡ Some v → ConstantOf p t (Picked k) n v

  sound_step : (set : Values) → IsSound set → IsSound (set ++ new_values p t k set)
  sound_step set holds n v e = ⊎_elim (holds n v)
      (λ h. way_out p t k n (label p n) v refl (wider_way p t k (At set) (λ m w. ConstantOf p t (Picked k) m w) holds n (label p n) v ((found_way set n v).0 (fresh_out set n v h).2)))
      (value_parts set (new_values p t k set) n v e)

  -- each is found again
  abbrev IsStable : Values → Type 0
  IsStable set = (n : ℕ) (v : Const) → value_at set n ≡ Some v → Found set n ≡ Some v

  stable_step : (set : Values) → IsStable set → IsStable (set ++ new_values p t k set)
  stable_step set holds n v e =
      let before : Found set n ≡ Some v = ⊎_elim (holds n v) (λ h. (fresh_out set n v h).2) (value_parts set (new_values p t k set) n v e) in
      (found_way (set ++ new_values p t k set) n v).1
      (wider_way p t k (At set) (At (set ++ new_values p t k set)) (λ m w h. value_kept set (new_values p t k set) m w h) n (label p n) v ((found_way set n v).0 before))

  sound : IsSound (constant_values p t k)
  sound = grown_keeps IsSound sound_step (length p) [] (λ n v e. absurd (none-some v e))

  stable : IsStable (constant_values p t k)
  stable = grown_keeps IsStable stable_step (length p) [] (λ n v e. absurd (none-some v e))

  closed : IsClosed (constant_values p t k)
  closed = grown_closed (length p) [] (subst (λ m. missing [] ≤ m) (numbers_length (length p)) (passing_most (λ n. not (is_some (value_at [] n))) (numbers (length p))))

  abbrev Last : ℕ → Const → Type 0
  Last n v = constants p t k n ≡ Some v

  back : (n : ℕ) (v : Const) → Way p t k Last n (label p n) v → Last n v
  back n v way =
      let e = (found_way (constant_values p t k) n v).1 way in
      let q = closed n v (bounded (λ l. Way p t k Last n l v) (λ h. h) p n way) e in
      subst (λ x. constants p t k n ≡ Some x) (same_Some q.0 v (sym (stable n q.0 q.1) ∙ e)) q.1

  at_label : {l : Label} (n : ℕ) (v : Const) → label p n ≡ l → Way p t k Last n l v → Last n v
  at_label n v at way = back n v (subst (λ l. Way p t k Last n l v) (sym at) way)

  reference_in : (l : Label) (n : ℕ) (v : Const) → IsVariableLabel l → (k n ≡ true) × Referred p t k Last (t n) v → Way p t k Last n l v
  reference_in (is.Name kind place is_qualified) n v f h = h
  reference_in is.Select n v f h = h
  reference_in is.SuperSelect n v f h = h
  reference_in _ n v f h = absurd f

  module _ (typable : IsTypable p t) where
    complete : (n : ℕ) (v : Const) → ConstantOf p t (Picked k) n v → Last n v
    complete n v (ConstantOf.literal at h) = at_label n v at h
    complete n w (ConstantOf.reference {d = d} {level = level} picked e (ConstantVariable.variable {a = a} {v = v} x f h i j l u g)) =
        back n w (reference_in (label p n) n w (typable.variable n d level e x) (picked, (d, level, e, (((((x, f), i), j), l), (a, v, h, complete (d + 2) v u, g)))))
    complete n v (ConstantOf.paren at up h) = at_label n v at (up, complete (n + 1) v h)
    complete n w (ConstantOf.cast {a = a} {v = v} at up h i u g) = at_label n w at (up, (a, v, h, (i, complete (end p (n + 1)) v u), g))
    complete n w (ConstantOf.unary {v = v} at up u g) = at_label n w at (v, (up, complete (n + 1) v u), g)
    complete n w (ConstantOf.binary {u = u} {v = v} at up h i j g) = at_label n w at (u, v, (up, complete (n + 1) u h), (i, complete (end p (n + 1)) v j), g)
    complete n w (ConstantOf.conditional {test = b} {u = u} {v = v} at up h i j l m g) =
        at_label n w at (b, (up, complete (n + 1) (c.Bool b) h), (u, v, (i, complete (end p (n + 1)) u j), (l, complete (end p (end p (n + 1))) v m), g))

    pub constants_find : (n : ℕ) → Finds (constants p t k n) (λ v. ConstantOf p t (Picked k) n v)
    constants_find n v = (sound n v, complete n v)

-- ---- the form of constants

form_out : (p : Rows) (t : Table) (n : ℕ) (s : Sought) → sought_at p n ≡ s → has_form p t n s ≡ true → HasConstantForm p t n
form_out p t n (sought.Simple kind.Variable) at h = HasConstantForm.simple at
form_out p t n (sought.Qualified kind.Variable) at h = let q = (some_tells (λ b. NamesType p t n b) (named_type p t n) (named_finds p t n)).0 h in HasConstantForm.of_type at q.1
form_out p t n _ at h = absurd (false≢true h)

form_into : {p : Rows} {t : Table} {n : ℕ} → HasConstantForm p t n → has_constant_form p t n ≡ true
form_into {p} {t} (HasConstantForm.simple {n = n} at) = ap (has_form p t n) at
form_into {p} {t} (HasConstantForm.of_type {n = n} {b = b} at h) = ap (has_form p t n) at ∙ (some_tells (λ b. NamesType p t n b) (named_type p t n) (named_finds p t n)).1 (b, h)

pub constant_form_tells : (p : Rows) (t : Table) (n : ℕ) → Decides (has_constant_form p t n) (HasConstantForm p t n)
constant_form_tells p t n = (form_out p t n (sought_at p n) refl, form_into)

-- where more references are read as constants, all that was constant is so
module _ (p : Rows) (t : Table) (K L : ℕ → Type 0) (more : (n : ℕ) → K n → L n) where
  mutual
    pub constant_more : (n : ℕ) (v : Const) → ConstantOf p t K n v → ConstantOf p t L n v
    constant_more n v (ConstantOf.literal e k) = ConstantOf.literal e k
    constant_more n v (ConstantOf.reference {d = d} k e w) = ConstantOf.reference (more n k) e (variable_more d v w)
    constant_more n v (ConstantOf.paren e i w) = ConstantOf.paren e i (constant_more (n + 1) v w)
    constant_more n w (ConstantOf.cast {v = v} e b i j k c) = ConstantOf.cast e b i j (constant_more (end p (n + 1)) v k) c
    constant_more n w (ConstantOf.unary {v = v} e i k c) = ConstantOf.unary e i (constant_more (n + 1) v k) c
    constant_more n w (ConstantOf.binary {u = a} {v = v} e i j k l c) = ConstantOf.binary e i (constant_more (n + 1) a j) k (constant_more (end p (n + 1)) v l) c
    constant_more n w (ConstantOf.conditional {u = a} {v = v} e i j k l m o c) =
        ConstantOf.conditional e i (constant_more (n + 1) _ j) k (constant_more (end p (n + 1)) a l) m (constant_more (end p (end p (n + 1))) v o) c

    pub variable_more : (d : ℕ) (v : Const) → ConstantVariable p t K d v → ConstantVariable p t L d v
    variable_more d w (ConstantVariable.variable {v = v} x f h i j k l c) = ConstantVariable.variable x f h i j k (constant_more (d + 2) v l) c

module _ (p : Rows) (t : Table) (typable : IsTypable p t) where
  pub form_constants_find : (n : ℕ) → Finds (constants p t (has_constant_form p t) n) (λ v. ConstantOf p t (HasConstantForm p t) n v)
  form_constants_find n = like_finds (constants p t (has_constant_form p t) n) (constants_find p t (has_constant_form p t) typable n)
      (λ v h. constant_more p t (Picked (has_constant_form p t)) (HasConstantForm p t) (λ m k. (constant_form_tells p t m).0 k) n v h)
      (λ v h. constant_more p t (HasConstantForm p t) (Picked (has_constant_form p t)) (λ m k. (constant_form_tells p t m).1 k) n v h)
