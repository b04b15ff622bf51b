-- The types of expressions are those that are computed.
use Rattle.std.proofs.Common.{◌≡◌, ◌⊎◌, refl, sym, ◌∙◌, ap, subst, inl, inr, ⊎_elim, arith, ℕ, zero, suc, ◌+◌, ◌≤◌, ◌<◌, true, false, length, Option, Some, None, option_and_then, nat_eq, Decides}
use Rattle.std.proofs.lemmas.Bool.{false≢true}
use Rattle.std.proofs.lemmas.Bool.Decides.{Decides-eqb}
use Rattle.std.proofs.lemmas.Option.{none-some, same_Some}
use Rattle.jr_base.specs.declared.kind.Symbol.{Symbol}
use Rattle.jr_base.specs.declared.kind.Symbol.TheVariants as y
use Rattle.jr_tree.specs.declared.label.Label.{Label}
use Rattle.jr_tree.specs.declared.label.Label.TheVariants as is
use Rattle.jr_tree.specs.declared.label.Role.TheVariants as role
use Rattle.jr_tree.specs.Rows.{Rows, label, parent, end, role_at}
use Rattle.jr_defs.specs.declared.referent.Element.{Element}
use Rattle.jr_defs.specs.declared.referent.Element.TheVariants as element
use Rattle.jr_defs.specs.declared.referent.RowType.{RowType}
use Rattle.jr_defs.specs.declared.referent.Referent.{Referent}
use Rattle.jr_defs.specs.declared.referent.Referent.TheVariants.{ArrayLength, Declared}
use Rattle.jr_defs.specs.Referents.{Table}
use Rattle.jr_defs.specs.Declarations.{IsVariable}
use Rattle.jr_defs.specs.Enclosing.{Innermost}
use Rattle.jr_defs.specs.Instances.{HasInstance}
use Rattle.jr_defs.specs.Types.{array, plain, class_type, element_of, NamesType, TypeAt, HasType}
use Rattle.jr_defs.specs.Constants.{ConstantOf}
use Rattle.jr_defs.specs.Conversions.{IsNumeric, IsReferenceOrNull}
use Rattle.jr_defs.specs.Typing.{LiteralType, class_of, BinaryType, UnaryType, operator_of, CompoundType, ConditionalType, TypeOf}
use Rattle.jr_plain.specs.Search.{Finds}
use Rattle.jr_plain.specs.Same.{same_role}
use Rattle.jr_plain.specs.Declarations.{is_variable}
use Rattle.jr_plain.specs.Enclosing.{innermost}
use Rattle.jr_plain.specs.Instances.{has_instance}
use Rattle.jr_plain.specs.Overloads.{Types}
use Rattle.jr_plain.specs.Types.{named_type, type_at, type_of_declared}
use Rattle.jr_plain.specs.Conversions.{Constants, of_two, is_boolean, is_numeric, plain_of, is_plain, is_reference_or_null}
use Rattle.jr_plain.specs.Typing.{IsVariableLabel, IsTypable, binary_type, unary_type, is_compound, conditional_type, child, first, second, third, variable_type, result_type, this_type, item_at, item_type, tested_type, unary_of, stepped_type, chosen_type, is_assign, compound_type, assigned_type, typed_by, typed_within, expression_types}
use Rattle.jr_plain.proofs.Same.{role_tells}
use Rattle.jr_plain.proofs.Bounds.{label_past}
use Rattle.jr_plain.proofs.Declared.{variable_tells}
use Rattle.jr_plain.proofs.Enclosed.{innermost_finds}
use Rattle.jr_plain.proofs.Instanced.{instance_tells}
use Rattle.jr_plain.proofs.Typed.{named_finds, type_finds, has_type_finds}
use Rattle.jr_plain.proofs.Converted.{boolean_tells, numeric_tells, plain_finds, is_plain_tells, is_plain_one, reference_or_null_tells}
use Rattle.jr_plain.proofs.Finding.{some_finds, none_finds, guard_finds, map_finds, then_finds, two_finds}
use Rattle.jr_plain.proofs.Operated.{literal_finds, unary_finds, binary_finds, compound_tells}
use Rattle.jr_plain.proofs.Chosen.{conditional_finds}

-- ---- one operand

abbrev Item : RowType → RowType → Type 0
Item a r = (e : Element) × (dims : ℕ) × (a ≡ array e (suc dims)) × (array e dims ≡ r)

item_at_finds : (dims : ℕ) (e : Element) → Finds (item_at dims e) (λ r. Item (array e dims) r)
item_at_finds zero e r = (λ h. absurd (none-some r h), λ h. let q = ap (λ a. a.dims) h.2 in absurd (omega arith))
item_at_finds (suc dims) e r = (λ h. (e, dims, refl, same_Some (array e dims) r h), λ h. ap (λ a. item_at a.dims a.element) h.2 ∙ ap Some h.3)

tested_finds : (a : RowType) → Finds (tested_type a) (λ r. IsReferenceOrNull a × (plain element.Boolean ≡ r))
tested_finds a = guard_finds (is_reference_or_null a) (Some (plain element.Boolean)) (reference_or_null_tells a) (some_finds (plain element.Boolean))

abbrev UnaryOf : Symbol → RowType → RowType → Type 0
UnaryOf op a r = (z : Element) × ((x : Element) × (a ≡ plain x) × UnaryType op x z) × (plain z ≡ r)

unary_of_finds : (op : Symbol) (a : RowType) → Finds (unary_of op a) (λ r. UnaryOf op a r)
unary_of_finds op a = map_finds plain (option_and_then (unary_type op) (plain_of a)) (then_finds (unary_type op) (plain_of a) (plain_finds a) (unary_finds op))

abbrev Stepped : RowType → RowType → Type 0
Stepped a r = ((x : Element) × (a ≡ plain x) × IsNumeric x) × (a ≡ r)

stepped_finds : (a : RowType) → Finds (stepped_type a) (λ r. Stepped a r)
stepped_finds a = guard_finds (is_plain is_numeric a) (Some a) (is_plain_tells IsNumeric is_numeric numeric_tells a) (some_finds a)

-- a result, where the first operand is boolean
chosen_finds : {P R : RowType → Type 0} (test result : Option RowType) → Finds test P → Finds result R → Finds (chosen_type test result) (λ r. P (plain element.Boolean) × R r)
chosen_finds None result i j r = (λ e. absurd (none-some r e), λ h. absurd (none-some (plain element.Boolean) ((i (plain element.Boolean)).1 h.0)))
chosen_finds {P} {R} (Some a) result i j r =
    let g = guard_finds (is_plain is_boolean a) result (is_plain_one element.Boolean is_boolean boolean_tells a) j r in
    (λ e. let h = g.0 e in (subst P h.0 ((i a).0 refl), h.1), λ h. g.1 (same_Some a (plain element.Boolean) ((i (plain element.Boolean)).1 h.0), h.1))

assign_tells : (sign : Symbol) → Decides (is_assign sign) (sign ≡ y.Assign)
assign_tells y.Assign = (λ h. refl, λ e. refl)
assign_tells _ = (λ h. absurd (false≢true h), λ e. absurd (cc))

module _ (p : Rows) (t : Table) (typable : IsTypable p t) (K : ℕ → Type 0) (constant : Constants) (known : (n : ℕ) → Finds (constant n) (λ v. ConstantOf p t K n v)) where
  -- ---- what a row refers to

  abbrev VariableAt : Referent → RowType → Type 0
  VariableAt at a = ((d : ℕ) × (level : Option ℕ) × (at ≡ Declared d level) × IsVariable p d × HasType p t d a) ⊎ ((at ≡ ArrayLength) × (plain element.Int ≡ a))

  declared_row : {d e : ℕ} {l m : Option ℕ} → Declared d l ≡ Declared e m → d ≡ e
  declared_row e = cc

  variable_finds : (at : Referent) → Finds (variable_type p t at) (λ a. VariableAt at a)
  variable_finds (Declared d level) a = let g = guard_finds (is_variable p d) (type_of_declared p t d) (variable_tells p d) (has_type_finds p t d) a in (
    λ e. let h = g.0 e in inl (d, level, refl, h.0, h.1),
    ⊎_elim
        (λ h. let q = declared_row h.2 in g.1 (subst (λ x. IsVariable p x) (sym q) h.3, subst (λ x. HasType p t x a) (sym q) h.4)) (λ h. let e = h.0 in absurd (cc)),
  )
  variable_finds ArrayLength a = (λ e. inr (refl, same_Some (plain element.Int) a e), ⊎_elim (λ h. let e = h.2 in absurd (cc)) (λ h. ap Some h.1))
  variable_finds _ a = (λ e. absurd (none-some a e), ⊎_elim (λ h. let e = h.2 in absurd (cc)) (λ h. let e = h.0 in absurd (cc)))

  abbrev ResultAt : Referent → RowType → Type 0
  ResultAt at a = (d : ℕ) × (level : Option ℕ) × (at ≡ Declared d level) × (role_at p d ≡ role.Method) × HasType p t d a

  result_finds : (at : Referent) → Finds (result_type p t at) (λ a. ResultAt at a)
  result_finds (Declared d level) a = let g = guard_finds (same_role (role_at p d) role.Method) (type_of_declared p t d) (role_tells (role_at p d) role.Method) (has_type_finds p t d) a in (
    λ e. let h = g.0 e in (d, level, refl, h.0, h.1),
    λ h. let q = declared_row h.2 in g.1 (subst (λ x. role_at p x ≡ role.Method) (sym q) h.3, subst (λ x. HasType p t x a) (sym q) h.4),
  )
  result_finds _ a = (λ e. absurd (none-some a e), λ h. let e = h.2 in absurd (cc))

  this_finds : (n d : ℕ) → Finds (this_type p n d) (λ a. HasInstance p n d × (class_type d ≡ a))
  this_finds n d = guard_finds (has_instance p n d) (Some (class_type d)) (instance_tells p n d) (some_finds (class_type d))

  -- ---- one row

  module _ (type_of : Types) (n : ℕ) (parts : (m : ℕ) → n < m → Finds (type_of m) (λ a. TypeOf p t K m a)) where
    abbrev Kid : ℕ → RowType → Type 0
    Kid m a = (parent p m ≡ n) × TypeOf p t K m a

    kid_finds : (m : ℕ) → n < m → Finds (child p type_of n m) (λ a. Kid m a)
    kid_finds m lt = guard_finds (nat_eq (parent p m) n) (type_of m) (Decides-eqb (parent p m) n) (parts m lt)

    first_finds : Finds (first p type_of n) (λ a. Kid (n + 1) a)
    first_finds = kid_finds (n + 1) (omega arith)

    second_finds : Finds (second p type_of n) (λ a. Kid (end p (n + 1)) a)
    second_finds = kid_finds (end p (n + 1)) (let a = typable.headed.tree.nested (n + 1) in omega arith)

    third_finds : Finds (third p type_of n) (λ a. Kid (end p (end p (n + 1))) a)
    third_finds = kid_finds (end p (end p (n + 1))) (let a = typable.headed.tree.nested (n + 1) in let b = typable.headed.tree.nested (end p (n + 1)) in omega arith)

    abbrev Assigned : Symbol → Option Symbol → RowType → Type 0
    Assigned sign (Some op) r = (a : RowType) × (b : RowType) × Kid (n + 1) a × Kid (end p (n + 1)) b × (CompoundType p t op a b × (a ≡ r))
    Assigned sign None r = (sign ≡ y.Assign) × Kid (n + 1) r

    compound_finds : (op : Symbol) (a b : RowType) → Finds (compound_type p t op a b) (λ r. CompoundType p t op a b × (a ≡ r))
    compound_finds op a b = guard_finds (is_compound p t op a b) (Some a) (compound_tells p t typable op a b) (some_finds a)

    assigned_finds : (sign : Symbol) (op : Option Symbol) → Finds (assigned_type p t type_of n sign op) (λ r. Assigned sign op r)
    assigned_finds sign (Some op) = two_finds (λ a b r. CompoundType p t op a b × (a ≡ r)) (compound_type p t op) (compound_finds op) (first p type_of n) (second p type_of n) first_finds second_finds
    assigned_finds sign None = guard_finds (is_assign sign) (first p type_of n) (assign_tells sign) first_finds

    -- how a row of each label has its type
    abbrev Way : Label → RowType → Type 0
    Way (is.Literal token) r = LiteralType p token r
    Way (is.Name kind place is_qualified) r = VariableAt (t n) r
    Way is.Select r = VariableAt (t n) r
    Way is.SuperSelect r = VariableAt (t n) r
    Way (is.Call receiver) r = ResultAt (t n) r
    Way is.New r = (d : ℕ) × NamesType p t n d × (class_type d ≡ r)
    Way (is.NewArray (Some e) lengths extra) r = array (element_of e) (lengths + extra) ≡ r
    Way (is.NewArray None lengths extra) r = (d : ℕ) × NamesType p t n d × (array (element.Class d) (lengths + extra) ≡ r)
    Way is.Cast r = (parent p (n + 1) ≡ n) × TypeAt p t (n + 1) r
    Way is.Paren r = Kid (n + 1) r
    Way (is.This false) r = (d : ℕ) × Innermost p n d × (HasInstance p n d × (class_type d ≡ r))
    Way (is.This true) r = (d : ℕ) × NamesType p t n d × (HasInstance p n d × (class_type d ≡ r))
    Way is.Index r = (a : RowType) × Kid (n + 1) a × Item a r
    Way is.IsA r = (a : RowType) × Kid (n + 1) a × (IsReferenceOrNull a × (plain element.Boolean ≡ r))
    Way (is.Unary op) r = (a : RowType) × Kid (n + 1) a × UnaryOf op a r
    Way (is.PreStep op) r = (a : RowType) × Kid (n + 1) a × Stepped a r
    Way (is.PostStep op) r = (a : RowType) × Kid (n + 1) a × Stepped a r
    Way (is.Binary op) r = (a : RowType) × (b : RowType) × Kid (n + 1) a × Kid (end p (n + 1)) b × BinaryType p t (class_of op) a b r
    Way is.Conditional r = Kid (n + 1) (plain element.Boolean) × ((a : RowType) × (b : RowType) × Kid (end p (n + 1)) a × Kid (end p (end p (n + 1))) b
        × ConditionalType p t K (end p (n + 1)) (end p (end p (n + 1))) a b r)
    Way (is.Assign sign) r = Assigned sign (operator_of sign) r
    Way _ r = ⊥

    way_finds : (l : Label) → Finds (typed_by p t constant type_of n l) (λ r. Way l r)
    way_finds (is.Literal token) = literal_finds p typable.one_string token
    way_finds (is.Name kind place is_qualified) = variable_finds (t n)
    way_finds is.Select = variable_finds (t n)
    way_finds is.SuperSelect = variable_finds (t n)
    way_finds (is.Call receiver) = result_finds (t n)
    way_finds is.New = map_finds class_type (named_type p t n) (named_finds p t n)
    way_finds (is.NewArray (Some e) lengths extra) = some_finds (array (element_of e) (lengths + extra))
    way_finds (is.NewArray None lengths extra) = map_finds (λ d. array (element.Class d) (lengths + extra)) (named_type p t n) (named_finds p t n)
    way_finds is.Cast = guard_finds (nat_eq (parent p (n + 1)) n) (type_at p t (n + 1)) (Decides-eqb (parent p (n + 1)) n) (type_finds p t (n + 1))
    way_finds is.Paren = first_finds
    way_finds (is.This false) = then_finds (this_type p n) (innermost p n) (innermost_finds p n) (this_finds n)
    way_finds (is.This true) = then_finds (this_type p n) (named_type p t n) (named_finds p t n) (this_finds n)
    way_finds is.Index = then_finds item_type (first p type_of n) first_finds (λ a. item_at_finds a.dims a.element)
    way_finds is.IsA = then_finds tested_type (first p type_of n) first_finds tested_finds
    way_finds (is.Unary op) = then_finds (unary_of op) (first p type_of n) first_finds (unary_of_finds op)
    way_finds (is.PreStep op) = then_finds stepped_type (first p type_of n) first_finds stepped_finds
    way_finds (is.PostStep op) = then_finds stepped_type (first p type_of n) first_finds stepped_finds
    way_finds (is.Binary op) = two_finds (λ a b r. BinaryType p t (class_of op) a b r) (binary_type p t (class_of op)) (binary_finds p t typable (class_of op)) (first p type_of n) (second p type_of n) first_finds second_finds
    way_finds is.Conditional = chosen_finds (first p type_of n) (of_two (conditional_type p t constant (end p (n + 1)) (end p (end p (n + 1)))) (second p type_of n) (third p type_of n)) first_finds
        (two_finds (λ a b r. ConditionalType p t K (end p (n + 1)) (end p (end p (n + 1))) a b r) (conditional_type p t constant (end p (n + 1)) (end p (end p (n + 1))))
        (conditional_finds p t typable K constant known (end p (n + 1)) (end p (end p (n + 1)))) (second p type_of n) (third p type_of n) second_finds third_finds)
    way_finds (is.Assign sign) = assigned_finds sign (operator_of sign)
    way_finds _ = none_finds

    -- ---- a way gives the type

    variable_out : (a : RowType) → VariableAt (t n) a → TypeOf p t K n a
    variable_out a (inl h) = TypeOf.variable h.2 h.3 h.4
    variable_out a (inr h) = subst (λ x. TypeOf p t K n x) h.1 (TypeOf.length h.0)

    assigned_out : (sign : Symbol) (r : RowType) → label p n ≡ is.Assign sign → (op : Option Symbol) → operator_of sign ≡ op → Assigned sign op r → TypeOf p t K n r
    assigned_out sign r at (Some op) e h = subst (λ x. TypeOf p t K n x) h.4.1
        (TypeOf.compound at e (record { at = refl; inside = h.2.0 }) h.2.1 (record { at = refl; inside = h.3.0 }) h.3.1 h.4.0)
    assigned_out sign r at None e h = TypeOf.assigned (at ∙ ap is.Assign h.0) (record { at = refl; inside = h.1.0 }) h.1.1

    way_out : (l : Label) (r : RowType) → label p n ≡ l → Way l r → TypeOf p t K n r
    way_out (is.Literal token) r at h = TypeOf.literal at h
    way_out (is.Name kind place is_qualified) r at h = variable_out r h
    way_out is.Select r at h = variable_out r h
    way_out is.SuperSelect r at h = variable_out r h
    way_out (is.Call receiver) r at h = TypeOf.call at h.2 h.3 h.4
    way_out is.New r at h = subst (λ x. TypeOf p t K n x) h.2 (TypeOf.created at h.1)
    way_out (is.NewArray (Some e) lengths extra) r at h = subst (λ x. TypeOf p t K n x) h (TypeOf.primitives at)
    way_out (is.NewArray None lengths extra) r at h = subst (λ x. TypeOf p t K n x) h.2 (TypeOf.objects at h.1)
    way_out is.Cast r at h = TypeOf.cast at h.0 h.1
    way_out is.Paren r at h = TypeOf.paren at (record { at = refl; inside = h.0 }) h.1
    way_out (is.This false) r at h = subst (λ x. TypeOf p t K n x) h.2.1 (TypeOf.this at h.1 h.2.0)
    way_out (is.This true) r at h = subst (λ x. TypeOf p t K n x) h.2.1 (TypeOf.this_of at h.1 h.2.0)
    way_out is.Index r at h = subst (λ x. TypeOf p t K n x) h.2.3 (TypeOf.index at (record { at = refl; inside = h.1.0 }) (subst (λ x. TypeOf p t K (n + 1) x) h.2.2 h.1.1))
    way_out is.IsA r at h = subst (λ x. TypeOf p t K n x) h.2.1 (TypeOf.is_a at (record { at = refl; inside = h.1.0 }) h.1.1 h.2.0)
    way_out (is.Unary op) r at h = subst (λ x. TypeOf p t K n x) h.2.2
        (TypeOf.unary at (record { at = refl; inside = h.1.0 }) (subst (λ x. TypeOf p t K (n + 1) x) h.2.1.1 h.1.1) h.2.1.2)
    way_out (is.PreStep op) r at h = subst (λ x. TypeOf p t K n x) (sym h.2.0.1 ∙ h.2.1)
        (TypeOf.pre_step at (record { at = refl; inside = h.1.0 }) (subst (λ x. TypeOf p t K (n + 1) x) h.2.0.1 h.1.1) h.2.0.2)
    way_out (is.PostStep op) r at h = subst (λ x. TypeOf p t K n x) (sym h.2.0.1 ∙ h.2.1)
        (TypeOf.post_step at (record { at = refl; inside = h.1.0 }) (subst (λ x. TypeOf p t K (n + 1) x) h.2.0.1 h.1.1) h.2.0.2)
    way_out (is.Binary op) r at h = TypeOf.binary at (record { at = refl; inside = h.2.0 }) h.2.1 (record { at = refl; inside = h.3.0 }) h.3.1 h.4
    way_out is.Conditional r at h = TypeOf.conditional at (record { at = refl; inside = h.0.0 }) h.0.1 (record { at = refl; inside = h.1.2.0 }) h.1.2.1 (record { at = refl; inside = h.1.3.0 }) h.1.3.1 h.1.4
    way_out (is.Assign sign) r at h = assigned_out sign r at (operator_of sign) refl h
    way_out _ r at h = absurd h

    -- ---- a type comes in the way of its label

    variable_in : (l : Label) (a : RowType) → IsVariableLabel l → VariableAt (t n) a → Way l a
    variable_in (is.Name kind place is_qualified) a v h = h
    variable_in is.Select a v h = h
    variable_in is.SuperSelect a v h = h
    variable_in _ a v h = absurd v

    of_label : {l : Label} (a : RowType) → label p n ≡ l → Way l a → Way (label p n) a
    of_label a at h = subst (λ l. Way l a) (sym at) h

    moved_kid : {m k : ℕ} {a : RowType} → m ≡ k → parent p m ≡ n → TypeOf p t K m a → Kid k a
    moved_kid {a = a} e up h = (subst (λ x. parent p x ≡ n) e up, subst (λ x. TypeOf p t K x a) e h)

    assigned_in : (sign : Symbol) {op : Option Symbol} (r : RowType) → operator_of sign ≡ op → Assigned sign op r → Assigned sign (operator_of sign) r
    assigned_in sign r e h = subst (λ x. Assigned sign x r) (sym e) h

    conditional_in : {m k : ℕ} {a b r : RowType} → m ≡ end p (n + 1) → k ≡ end p (end p (n + 1)) → ConditionalType p t K m k a b r → ConditionalType p t K (end p (n + 1)) (end p (end p (n + 1))) a b r
    conditional_in {k = k} {a = a} {b = b} {r = r} e f h = subst (λ x. ConditionalType p t K (end p (n + 1)) x a b r) f (subst (λ x. ConditionalType p t K x k a b r) e h)

    way_in : {a : RowType} → TypeOf p t K n a → Way (label p n) a
    way_in (TypeOf.literal {a = a} at h) = of_label a at h
    way_in {a} (TypeOf.variable {d = d} {level = level} e v h) = variable_in (label p n) a (typable.variable n d level e v) (inl (d, level, e, v, h))
    way_in (TypeOf.length e) = variable_in (label p n) (plain element.Int) (typable.length_of n e) (inr (e, refl))
    way_in (TypeOf.call {d = d} {level = level} {a = a} at e v h) = of_label a at (d, level, e, v, h)
    way_in (TypeOf.created {c = d} at h) = of_label (class_type d) at (d, h, refl)
    way_in (TypeOf.primitives {lengths = lengths} {extra = extra} {e = e} at) = of_label (array (element_of e) (lengths + extra)) at refl
    way_in (TypeOf.objects {c = d} {lengths = lengths} {extra = extra} at h) = of_label (array (element.Class d) (lengths + extra)) at (d, h, refl)
    way_in (TypeOf.cast {a = a} at up h) = of_label a at (up, h)
    way_in (TypeOf.paren {a = a} at f h) = of_label a at (moved_kid f.at f.inside h)
    way_in (TypeOf.this {c = d} at i h) = of_label (class_type d) at (d, i, (h, refl))
    way_in (TypeOf.this_of {c = d} at i h) = of_label (class_type d) at (d, i, (h, refl))
    way_in (TypeOf.index {dims = dims} {e = e} at f h) = of_label (array e dims) at (array e (suc dims), moved_kid f.at f.inside h, (e, dims, refl, refl))
    way_in (TypeOf.is_a {a = a} at f h i) = of_label (plain element.Boolean) at (a, moved_kid f.at f.inside h, (i, refl))
    way_in (TypeOf.unary {a = a} {r = r} at f h u) = of_label (plain r) at (plain a, moved_kid f.at f.inside h, (r, (a, refl, u), refl))
    way_in (TypeOf.pre_step {a = a} at f h i) = of_label (plain a) at (plain a, moved_kid f.at f.inside h, ((a, refl, i), refl))
    way_in (TypeOf.post_step {a = a} at f h i) = of_label (plain a) at (plain a, moved_kid f.at f.inside h, ((a, refl, i), refl))
    way_in (TypeOf.binary {a = a} {b = b} {r = r} at f h s k w) = of_label r at (a, b, moved_kid f.at f.inside h, moved_kid s.at s.inside k, w)
    way_in (TypeOf.conditional {a = a} {b = b} {r = r} at f h s k u l w) =
        of_label r at (moved_kid f.at f.inside h, (a, b, moved_kid s.at s.inside k, moved_kid u.at u.inside l, conditional_in s.at u.at w))
    way_in (TypeOf.assigned {a = a} at f h) = of_label a at (refl, moved_kid f.at f.inside h)
    way_in (TypeOf.compound {sign = sign} {a = a} {b = b} at e f h s k w) = of_label a at (assigned_in sign a e (a, b, moved_kid f.at f.inside h, moved_kid s.at s.inside k, (w, refl)))

    row_finds : Finds (typed_by p t constant type_of n (label p n)) (λ a. TypeOf p t K n a)
    row_finds a = (λ e. way_out (label p n) a refl ((way_finds (label p n) a).0 e), λ h. (way_finds (label p n) a).1 (way_in h))

  -- ---- all rows

  -- what has a type is a row
  variable_skip : (l : Label) → IsVariableLabel l → l ≡ is.Skip → ⊥
  variable_skip (is.Name kind place is_qualified) v e = cc
  variable_skip is.Select v e = cc
  variable_skip is.SuperSelect v e = cc
  variable_skip _ v e = v

  labelled : {n : ℕ} {a : RowType} → TypeOf p t K n a → label p n ≡ is.Skip → ⊥
  labelled (TypeOf.literal at h) e = cc
  labelled (TypeOf.variable {n = n} {d = d} {level = level} w v h) e = variable_skip (label p n) (typable.variable n d level w v) e
  labelled (TypeOf.length {n = n} w) e = variable_skip (label p n) (typable.length_of n w) e
  labelled (TypeOf.call at w v h) e = cc
  labelled (TypeOf.created at h) e = cc
  labelled (TypeOf.primitives at) e = cc
  labelled (TypeOf.objects at h) e = cc
  labelled (TypeOf.cast at up h) e = cc
  labelled (TypeOf.paren at f h) e = cc
  labelled (TypeOf.this at i h) e = cc
  labelled (TypeOf.this_of at i h) e = cc
  labelled (TypeOf.index at f h) e = cc
  labelled (TypeOf.is_a at f h i) e = cc
  labelled (TypeOf.unary at f h u) e = cc
  labelled (TypeOf.pre_step at f h i) e = cc
  labelled (TypeOf.post_step at f h i) e = cc
  labelled (TypeOf.binary at f h s k w) e = cc
  labelled (TypeOf.conditional at f h s k u l w) e = cc
  labelled (TypeOf.assigned at f h) e = cc
  labelled (TypeOf.compound at w f h s k u) e = cc

  types_within : (rounds n : ℕ) → length p ≤ n + rounds → Finds (typed_within p t constant rounds n) (λ a. TypeOf p t K n a)
  types_within zero n le a = (λ e. absurd (none-some a e), λ h. absurd (labelled h (label_past p n (omega arith))))
  types_within (suc rounds) n le a = row_finds (typed_within p t constant rounds) n (λ m lt. types_within rounds m (omega arith)) a

  pub expression_finds : (n : ℕ) → Finds (expression_types p t constant n) (λ a. TypeOf p t K n a)
  expression_finds n = types_within (length p) n (omega arith)
