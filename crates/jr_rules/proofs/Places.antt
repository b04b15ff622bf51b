-- The tests of values and their places, of void calls and of arrays tell what they are to tell.
use Rattle.std.proofs.Common.{◌≡◌, ◌⊎◌, refl, sym, ◌∙◌, ap, subst, inl, inr, ⊎_elim, arith, ℕ, zero, suc, ◌+◌, ◌<◌, ◌≤◌, Bool, true, false, not, cond, ◌&&◌, length, nat_eq, Option, Some, None, Decides}
use Rattle.std.proofs.lemmas.Bool.{false≢true, cases_lt, cases_eq}
use Rattle.std.proofs.lemmas.Bool.Decides.{Decides-eqb}
use Rattle.std.proofs.lemmas.Option.{none-some, same_Some}
use Rattle.jr_base.specs.declared.kind.Symbol.TheVariants as y
use Rattle.jr_tree.specs.declared.label.Label.{Label}
use Rattle.jr_tree.specs.declared.label.Label.TheVariants as is
use Rattle.jr_tree.specs.declared.label.ReceiverKind.{ReceiverKind}
use Rattle.jr_tree.specs.Labels.{role_of}
use Rattle.jr_tree.specs.Rows.{Rows, label, parent, end}
use Rattle.jr_defs.specs.declared.referent.Element.{Element}
use Rattle.jr_defs.specs.declared.referent.Element.TheVariants as element
use Rattle.jr_defs.specs.declared.referent.RowType.{RowType}
use Rattle.jr_defs.specs.declared.referent.Space.TheVariants as space
use Rattle.jr_defs.specs.Referents.{Table}
use Rattle.jr_defs.specs.Declarations.{IsOf, IsVariable}
use Rattle.jr_defs.specs.Types.{array, plain, HasType}
use Rattle.jr_defs.specs.Constants.{HasConstantForm, ConstantOf}
use Rattle.jr_defs.specs.Conversions.{IsAssignable}
use Rattle.jr_plain.specs.Search.{Finds}
use Rattle.jr_plain.specs.Declarations.{is_variable}
use Rattle.jr_plain.specs.Types.{type_of_declared}
use Rattle.jr_plain.specs.Constants.{is_value}
use Rattle.jr_plain.specs.Conversions.{Constants, is_void, is_plain, is_assignable}
use Rattle.jr_plain.specs.Overloads.{Types}
use Rattle.jr_plain.specs.Typing.{IsTypable, first, item_at, item_type}
use Rattle.jr_plain.proofs.Tests.{always, never, both, either, opposite, like}
use Rattle.jr_plain.proofs.Bounds.{parent_past, label_past}
use Rattle.jr_plain.proofs.Declared.{variable_tells}
use Rattle.jr_plain.proofs.Modified.{found_tells}
use Rattle.jr_plain.proofs.Typed.{has_type_finds}
use Rattle.jr_plain.proofs.Converted.{then_yes, then_no, void_tells, is_plain_one, assignable_tells}
use Rattle.jr_plain.proofs.Finding.{guard_finds, then_finds}
use Rattle.jr_rules.specs.Typed.{Typed, IsIntLike}
use Rattle.jr_rules.specs.Statements.{IsCondition}
use Rattle.jr_rules.specs.Places.{IsNewArray, Initializes, PlaceOf, ValueDoesNotFit, DropsValues, IsFor, StandsAlone, VoidIsUsed, ArrayDoesNotFit}
use Rattle.jr_rules.specs.TypedTests.{is_int_like, found}
use Rattle.jr_rules.specs.InitializingTests.{is_plain_assignment}
use Rattle.jr_rules.specs.PlaceTests as tested
use Rattle.jr_rules.proofs.Kids.{both_found_tells, int_like_tells, first_finds}
use Rattle.jr_rules.proofs.Initializing.{plain_assignment_tells}
use Rattle.jr_rules.proofs.Operands.{index_label_tells}
use Rattle.jr_rules.proofs.Statements.{condition_tells}

-- ---- labels

new_array_tells : (l : Label) → Decides (tested.is_new_array l) (IsNewArray l)
new_array_tells (is.NewArray base lengths more) = always
new_array_tells _ = never

list_tells : (l : Label) → Decides (tested.is_list l) (l ≡ is.List)
list_tells is.List = (λ h. refl, λ e. refl)
list_tells _ = (λ h. absurd (false≢true h), λ e. absurd (cc))

value_label_tells : (l : Label) → Decides (is_value l) (l ≡ is.Value)
value_label_tells is.Value = (λ h. refl, λ e. refl)
value_label_tells _ = (λ h. absurd (false≢true h), λ e. absurd (cc))

drops_values_tells : (l : Label) → Decides (tested.drops_values l) (DropsValues l)
drops_values_tells is.Eval = always
drops_values_tells is.ForExprs = always
drops_values_tells _ = never

for_tells : (l : Label) → Decides (tested.is_for l) (IsFor l)
for_tells (is.For has_first has_condition) = always
for_tells _ = never

call_tells : (l : Label) → Decides (tested.is_call l) ((receiver : ReceiverKind) × (l ≡ is.Call receiver))
call_tells (is.Call receiver) = (λ h. (receiver, refl), λ h. refl)
call_tells _ = (λ h. absurd (false≢true h), λ h. let e = h.1 in absurd (cc))

-- ---- the type of items

abbrev Item : RowType → RowType → Type 0
Item a r = (e : Element) × (dims : ℕ) × (a ≡ array e (suc dims)) × (array e dims ≡ r)

item_at_finds : (dims : ℕ) (e : Element) → Finds (item_at dims e) (λ r. Item (array e dims) r)
item_at_finds zero e r = (λ h. absurd (none-some r h), λ h. let q = ap (λ a. a.dims) h.2 in absurd (omega arith))
item_at_finds (suc dims) e r = (λ h. (e, dims, refl, same_Some (array e dims) r h), λ h. ap (λ a. item_at a.dims a.element) h.2 ∙ ap Some h.3)

stands_alone_tells : (p : Rows) (n : ℕ) → Decides (tested.stands_alone p n) (StandsAlone p n)
stands_alone_tells p n = like (either (drops_values_tells (label p (parent p n))) (both (for_tells (label p (parent p n))) (opposite (condition_tells p n))))
    (⊎_elim (λ h. StandsAlone.as_statement h) (λ h. StandsAlone.as_update h.0 h.1)) into
  where
    into : StandsAlone p n → DropsValues (label p (parent p n)) ⊎ (IsFor (label p (parent p n)) × (IsCondition p n → ⊥))
    into (StandsAlone.as_statement h) = inl h
    into (StandsAlone.as_update h k) = inr (h, k)

module _ (p : Rows) (t : Table) (typable : IsTypable p t) (type_of : Types) (typed : (n : ℕ) → Finds (type_of n) (λ a. Typed p t n a)) where
  -- ---- initializers

  -- how a row of each label holds an initializer of the type
  abbrev HeldBy : ℕ → Option RowType → Label → RowType → Type 0
  HeldBy m of_list is.List r = (a : RowType) × (of_list ≡ Some a) × Item a r
  HeldBy m of_list (is.NewArray base lengths more) r = Typed p t m r
  HeldBy m of_list _ r = IsVariable p m × HasType p t m r

  held_finds : (m : ℕ) (of_list : Option RowType) (l : Label) → Finds (tested.held_by p t type_of m of_list l) (λ r. HeldBy m of_list l r)
  held_finds m of_list is.List = then_finds item_type of_list (λ a. (λ h. h, λ h. h)) (λ a. item_at_finds a.dims a.element)
  held_finds m of_list (is.NewArray base lengths more) = typed m
  held_finds m of_list _ = guard_finds (is_variable p m) (type_of_declared p t m) (variable_tells p m) (has_type_finds p t m)

  held_out : (n : ℕ) (of_list : Option RowType) (l : Label) (r : RowType) → ((a : RowType) → of_list ≡ Some a → Initializes p t (parent p n) a) → label p (parent p n) ≡ l
      → HeldBy (parent p n) of_list l r → Initializes p t n r
  held_out n of_list is.List r outer at h = subst (λ x. Initializes p t n x) h.2.3 (Initializes.of_item at (subst (λ x. Initializes p t (parent p n) x) h.2.2 (outer h.0 h.1)))
  held_out n of_list (is.NewArray base lengths more) r outer at h = Initializes.of_creation (subst IsNewArray (sym at) tt) h
  held_out n of_list _ r outer at h = Initializes.of_variable h.0 h.1

  variable_in : (m : ℕ) (of_list : Option RowType) (l : Label) (r : RowType) → IsOf space.Variable (role_of l) → IsVariable p m × HasType p t m r → HeldBy m of_list l r
  variable_in m of_list is.List r v h = absurd v
  variable_in m of_list (is.NewArray base lengths more) r v h = absurd v
  variable_in m of_list _ r v h = h

  array_in : (m : ℕ) (of_list : Option RowType) (l : Label) (r : RowType) → IsNewArray l → Typed p t m r → HeldBy m of_list l r
  array_in m of_list (is.NewArray base lengths more) r v h = h
  array_in m of_list _ r v h = absurd v

  -- row 0 is its own parent, so as a list it holds no initializer
  no_root : {n : ℕ} {a : RowType} → Initializes p t n a → parent p n ≡ 0 → label p 0 ≡ is.List → ⊥
  no_root (Initializes.of_variable v h) e at = subst (λ l. IsOf space.Variable (role_of l)) at (subst (λ m. IsVariable p m) e v)
  no_root (Initializes.of_creation v h) e at = subst IsNewArray at (subst (λ m. IsNewArray (label p m)) e v)
  no_root (Initializes.of_item up h) e at = no_root h (ap (parent p) e ∙ typable.headed.tree.root) at

  initializer_out : (rounds n : ℕ) (r : RowType) → tested.initializer_within p t type_of rounds n ≡ Some r → Initializes p t n r
  initializer_out zero n r h = absurd (none-some r h)
  initializer_out (suc rounds) n r h = held_out n (tested.initializer_within p t type_of rounds (parent p n)) (label p (parent p n)) r (λ a e. initializer_out rounds (parent p n) a e) refl
      ((held_finds (parent p n) (tested.initializer_within p t type_of rounds (parent p n)) (label p (parent p n)) r).0 h)

  -- the list round an initializer stands before it
  list_before : (n : ℕ) {a : RowType} → label p (parent p n) ≡ is.List → Initializes p t (parent p n) a → parent p n < n
  list_before n at h = ⊎_elim (λ lt. ⊎_elim (λ e. absurd (root e)) (λ apart. typable.headed.tree.up n lt (omega arith)) (cases_eq n 0)) (λ le. absurd (past le)) (cases_lt n (length p))
    where
      root : n ≡ 0 → ⊥
      root e = let up = ap (parent p) e ∙ typable.headed.tree.root in no_root h (ap (parent p) up ∙ typable.headed.tree.root) (subst (λ m. label p m ≡ is.List) up at)

      past : length p ≤ n → ⊥
      past le = let here = label_past p n le in let e = subst (λ m. label p m ≡ is.List) (parent_past p n le) at in let g = sym here ∙ e in cc

  held_in : (rounds : ℕ) {n : ℕ} {r : RowType} → ((a : RowType) → label p (parent p n) ≡ is.List → Initializes p t (parent p n) a → tested.initializer_within p t type_of rounds (parent p n) ≡ Some a)
      → Initializes p t n r → HeldBy (parent p n) (tested.initializer_within p t type_of rounds (parent p n)) (label p (parent p n)) r
  held_in rounds outer (Initializes.of_variable {n = n} {a = a} v h) = variable_in (parent p n) (tested.initializer_within p t type_of rounds (parent p n)) (label p (parent p n)) a v (v, h)
  held_in rounds outer (Initializes.of_creation {n = n} {a = a} v h) = array_in (parent p n) (tested.initializer_within p t type_of rounds (parent p n)) (label p (parent p n)) a v h
  held_in rounds outer (Initializes.of_item {n = n} {dims = dims} {e = e} at h) =
      subst (λ l. HeldBy (parent p n) (tested.initializer_within p t type_of rounds (parent p n)) l (array e dims)) (sym at)
      (array e (suc dims), outer (array e (suc dims)) at h, (e, dims, refl, refl))

  initializer_in : (rounds n : ℕ) (r : RowType) → n < rounds → Initializes p t n r → tested.initializer_within p t type_of rounds n ≡ Some r
  initializer_in zero n r lt h = absurd (omega arith)
  initializer_in (suc rounds) n r lt h = (held_finds (parent p n) (tested.initializer_within p t type_of rounds (parent p n)) (label p (parent p n)) r).1
      (held_in rounds (λ a at k. let before = list_before n at k in initializer_in rounds (parent p n) a (omega arith) k) h)

  -- an initializer is a row
  initializer_row : {n : ℕ} {r : RowType} → Initializes p t n r → length p ≤ n → ⊥
  initializer_row (Initializes.of_variable {n = n} v h) le = subst (λ l. IsOf space.Variable (role_of l)) (label_past p n le) (subst (λ m. IsVariable p m) (parent_past p n le) v)
  initializer_row (Initializes.of_creation {n = n} v h) le = subst IsNewArray (label_past p n le) (subst (λ m. IsNewArray (label p m)) (parent_past p n le) v)
  initializer_row (Initializes.of_item {n = n} at h) le = let here = label_past p n le in let e = subst (λ m. label p m ≡ is.List) (parent_past p n le) at in skip_list here e
    where
      skip_list : {l : Label} → l ≡ is.Skip → l ≡ is.List → ⊥
      skip_list e f = let g = sym e ∙ f in cc

  pub initializer_finds : (n : ℕ) → Finds (tested.initializer_type p t type_of n) (λ a. Initializes p t n a)
  initializer_finds n a = (initializer_out (length p) n a, λ h. initializer_in (length p) n a (⊎_elim (λ lt. lt) (λ le. absurd (initializer_row h le)) (cases_lt n (length p))) h)

  -- ---- values in their places

  abbrev IsRight : ℕ → Type 0
  IsRight n = (label p (parent p n) ≡ is.Assign y.Assign) × (n ≡ end p (parent p n + 1))

  right_tells : (n : ℕ) → Decides (is_plain_assignment (label p (parent p n)) && nat_eq n (end p (parent p n + 1))) (IsRight n)
  right_tells n = both (plain_assignment_tells (label p (parent p n))) (Decides-eqb n (end p (parent p n + 1)))

  place_out : (n : ℕ) (a : RowType) (b : Bool) → Decides b (IsRight n) → (d : Bool) → Decides d (label p (parent p n) ≡ is.Value)
      → cond b (first p type_of (parent p n)) (cond d (tested.initializer_type p t type_of (parent p n)) None) ≡ Some a → PlaceOf p t n a
  place_out n a true r d v e = let h = r.0 refl in PlaceOf.assigned_to h.0 h.1 ((first_finds p t type_of typed (parent p n) a).0 e)
  place_out n a false r true v e = PlaceOf.initial (v.0 refl) ((initializer_finds (parent p n) a).0 e)
  place_out n a false r false v e = absurd (none-some a e)

  no_value : {l : Label} → l ≡ is.Value → l ≡ is.Assign y.Assign → ⊥
  no_value e f = let g = sym e ∙ f in cc

  place_in : (n : ℕ) (a : RowType) → PlaceOf p t n a → tested.place_type p t type_of n ≡ Some a
  place_in n a (PlaceOf.assigned_to at e h) =
      then_yes (is_plain_assignment (label p (parent p n)) && nat_eq n (end p (parent p n + 1))) (first p type_of (parent p n)) _ (right_tells n) (at, e) ∙ (first_finds p t type_of typed (parent p n) a).1 h
  place_in n a (PlaceOf.initial at h) =
      then_no (is_plain_assignment (label p (parent p n)) && nat_eq n (end p (parent p n + 1))) (first p type_of (parent p n)) _ (right_tells n) (λ k. no_value at k.0)
      ∙ (then_yes (is_value (label p (parent p n))) (tested.initializer_type p t type_of (parent p n)) None (value_label_tells (label p (parent p n))) at ∙ (initializer_finds (parent p n) a).1 h)

  place_finds : (n : ℕ) → Finds (tested.place_type p t type_of n) (λ a. PlaceOf p t n a)
  place_finds n a = (place_out n a (is_plain_assignment (label p (parent p n)) && nat_eq n (end p (parent p n + 1))) (right_tells n) (is_value (label p (parent p n))) (value_label_tells (label p (parent p n))), place_in n a)

  module _ (constant : Constants) (known : (n : ℕ) → Finds (constant n) (λ v. ConstantOf p t (HasConstantForm p t) n v)) where
    pub value_does_not_fit_tells : (n : ℕ) → Decides (tested.value_does_not_fit p t constant type_of n) (ValueDoesNotFit p t n)
    value_does_not_fit_tells n = like
        (both_found_tells (λ a. PlaceOf p t n a) (λ b. Typed p t n b) (λ a b. not (is_assignable p t constant n b a)) (λ a b. IsAssignable p t (HasConstantForm p t) n b a → ⊥)
        (λ a b. opposite (assignable_tells p t typable.headed (HasConstantForm p t) constant n (known n) b a)) (tested.place_type p t type_of n) (type_of n) (place_finds n) (typed n))
        (λ h. record { place = h.0; type = h.2.0; stands = h.1; typed = h.2.1; not_assignable = h.2.2 })
        (λ h. (h.place, h.stands, (h.type, h.typed, h.not_assignable)))

  -- ---- void calls

  pub void_used_tells : (n : ℕ) → Decides (tested.void_is_used p type_of n) (VoidIsUsed p t n)
  void_used_tells n = like
      (both (both (call_tells (label p n)) (found_tells (λ a. Typed p t n a) (λ a. is_plain is_void a) (λ a. a ≡ plain element.Void) (λ a. is_plain_one element.Void is_void void_tells a) (type_of n) (typed n)))
      (opposite (stands_alone_tells p n)))
      (λ h. record { receiver = h.0.0.0; call = h.0.0.1; void = subst (λ a. Typed p t n a) h.0.1.2 h.0.1.1; used = h.1 })
      (λ h. (((h.receiver, h.call), (plain element.Void, h.void, refl)), h.used))

  -- ---- arrays

  abbrev NoInt : ℕ → Type 0
  NoInt n = (a : RowType) × Typed p t n a × (IsIntLike a → ⊥)

  no_int_tells : (n : ℕ) → Decides (found (type_of n) (λ a. not (is_int_like a))) (NoInt n)
  no_int_tells n = found_tells (λ a. Typed p t n a) (λ a. not (is_int_like a)) (λ a. IsIntLike a → ⊥) (λ a. opposite (int_like_tells a)) (type_of n) (typed n)

  abbrev Arrays : ℕ → Type 0
  Arrays n = (((label p (parent p n) ≡ is.Index) × (n ≡ end p (parent p n + 1))) × NoInt n)
      ⊎ ((((label p (parent p n) ≡ is.Index) × (n ≡ parent p n + 1)) × ((a : RowType) × Typed p t n a × (a.dims ≡ 0)))
      ⊎ ((IsNewArray (label p (parent p n)) × NoInt n) ⊎ ((label p n ≡ is.List) × ((a : RowType) × Initializes p t n a × (a.dims ≡ 0)))))

  arrays_tell : (n : ℕ) → Decides (tested.array_does_not_fit p t type_of n) (Arrays n)
  arrays_tell n = either (both (both (index_label_tells (label p (parent p n))) (Decides-eqb n (end p (parent p n + 1)))) (no_int_tells n))
      (either (both (both (index_label_tells (label p (parent p n))) (Decides-eqb n (parent p n + 1)))
      (found_tells (λ a. Typed p t n a) (λ a. nat_eq a.dims 0) (λ a. a.dims ≡ 0) (λ a. Decides-eqb a.dims 0) (type_of n) (typed n)))
      (either (both (new_array_tells (label p (parent p n))) (no_int_tells n))
      (both (list_tells (label p n)) (found_tells (λ a. Initializes p t n a) (λ a. nat_eq a.dims 0) (λ a. a.dims ≡ 0) (λ a. Decides-eqb a.dims 0) (tested.initializer_type p t type_of n) (initializer_finds n)))))

  arrays_out : (n : ℕ) → Arrays n → ArrayDoesNotFit p t n
  arrays_out n (inl h) = ArrayDoesNotFit.of_index h.0.0 h.0.1 h.1.1 h.1.2
  arrays_out n (inr (inl h)) = ArrayDoesNotFit.of_indexed h.0.0 h.0.1 h.1.1 h.1.2
  arrays_out n (inr (inr (inl h))) = ArrayDoesNotFit.of_length h.0 h.1.1 h.1.2
  arrays_out n (inr (inr (inr h))) = ArrayDoesNotFit.of_list h.0 h.1.1 h.1.2

  arrays_in : (n : ℕ) → ArrayDoesNotFit p t n → Arrays n
  arrays_in n (ArrayDoesNotFit.of_index {a = a} at e h out) = inl ((at, e), (a, h, out))
  arrays_in n (ArrayDoesNotFit.of_indexed {a = a} at e h z) = inr (inl ((at, e), (a, h, z)))
  arrays_in n (ArrayDoesNotFit.of_length {a = a} at h out) = inr (inr (inl (at, (a, h, out))))
  arrays_in n (ArrayDoesNotFit.of_list {a = a} at h z) = inr (inr (inr (at, (a, h, z))))

  pub array_tells : (n : ℕ) → Decides (tested.array_does_not_fit p t type_of n) (ArrayDoesNotFit p t n)
  array_tells n = like (arrays_tell n) (arrays_out n) (arrays_in n)
