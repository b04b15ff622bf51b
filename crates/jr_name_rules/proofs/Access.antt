-- The test of what is not accessible tells what it is to tell.
use Rattle.std.proofs.Common.{◌≡◌, ◌⊎◌, refl, ◌∙◌, ap, subst, inl, inr, arith, ℕ, zero, suc, ◌+◌, not, [], ◌∷◌, length, flat_map, Option, Some, None, nat_eq, Decides}
use Rattle.std.specs.List.{list_any}
use Rattle.std.specs.Option.{option_eq, option_map_or}
use Rattle.std.proofs.lemmas.Bool.Decides.{Decides-eqb}
use Rattle.std.proofs.lemmas.Option.{none-some, same_Some}
use Rattle.jr_tree.specs.declared.label.Sought.{Sought}
use Rattle.jr_tree.specs.declared.label.Sought.TheVariants as sought
use Rattle.jr_tree.specs.Rows.{Rows, parent, sought_at}
use Rattle.jr_defs.specs.declared.referent.Element.{Element}
use Rattle.jr_defs.specs.declared.referent.Element.TheVariants as element
use Rattle.jr_defs.specs.declared.referent.RowType.{RowType}
use Rattle.jr_defs.specs.declared.referent.Referent.TheVariants.{Declared}
use Rattle.jr_defs.specs.Referents.{Table}
use Rattle.jr_defs.specs.Declarations.{IsOccurrence, IsObject}
use Rattle.jr_defs.specs.Types.{array, plain, class_type, NamesType}
use Rattle.jr_defs.specs.Access.{IsAccessible}
use Rattle.jr_defs.specs.Constants.{HasConstantForm}
use Rattle.jr_defs.specs.Typing.{TypeOf}
use Rattle.jr_defs.specs.Lookup.{Receiver}
use Rattle.jr_defs.specs.Rules.{IsBehindDot, HasReceiver, Through, IsOfHiddenType}
use Rattle.jr_plain.specs.Headed.{IsHeaded}
use Rattle.jr_plain.specs.Search.{all_such, Finds}
use Rattle.jr_plain.specs.Same.{same_type}
use Rattle.jr_plain.specs.Lists.{Has}
use Rattle.jr_plain.specs.Declarations.{is_object}
use Rattle.jr_plain.specs.Types.{named_type}
use Rattle.jr_plain.specs.Access.{is_accessible}
use Rattle.jr_plain.specs.Overloads.{Types}
use Rattle.jr_plain.specs.Lookup.{Before, same_before, object, objects_of, objects_before, receivers}
use Rattle.jr_plain.proofs.Tests.{always, never, both, either, opposite, like}
use Rattle.jr_plain.proofs.Searches.{lists, some_item}
use Rattle.jr_plain.proofs.Same.{type_tells, option_tells}
use Rattle.jr_plain.proofs.Listed.{or_else_has, append_has, one_has, found_has, if_has, flat_has}
use Rattle.jr_plain.proofs.Bounds.{type_below}
use Rattle.jr_plain.proofs.Declared.{object_tells, occurrence_tells}
use Rattle.jr_plain.proofs.Modified.{found_tells}
use Rattle.jr_plain.proofs.Typed.{named_finds}
use Rattle.jr_plain.proofs.LookedUp.{before_tells}
use Rattle.jr_plain.proofs.Accessed.{accessible_tells}
use Rattle.jr_name_rules.specs.Found.{declared_row}
use Rattle.jr_name_rules.specs.AccessTests as tests
use Rattle.jr_name_rules.proofs.Found.{declared_finds}

-- ---- what stands before a dot

-- an expression of this type is an object of a class, or an array, which has the members of Object
abbrev ObjectOf : Rows → RowType → Before → Type 0
ObjectOf p a r = ((c : ℕ) × (a ≡ class_type c) × (object c ≡ r)) ⊎ ((c : ℕ) × ((e : Element) × (dims : ℕ) × (a ≡ array e (suc dims))) × IsObject p c × (object c ≡ r))

no_object : (p : Rows) (e : Element) (r : Before) → ((c : ℕ) → e ≡ element.Class c → ⊥) → ObjectOf p (plain e) r → ⊥
no_object p e r other (inl h) = other h.0 (ap (λ a. a.element) h.1)
no_object p e r other (inr h) = let z = ap (λ a. a.dims) h.1.2 in absurd (omega arith)

one_object : (p : Rows) (c : ℕ) (r : Before) → ObjectOf p (class_type c) r → object c ≡ r
one_object p c r (inl h) = ap object (row_of (ap (λ a. a.element) h.1)) ∙ h.2
  where
    row_of : {b d : ℕ} → element.Class b ≡ element.Class d → b ≡ d
    row_of e = cc
one_object p c r (inr h) = let z = ap (λ a. a.dims) h.1.2 in absurd (omega arith)

some_object : (p : Rows) (e : Element) (dims : ℕ) (r : Before) → ObjectOf p (array e (suc dims)) r → (c : ℕ) × IsObject p c × (object c ≡ r)
some_object p e dims r (inl h) = let z = ap (λ a. a.dims) h.1 in absurd (omega arith)
some_object p e dims r (inr h) = (h.0, h.2, h.3)

objects_of_has : (p : Rows) (dims : ℕ) (e : Element) → Has same_before (objects_of p dims e) (λ r. ObjectOf p (array e dims) r)
objects_of_has p zero (element.Class c) r = like (one_has same_before before_tells (object c) r) (λ e. inl (c, refl, e)) (one_object p c r)
objects_of_has p zero e r = like never (λ h. absurd h) (no_object p e r (λ c e. cc))
objects_of_has p (suc dims) e r = like
    (flat_has same_before before_tells nat_eq Decides-eqb (λ c. object c ∷ []) (λ c. IsObject p c) (λ c r. object c ≡ r) (λ c. one_has same_before before_tells (object c))
    (all_such (length p) (λ c. is_object p c)) (lists (λ c. is_object p c) (λ c. IsObject p c) (λ c. object_tells p c) (length p) (λ c h. type_below p c h.type)) r)
    (λ h. inr (h.0, (e, dims, refl), h.1, h.2)) (some_object p e dims r)

behind_dot_tells : (s : Sought) → Decides (tests.is_behind_dot s) (IsBehindDot s)
behind_dot_tells (sought.Qualified kind) = always
behind_dot_tells sought.FieldOf = always
behind_dot_tells sought.MethodOf = always
behind_dot_tells _ = never

class_finds : (e : Element) → Finds (tests.class_of e) (λ c. e ≡ element.Class c)
class_finds (element.Class c) d = (λ e. ap element.Class (same_Some c d e), λ e. ap Some (row_of e))
  where
    row_of : {b d : ℕ} → element.Class b ≡ element.Class d → b ≡ d
    row_of e = cc
class_finds _ d = (λ e. absurd (none-some d e), λ e. absurd (cc))

abbrev pub TargetHidden : Rows → Table → ℕ → Type 0
TargetHidden p t o = (d : ℕ) × ((level : Option ℕ) × (t o ≡ Declared d level)) × ((through : Option RowType) × Through p t o through × (IsAccessible p t d o through → ⊥))

abbrev pub NotAccessible : Rows → Table → ℕ → Type 0
NotAccessible p t o = IsOccurrence p o × (TargetHidden p t o ⊎ IsOfHiddenType p t o)

module _ (p : Rows) (t : Table) (headed : IsHeaded p) (type_of : Types) (typed : (n : ℕ) → Finds (type_of n) (λ a. TypeOf p t (HasConstantForm p t) n a)) where
  abbrev Receives : ℕ → ℕ → Option RowType → Type 0
  Receives o c receiver = Receiver p t (HasConstantForm p t) o c receiver

  abbrev TypedBefore : ℕ → RowType → Type 0
  TypedBefore o a = TypeOf p t (HasConstantForm p t) (o + 1) a

  abbrev ReceiverWays : ℕ → Before → Type 0
  ReceiverWays o r = ((parent p (o + 1) ≡ o) × ((a : RowType) × TypedBefore o a × ObjectOf p a r)) ⊎ ((c : ℕ) × NamesType p t o c × ((c, None) ≡ r))

  object_out : (o : ℕ) → parent p (o + 1) ≡ o → (a : RowType) → TypedBefore o a → (r : Before) → ObjectOf p a r → Receives o r.0 r.1
  object_out o up a h r (inl k) = subst (λ r. Receives o r.0 r.1) k.2 (Receiver.object up (subst (λ b. TypedBefore o b) k.1 h))
  object_out o up a h r (inr k) = subst (λ r. Receives o r.0 r.1) k.3 (Receiver.array_object up (subst (λ b. TypedBefore o b) k.1.2 h) k.2)

  receiver_out : (o : ℕ) (r : Before) → ReceiverWays o r → Receives o r.0 r.1
  receiver_out o r (inl h) = object_out o h.0 h.1.0 h.1.1 r h.1.2
  receiver_out o r (inr h) = subst (λ r. Receives o r.0 r.1) h.2 (Receiver.type h.1)

  receiver_into : (o c : ℕ) (receiver : Option RowType) → Receives o c receiver → ReceiverWays o (c, receiver)
  receiver_into o c _ (Receiver.object up h) = inl (up, (class_type c, h, inl (c, refl, refl)))
  receiver_into o c _ (Receiver.array_object {dims = dims} {e = e} up h k) = inl (up, (array e (suc dims), h, inr (c, (e, dims, refl), k, refl)))
  receiver_into o c _ (Receiver.type h) = inr (c, h, refl)

  receivers_has : (o : ℕ) → Has same_before (receivers p t type_of o) (λ r. Receives o r.0 r.1)
  receivers_has o r = like
      (append_has same_before before_tells (objects_before p type_of o) (option_map_or (λ c. (c, None) ∷ []) (named_type p t o) [])
      (if_has same_before before_tells (nat_eq (parent p (o + 1)) o) (Decides-eqb (parent p (o + 1)) o) (option_map_or (λ a. objects_of p a.dims a.element) (type_of (o + 1)) [])
      (found_has same_before before_tells (TypedBefore o) (λ a r. ObjectOf p a r) (λ a. objects_of p a.dims a.element) (λ a. objects_of_has p a.dims a.element)
      (type_of (o + 1)) (typed (o + 1))))
      (found_has same_before before_tells (λ c. NamesType p t o c) (λ c r. (c, None) ≡ r) (λ c. (c, None) ∷ []) (λ c. one_has same_before before_tells (c, None)) (named_type p t o)
      (named_finds p t o)) r)
      (receiver_out o r) (receiver_into o r.0 r.1)

  -- ---- what the occurrence is reached through

  abbrev ThroughReceiver : ℕ → Option RowType → Type 0
  ThroughReceiver o through = (c : ℕ) × HasReceiver p t o c through

  receiver_types_has : (o : ℕ) → Has (option_eq same_type) (tests.receiver_types p t type_of o) (ThroughReceiver o)
  receiver_types_has o through = like
      (if_has (option_eq same_type) (option_tells same_type type_tells) (tests.is_behind_dot (sought_at p o)) (behind_dot_tells (sought_at p o)) (flat_map (λ r. r.1 ∷ []) (receivers p t type_of o))
      (flat_has (option_eq same_type) (option_tells same_type type_tells) same_before before_tells (λ r. r.1 ∷ []) (λ r. Receives o r.0 r.1) (λ r through. r.1 ≡ through)
      (λ r. one_has (option_eq same_type) (option_tells same_type type_tells) r.1) (receivers p t type_of o) (receivers_has o)) through)
      (λ h. (h.1.0.0, record { behind = h.0; receiver = subst (λ through. Receives o h.1.0.0 through) h.1.2 h.1.1 }))
      (λ h. (h.1.behind, ((h.0, through), h.1.receiver, refl)))

  through_out : (o : ℕ) (through : Option RowType) → ThroughReceiver o through ⊎ (((other : Option RowType) → ThroughReceiver o other → ⊥) × (None ≡ through)) → Through p t o through
  through_out o through (inl h) = Through.receiver h.1
  through_out o through (inr h) = subst (λ through. Through p t o through) h.1 (Through.without (λ c other k. h.0 other (c, k)))

  through_into : (o : ℕ) (through : Option RowType) → Through p t o through → ThroughReceiver o through ⊎ (((other : Option RowType) → ThroughReceiver o other → ⊥) × (None ≡ through))
  through_into o _ (Through.receiver {c = c} h) = inl (c, h)
  through_into o _ (Through.without none) = inr (λ other k. none k.0 other k.1, refl)

  reached_through_has : (o : ℕ) → Has (option_eq same_type) (tests.reached_through p t type_of o) (Through p t o)
  reached_through_has o through = like
      (or_else_has (option_eq same_type) (option_tells same_type type_tells) (tests.receiver_types p t type_of o) (None ∷ []) (receiver_types_has o)
      (one_has (option_eq same_type) (option_tells same_type type_tells) None) through)
      (through_out o through) (through_into o through)

  target_hidden_tells : (o : ℕ) → Decides (tests.is_target_hidden p t type_of o) (TargetHidden p t o)
  target_hidden_tells o =
      found_tells (λ d. (level : Option ℕ) × (t o ≡ Declared d level)) (λ d. list_any (λ through. not (is_accessible p t d o through)) (tests.reached_through p t type_of o))
      (λ d. (through : Option RowType) × Through p t o through × (IsAccessible p t d o through → ⊥)) hidden (declared_row (t o)) (declared_finds (t o))
    where
      hidden : (d : ℕ) → Decides (list_any (λ through. not (is_accessible p t d o through)) (tests.reached_through p t type_of o))
          ((through : Option RowType) × Through p t o through × (IsAccessible p t d o through → ⊥))
      hidden d = like (some_item (option_eq same_type) (option_tells same_type type_tells) (λ through. not (is_accessible p t d o through)) (tests.reached_through p t type_of o))
          (λ h. (h.0, (reached_through_has o h.0).0 h.1, (opposite (accessible_tells p t headed d o h.0)).0 h.2))
          (λ h. (h.0, (reached_through_has o h.0).1 h.1, (opposite (accessible_tells p t headed d o h.0)).1 h.2))

  -- ---- what stands before the dot is of a type that is not accessible

  abbrev HiddenClass : ℕ → RowType → Type 0
  HiddenClass o a = (c : ℕ) × (a.element ≡ element.Class c) × (IsAccessible p t c o None → ⊥)

  hidden_class_tells : (o : ℕ) (a : RowType) → Decides (tests.has_hidden_class p t o a) (HiddenClass o a)
  hidden_class_tells o a = found_tells (λ c. a.element ≡ element.Class c) (λ c. not (is_accessible p t c o None)) (λ c. IsAccessible p t c o None → ⊥)
      (λ c. opposite (accessible_tells p t headed c o None)) (tests.class_of a.element) (class_finds a.element)

  of_hidden_type_tells : (o : ℕ) → Decides (tests.is_of_hidden_type p t type_of o) (IsOfHiddenType p t o)
  of_hidden_type_tells o = like
      (both (behind_dot_tells (sought_at p o)) (both (Decides-eqb (parent p (o + 1)) o)
      (found_tells (TypedBefore o) (λ a. tests.has_hidden_class p t o a) (HiddenClass o) (hidden_class_tells o) (type_of (o + 1)) (typed (o + 1)))))
      (λ h. record {
        behind = h.0;
        first = h.1.0;
        class = h.1.1.2.0;
        dims = h.1.1.0.dims;
        typed = subst (λ e. TypedBefore o (array e h.1.1.0.dims)) h.1.1.2.1 h.1.1.1;
        hidden = h.1.1.2.2;
      })
      (λ h. (h.behind, (h.first, (array (element.Class h.class) h.dims, h.typed, (h.class, refl, h.hidden)))))

  pub not_accessible_tells : (o : ℕ) → Decides (tests.is_not_accessible p t type_of o) (NotAccessible p t o)
  not_accessible_tells o = both (occurrence_tells p o) (either (target_hidden_tells o) (of_hidden_type_tells o))
