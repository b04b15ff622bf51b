-- What a call refers to as it stands, where the types of its arguments are said: behind an expression, `super` or `new`, and of a constructor.
use Rattle.std.proofs.Common.{◌≡◌, ◌⊎◌, refl, sym, ◌∙◌, ap, subst, inl, inr, ⊎_elim, arith, ℕ, zero, suc, ◌+◌, ◌<◌, Bool, true, false, cond, ◌&&◌, if◌then◌else◌, List, [], ◌∷◌, ◌++◌, length, Option, Some, None, option_map, nat_eq, Decides}
use Rattle.std.specs.List.{flat_map}
use Rattle.std.specs.Option.{option_map_or}
use Rattle.std.proofs.lemmas.Bool.{false≢true}
use Rattle.std.proofs.lemmas.Bool.Decides.{Decides-eqb}
use Rattle.std.proofs.lemmas.Option.{none-some, same_Some}
use Rattle.jr_base.specs.declared.text.Text.{Text}
use Rattle.jr_tree.specs.declared.tree.ThisOrSuper.{ThisOrSuper}
use Rattle.jr_tree.specs.declared.tree.ThisOrSuper.TheVariants as which
use Rattle.jr_tree.specs.declared.label.Sought.{Sought}
use Rattle.jr_tree.specs.declared.label.Sought.TheVariants as sought
use Rattle.jr_tree.specs.Rows.{Rows, name, parent, sought_at}
use Rattle.jr_defs.specs.declared.referent.Element.{Element}
use Rattle.jr_defs.specs.declared.referent.Element.TheVariants as element
use Rattle.jr_defs.specs.declared.referent.Referent.{Referent}
use Rattle.jr_defs.specs.declared.referent.Referent.TheVariants.{Unbound}
use Rattle.jr_defs.specs.declared.referent.RowType.{RowType}
use Rattle.jr_defs.specs.declared.referent.Space.TheVariants as space
use Rattle.jr_defs.specs.Constants.{HasConstantForm}
use Rattle.jr_defs.specs.Declarations.{IsObject}
use Rattle.jr_defs.specs.Enclosing.{ConstructorOf, InBody, Innermost}
use Rattle.jr_defs.specs.Instances.{HasInstance}
use Rattle.jr_defs.specs.Lookup.{CalledClass, EnclosesNew, NewLevel, SuperOf}
use Rattle.jr_defs.specs.Lookup.{Receiver as ReceiverOf}
use Rattle.jr_defs.specs.Members.{MemberNamed, MemberOf}
use Rattle.jr_defs.specs.Modifiers.{IsInner}
use Rattle.jr_defs.specs.Overloads.{Choice}
use Rattle.jr_defs.specs.Referents.{IsAnswer, Table}
use Rattle.jr_defs.specs.Supertypes.{Superclass}
use Rattle.jr_defs.specs.Types.{array, class_type, NamesType, plain}
use Rattle.jr_defs.specs.Typing.{TypeOf}
use Rattle.jr_plain.specs.Declarations.{is_object}
use Rattle.jr_plain.specs.Enclosing.{innermost, is_constructor_of, is_in_body}
use Rattle.jr_plain.specs.Headed.{IsHeaded}
use Rattle.jr_plain.specs.Instances.{has_instance}
use Rattle.jr_plain.specs.Lists.{Has, at_level}
use Rattle.jr_plain.specs.Lookup as looking
use Rattle.jr_plain.specs.Members.{is_member, members_named}
use Rattle.jr_plain.specs.Modifiers.{is_inner}
use Rattle.jr_plain.specs.Overloads.{Types, choice}
use Rattle.jr_plain.specs.Referents.{answer_of}
use Rattle.jr_plain.specs.Same.{same_candidate}
use Rattle.jr_plain.specs.Search.{all_such, Finds, Lists}
use Rattle.jr_plain.specs.Supertypes.{superclasses}
use Rattle.jr_plain.specs.Types.{named_type}
use Rattle.jr_plain.proofs.Answered.{answer_is}
use Rattle.jr_plain.proofs.Bounds.{constructor_below, type_below}
use Rattle.jr_plain.proofs.Declared.{object_tells}
use Rattle.jr_plain.proofs.Enclosed.{constructor_tells, in_body_below, in_body_tells, innermost_finds}
use Rattle.jr_plain.proofs.Instanced.{instance_tells}
use Rattle.jr_plain.proofs.Listed.{append_has, at_level_has, flat_has, found_has, if_has, one_has}
use Rattle.jr_plain.proofs.LookedUp.{before_tells}
use Rattle.jr_plain.proofs.Membership.{member_tells, members_named_list}
use Rattle.jr_plain.proofs.Modified.{inner_tells}
use Rattle.jr_plain.proofs.Overloaded.{choice_list}
use Rattle.jr_plain.proofs.Same.{candidate_tells}
use Rattle.jr_plain.proofs.Searches.{finds_last, lists}
use Rattle.jr_plain.proofs.Supertyped.{superclasses_list}
use Rattle.jr_plain.proofs.Tests.{both, like, never}
use Rattle.jr_plain.proofs.Typed.{map_some, named_finds}
use Rattle.jr_shapes.specs.Names.{named_by}
use Rattle.jr_with.specs.World.{left_of, world_of}
use Rattle.jr_with.specs.With.{look_with}
use Rattle.jr_lookup.specs.declared.qualified.Receiver.{Receiver}
use Rattle.jr_lookup.specs.Answers.{IsAnswerOr, IsCreated, IsFree}
use Rattle.jr_lookup.proofs.Calling.{answer_same}
use Rattle.jr_lookup.proofs.Looking.{named_first}
use Rattle.jr_spelling_rules.proofs.Found.{one_answer}
use Rattle.jr_spelling_rules.specs.Candidates as candidate
use Rattle.jr_spelling_rules.specs.Fitting.{found}
use Rattle.jr_spelling_rules.specs.Naming.{at_start}
use Rattle.jr_spell.specs.Calling.{call_found}
use Rattle.jr_spell.specs.Shaping.{method_found}
use Rattle.jr_spell.specs.Spellers.{number_by}

-- ---- one of the rows of a list, or of the one thing that they are of

abbrev AtNone : (ℕ → Type 0) → ℕ → Option ℕ → Type 0
AtNone Q d l = Q d × (l ≡ None)

listed_answer : (Q : ℕ → Type 0) (rows : List ℕ) → Lists rows Q → IsAnswerOr (AtNone Q) Unbound (answer_of (at_level None rows) Unbound)
listed_answer Q rows all = answer_is (AtNone Q) (λ r. r ≡ Unbound) (at_level None rows) (λ d l. at_level_has None rows all (d, l)) Unbound (λ free. refl)

module _ {I : Type 0} (Of : I → Type 0) (C : I → ℕ → Type 0) (rows : List ℕ) (all : Lists rows (λ d. (i : I) × Of i × C i d)) (one : Option I) (only : Finds one Of) where
  abbrev Each : ℕ → Type 0
  Each d = (i : I) × Of i × C i d

  one_found : (i : I) → one ≡ Some i → (a : Referent) → IsAnswerOr (IsFree (C i)) Unbound a → a ≡ answer_of (at_level None rows) Unbound
  one_found i e a h = one_answer (AtNone Each) Unbound a (answer_of (at_level None rows) Unbound)
      (answer_same (IsFree (C i)) (AtNone Each) (λ r. r ≡ Unbound) (λ r. r ≡ Unbound) (λ d l k. ((i, (only i).0 e, k.is), k.free))
      (λ d l k. record { is = subst (λ j. C j d) (same_Some k.0.0 i (sym ((only k.0.0).1 k.0.1) ∙ e)) k.0.2; free = k.1 }) (λ b is. is) a h)
      (listed_answer Each rows all)

  none_found : one ≡ None → Unbound ≡ answer_of (at_level None rows) Unbound
  none_found e = one_answer (AtNone Each) Unbound Unbound (answer_of (at_level None rows) Unbound) (IsAnswer.none (λ d l k. none-some k.0.0 (sym e ∙ (only k.0.0).1 k.0.1)) refl) (listed_answer Each rows all)

module _ (p : Rows) (t : Table) (headed : IsHeaded p) (type_of : Types) (o : ℕ) (all : List RowType) where
  abbrev seen : Sought → Text → Referent
  seen s x = call_found p t type_of o s all x

  -- ---- a method of the superclass

  supers_list : Lists (looking.supers_before p t o) (λ s. SuperOf p t o s)
  supers_list s = like
      (found_has nat_eq Decides-eqb (λ c. Innermost p o c) (λ c s. HasInstance p o c × Superclass p t c s) (λ c. if has_instance p o c then superclasses p t c else [])
      (λ c. if_has nat_eq Decides-eqb (has_instance p o c) (instance_tells p o c) (superclasses p t c) (superclasses_list p t headed c)) (innermost p o) (innermost_finds p o) s)
      (λ h. record { class = h.0; innermost = h.1; instance = h.2.0; above = h.2.1 }) (λ h. (h.class, h.innermost, (h.instance, h.above)))

  module _ (x : Text) where
    abbrev OfSuper : ℕ → ℕ → Type 0
    OfSuper s d = Choice p t s o None all (MemberNamed p t space.Method x s) d

    abbrev super_rows : List ℕ
    super_rows = flat_map (λ s. choice p t s o None all (members_named p t space.Method x s)) (looking.supers_before p t o)

    super_list : Lists super_rows (λ d. (s : ℕ) × SuperOf p t o s × OfSuper s d)
    super_list = flat_has nat_eq Decides-eqb nat_eq Decides-eqb (λ s. choice p t s o None all (members_named p t space.Method x s)) (λ s. SuperOf p t o s) OfSuper
        (λ s. choice_list p t headed s o None all (MemberNamed p t space.Method x s) (members_named p t space.Method x s) (members_named_list p t headed space.Method x s))
        (looking.supers_before p t o) supers_list

    super_seen : answer_of (at_level None super_rows) Unbound ≡ seen sought.SuperMethod x
    super_seen = refl

    pub super_found : (one : Option ℕ) → Finds one (λ s. SuperOf p t o s) → (s : ℕ) → one ≡ Some s → (a : Referent) → IsAnswerOr (IsFree (OfSuper s)) Unbound a → a ≡ seen sought.SuperMethod x
    super_found one only s e a h = one_found (λ s. SuperOf p t o s) OfSuper super_rows super_list one only s e a h ∙ super_seen

    pub super_none : (one : Option ℕ) → Finds one (λ s. SuperOf p t o s) → one ≡ None → Unbound ≡ seen sought.SuperMethod x
    super_none one only e = none_found (λ s. SuperOf p t o s) OfSuper super_rows super_list one only e ∙ super_seen

  -- ---- this(..) and super(..)

  constructors_list : (c : ℕ) → Lists (looking.constructors_of p c) (λ k. ConstructorOf p c k)
  constructors_list c = lists (λ k. is_constructor_of p c k) (λ k. ConstructorOf p c k) (λ k. constructor_tells p c k) (length p) (λ k h. constructor_below p k h.constructor)

  abbrev Constructs : ℕ → ℕ → Type 0
  Constructs c d = Choice p t c o None all (ConstructorOf p c) d

  constructs_list : (c : ℕ) → Lists (choice p t c o None all (looking.constructors_of p c)) (Constructs c)
  constructs_list c = choice_list p t headed c o None all (ConstructorOf p c) (looking.constructors_of p c) (constructors_list c)

  called_list : (w : ThisOrSuper) → Lists (looking.called_classes p t o w) (λ c. CalledClass p t o w c)
  called_list which.This c = like
      (found_has nat_eq Decides-eqb (λ c. Innermost p o c) (λ c k. c ≡ k) (λ c. c ∷ []) (λ c. one_has nat_eq Decides-eqb c) (innermost p o) (innermost_finds p o) c)
      (λ h. subst (λ k. CalledClass p t o which.This k) h.2 (CalledClass.this h.1)) this_into
    where
      this_into : {c : ℕ} → CalledClass p t o which.This c → (e : ℕ) × Innermost p o e × (e ≡ c)
      this_into {c} (CalledClass.this h) = (c, h, refl)
  called_list which.Super s = like
      (found_has nat_eq Decides-eqb (λ c. Innermost p o c) (λ c s. Superclass p t c s) (λ c. superclasses p t c) (λ c. superclasses_list p t headed c) (innermost p o) (innermost_finds p o) s)
      (λ h. CalledClass.super h.1 h.2) super_into
    where
      super_into : {s : ℕ} → CalledClass p t o which.Super s → (c : ℕ) × Innermost p o c × Superclass p t c s
      super_into (CalledClass.super {c = c} h k) = (c, h, k)

  module _ (w : ThisOrSuper) (x : Text) where
    abbrev called_rows : List ℕ
    called_rows = flat_map (λ c. choice p t c o None all (looking.constructors_of p c)) (looking.called_classes p t o w)

    all_called : Lists called_rows (λ d. (c : ℕ) × CalledClass p t o w c × Constructs c d)
    all_called = flat_has nat_eq Decides-eqb nat_eq Decides-eqb (λ c. choice p t c o None all (looking.constructors_of p c)) (λ c. CalledClass p t o w c) Constructs constructs_list
        (looking.called_classes p t o w) (called_list w)

  called_seen : (w : ThisOrSuper) (x : Text) → answer_of (at_level None (called_rows w x)) Unbound ≡ seen (sought.ConstructorCall w) x
  called_seen which.This x = refl
  called_seen which.Super x = refl

  pub called_found : (w : ThisOrSuper) (x : Text) (one : Option ℕ) → Finds one (λ c. CalledClass p t o w c) → (c : ℕ) → one ≡ Some c → (a : Referent) → IsAnswerOr (IsFree (Constructs c)) Unbound a → a ≡ seen (sought.ConstructorCall w) x
  called_found w x one only c e a h = one_found (λ c. CalledClass p t o w c) Constructs (called_rows w x) (all_called w x) one only c e a h ∙ called_seen w x

  pub called_none : (w : ThisOrSuper) (x : Text) (one : Option ℕ) → Finds one (λ c. CalledClass p t o w c) → one ≡ None → Unbound ≡ seen (sought.ConstructorCall w) x
  called_none w x one only e = none_found (λ c. CalledClass p t o w c) Constructs (called_rows w x) (all_called w x) one only e ∙ called_seen w x

  -- ---- creations

  encloses_finds : (c : ℕ) → Finds (looking.enclosing_new p t o c) (λ e. EnclosesNew p t o c e)
  encloses_finds c e =
      let h = finds_last (λ e. is_in_body p e o && is_member p t e c) (λ e. InBody p e o × MemberOf p t e c) (λ e. both (in_body_tells p e o) (member_tells p t headed e c)) (length p) e in (
        λ is. let k = h.0 is in record { holds = k.1.0; member = k.1.1; innermost = λ f b m. k.2 f (in_body_below p f o b) (b, m) },
        λ k. h.1 (in_body_below p e o k.holds, (k.holds, k.member), λ j lt m. k.innermost j m.0 m.1),
      )

  new_level_finds : (c : ℕ) → Finds (looking.new_level p t o c) (λ level. NewLevel p t o c level)
  new_level_finds c level = (out (is_inner p c) (inner_tells p c) level, into (is_inner p c) (inner_tells p c) level)
    where
      out : (b : Bool) → Decides b (IsInner p c) → (level : Option ℕ) → cond b (option_map Some (looking.enclosing_new p t o c)) (Some None) ≡ Some level → NewLevel p t o c level
      out true d level e = let h = map_some Some (looking.enclosing_new p t o c) level e in
          subst (λ l. NewLevel p t o c l) h.2 (NewLevel.inner (d.0 refl) ((encloses_finds c h.0).0 h.1))
      out false d level e = subst (λ l. NewLevel p t o c l) (same_Some None level e) (NewLevel.free (λ h. false≢true (d.1 h)))

      into : (b : Bool) → Decides b (IsInner p c) → (level : Option ℕ) → NewLevel p t o c level → cond b (option_map Some (looking.enclosing_new p t o c)) (Some None) ≡ Some level
      into true d _ (NewLevel.free other) = absurd (other (d.0 refl))
      into true d _ (NewLevel.inner {e = e} h k) = ap (option_map Some) ((encloses_finds c e).1 k)
      into false d _ (NewLevel.free other) = refl
      into false d _ (NewLevel.inner h k) = absurd (false≢true (d.1 h))

  creations_has : (c : ℕ) → Has same_candidate (looking.creations p t o all c) (λ k. IsCreated p t o c all k.0 k.1)
  creations_has c k = like
      (found_has same_candidate candidate_tells (λ level. NewLevel p t o c level) (λ level k. Constructs c k.0 × (k.1 ≡ level))
      (λ level. at_level level (choice p t c o None all (looking.constructors_of p c)))
      (λ level. at_level_has level (choice p t c o None all (looking.constructors_of p c)) (constructs_list c))
      (looking.new_level p t o c) (new_level_finds c) k)
      (λ h. record { level_is = subst (λ l. NewLevel p t o c l) (sym h.2.1) h.1; chosen = h.2.0 }) (λ h. (k.1, h.level_is, (h.chosen, refl)))

  abbrev created_by : Option ℕ → Referent
  created_by one = answer_of (option_map_or (λ c. looking.creations p t o all c) one []) Unbound

  created_seen : (x : Text) → created_by (named_type p t o) ≡ seen sought.Creation x
  created_seen x = refl

  pub created_found : (x : Text) (one : Option ℕ) (c : ℕ) → one ≡ named_type p t o → one ≡ Some c → (a : Referent) → IsAnswerOr (λ d l. IsCreated p t o c all d l) Unbound a → a ≡ seen sought.Creation x
  created_found x one c is e a h = one_answer (λ d l. IsCreated p t o c all d l) Unbound a (answer_of (looking.creations p t o all c) Unbound) h
      (answer_is (λ d l. IsCreated p t o c all d l) (λ r. r ≡ Unbound) (looking.creations p t o all c) (λ d l. creations_has c (d, l)) Unbound (λ free. refl))
      ∙ ap created_by (sym e ∙ is) ∙ created_seen x

  pub created_none : (x : Text) (one : Option ℕ) → one ≡ named_type p t o → one ≡ None → Unbound ≡ seen sought.Creation x
  created_none x one is e = ap created_by (sym e ∙ is) ∙ created_seen x

  -- ---- a method of the expression before the dot

  module _ (K : ℕ → Type 0) (typed : (n : ℕ) → Finds (type_of n) (λ a. TypeOf p t K n a)) (x : Text) where
    object_list : Lists (all_such (length p) (λ c. is_object p c)) (λ c. IsObject p c)
    object_list = lists (λ c. is_object p c) (λ c. IsObject p c) (λ c. object_tells p c) (length p) (λ c h. type_below p c h.type)

    abbrev ObjectOf : RowType → looking.Before → Type 0
    ObjectOf a r = ((c : ℕ) × (a ≡ class_type c) × (looking.object c ≡ r)) ⊎ ((c : ℕ) × ((e : Element) × (dims : ℕ) × (a ≡ array e (suc dims))) × IsObject p c × (looking.object c ≡ r))

    no_object : (e : Element) (r : looking.Before) → ((c : ℕ) → e ≡ element.Class c → ⊥) → ObjectOf (plain e) r → ⊥
    no_object e r other (inl h) = other h.0 (ap (λ a. a.element) h.1)
    no_object e r other (inr h) = let z = ap (λ a. a.dims) h.1.2 in absurd (omega arith)

    one_object : (c : ℕ) (r : looking.Before) → ObjectOf (class_type c) r → looking.object c ≡ r
    one_object c r (inl h) = ap looking.object (row_of (ap (λ a. a.element) h.1)) ∙ h.2
      where
        row_of : {b d : ℕ} → element.Class b ≡ element.Class d → b ≡ d
        row_of e = cc
    one_object c r (inr h) = let z = ap (λ a. a.dims) h.1.2 in absurd (omega arith)

    some_object : (e : Element) (dims : ℕ) (r : looking.Before) → ObjectOf (array e (suc dims)) r → (c : ℕ) × IsObject p c × (looking.object c ≡ r)
    some_object e dims r (inl h) = let z = ap (λ a. a.dims) h.1 in absurd (omega arith)
    some_object e dims r (inr h) = (h.0, h.2, h.3)

    objects_has : (dims : ℕ) (e : Element) → Has looking.same_before (looking.objects_of p dims e) (λ r. ObjectOf (array e dims) r)
    objects_has zero (element.Class c) r = like (one_has looking.same_before before_tells (looking.object c) r) (λ e. inl (c, refl, e)) (one_object c r)
    objects_has zero e r = like never (λ h. absurd h) (no_object e r (λ c e. cc))
    objects_has (suc dims) e r = like
        (flat_has looking.same_before before_tells nat_eq Decides-eqb (λ c. looking.object c ∷ []) (λ c. IsObject p c) (λ c r. looking.object c ≡ r) (λ c. one_has looking.same_before before_tells (looking.object c))
        (all_such (length p) (λ c. is_object p c)) object_list r)
        (λ h. inr (h.0, (e, dims, refl), h.1, h.2)) (some_object e dims r)

    abbrev value : Option RowType
    value = if nat_eq (parent p (o + 1)) o then type_of (o + 1) else None

    abbrev IsValue : RowType → Type 0
    IsValue a = (parent p (o + 1) ≡ o) × TypeOf p t K (o + 1) a

    value_finds : Finds value IsValue
    value_finds a = by (nat_eq (parent p (o + 1)) o) (Decides-eqb (parent p (o + 1)) o)
      where
        by : (b : Bool) → Decides b (parent p (o + 1) ≡ o) → (cond b (type_of (o + 1)) None ≡ Some a → IsValue a) × (IsValue a → cond b (type_of (o + 1)) None ≡ Some a)
        by true d = (λ e. (d.0 refl, (typed (o + 1) a).0 e), λ h. (typed (o + 1) a).1 h.1)
        by false d = (λ e. absurd (none-some a e), λ h. absurd (false≢true (d.1 h.0)))

    abbrev Ways : looking.Before → Type 0
    Ways r = ((a : RowType) × IsValue a × ObjectOf a r) ⊎ ((c : ℕ) × NamesType p t o c × ((c, None) ≡ r))

    object_out : parent p (o + 1) ≡ o → (a : RowType) → TypeOf p t K (o + 1) a → (r : looking.Before) → ObjectOf a r → ReceiverOf p t K o r.0 r.1
    object_out up a h r (inl k) = subst (λ r. ReceiverOf p t K o r.0 r.1) k.2 (ReceiverOf.object up (subst (λ b. TypeOf p t K (o + 1) b) k.1 h))
    object_out up a h r (inr k) = subst (λ r. ReceiverOf p t K o r.0 r.1) k.3 (ReceiverOf.array_object up (subst (λ b. TypeOf p t K (o + 1) b) k.1.2 h) k.2)

    receiver_out : (r : looking.Before) → Ways r → ReceiverOf p t K o r.0 r.1
    receiver_out r (inl h) = object_out h.1.0 h.0 h.1.1 r h.2
    receiver_out r (inr h) = subst (λ r. ReceiverOf p t K o r.0 r.1) h.2 (ReceiverOf.type h.1)

    receiver_into : (c : ℕ) (receiver : Option RowType) → ReceiverOf p t K o c receiver → Ways (c, receiver)
    receiver_into c _ (ReceiverOf.object up h) = inl (class_type c, (up, h), inl (c, refl, refl))
    receiver_into c _ (ReceiverOf.array_object {dims = dims} {e = e} up h k) = inl (array e (suc dims), (up, h), inr (c, (e, dims, refl), k, refl))
    receiver_into c _ (ReceiverOf.type h) = inr (c, h, refl)

    abbrev receivers : List looking.Before
    receivers = option_map_or (λ a. looking.objects_of p a.dims a.element) value [] ++ option_map_or (λ c. (c, None) ∷ []) (named_type p t o) []

    receivers_has : Has looking.same_before receivers (λ r. ReceiverOf p t K o r.0 r.1)
    receivers_has r = like
        (append_has looking.same_before before_tells (option_map_or (λ a. looking.objects_of p a.dims a.element) value []) (option_map_or (λ c. (c, None) ∷ []) (named_type p t o) [])
        (found_has looking.same_before before_tells IsValue (λ a r. ObjectOf a r) (λ a. looking.objects_of p a.dims a.element) (λ a. objects_has a.dims a.element) value value_finds)
        (found_has looking.same_before before_tells (λ c. NamesType p t o c) (λ c r. (c, None) ≡ r) (λ c. (c, None) ∷ []) (λ c. one_has looking.same_before before_tells (c, None)) (named_type p t o) (named_finds p t o)) r)
        (receiver_out r) (receiver_into r.0 r.1)

    abbrev OfReceiver : Receiver → ℕ → Type 0
    OfReceiver r d = Choice p t r.class o r.ty all (MemberNamed p t space.Method x r.class) d

    abbrev receiver_rows : List ℕ
    receiver_rows = flat_map (λ r. choice p t r.0 o r.1 all (members_named p t space.Method x r.0)) receivers

    receiver_list : Lists receiver_rows (λ d. (r : Receiver) × ReceiverOf p t K o r.class r.ty × OfReceiver r d)
    receiver_list d = like
        (flat_has nat_eq Decides-eqb looking.same_before before_tells (λ r. choice p t r.0 o r.1 all (members_named p t space.Method x r.0)) (λ r. ReceiverOf p t K o r.0 r.1)
        (λ r d. Choice p t r.0 o r.1 all (MemberNamed p t space.Method x r.0) d)
        (λ r. choice_list p t headed r.0 o r.1 all (MemberNamed p t space.Method x r.0) (members_named p t space.Method x r.0) (members_named_list p t headed space.Method x r.0)) receivers receivers_has d)
        (λ h. (record { class = h.0.0; ty = h.0.1 }, h.1, h.2)) (λ h. ((h.0.class, h.0.ty), h.1, h.2))

    receiver_seen : answer_of (at_level None receiver_rows) Unbound ≡ seen sought.MethodOf x
    receiver_seen = refl

    pub receiver_found : (one : Option Receiver) → Finds one (λ r. ReceiverOf p t K o r.class r.ty) → (r : Receiver) → one ≡ Some r → (a : Referent) → IsAnswerOr (IsFree (OfReceiver r)) Unbound a → a ≡ seen sought.MethodOf x
    receiver_found one only r e a h = one_found (λ r. ReceiverOf p t K o r.class r.ty) OfReceiver receiver_rows receiver_list one only r e a h ∙ receiver_seen

    pub receiver_none : (one : Option Receiver) → Finds one (λ r. ReceiverOf p t K o r.class r.ty) → one ≡ None → Unbound ≡ seen sought.MethodOf x
    receiver_none one only e = none_found (λ r. ReceiverOf p t K o r.class r.ty) OfReceiver receiver_rows receiver_list one only e ∙ receiver_seen

  -- ---- of the candidate

  pub alone_seen : (x : Text) → method_found p t o at_start all x ≡ seen sought.Method x
  alone_seen x = refl

  abbrev named_x : Text
  named_x = name p (named_by p o (t o))

  abbrev standing_by : Option (List RowType) → Sought → Text → Referent
  standing_by given s x = look_with p (world_of p t) (candidate.left_standing s given (left_of p t type_of o)) o x s

  pub call_standing : (given : Option (List RowType)) → given ≡ Some all → (s : Sought) → s ≡ sought_at p o → (number : ℕ) → number ≡ number_by p o (t o) → (a : Referent) → a ≡ seen s (name p number)
      → a ≡ found p t o (candidate.as_it_stands p t type_of given o)
  call_standing given said s at number is a h = h ∙ ap (seen s) (ap (name p) is ∙ named_first p (named_by p o (t o))) ∙ ap (λ g. standing_by g s named_x) (sym said) ∙ ap (λ r. standing_by given r named_x) at

  pub call_by : (x : Text) (a : Referent) (s r : Sought) → r ≡ s → a ≡ seen s x → a ≡ seen r x
  call_by x a s r e h = h ∙ ap (λ s. seen s x) (sym e)

pub is_no_call : (s : Sought) → candidate.is_call s ≡ true → (s ≡ sought.Method → ⊥) → (s ≡ sought.MethodOf → ⊥) → (s ≡ sought.SuperMethod → ⊥) → (s ≡ sought.Creation → ⊥) → ((w : ThisOrSuper) → s ≡ sought.ConstructorCall w → ⊥) → ⊥
is_no_call sought.Method h a b c d e = a refl
is_no_call sought.MethodOf h a b c d e = b refl
is_no_call sought.SuperMethod h a b c d e = c refl
is_no_call sought.Creation h a b c d e = d refl
is_no_call (sought.ConstructorCall w) h a b c d e = e w refl
is_no_call (sought.Simple k) h a b c d e = false≢true h
is_no_call (sought.Qualified k) h a b c d e = false≢true h
is_no_call sought.FieldOf h a b c d e = false≢true h
is_no_call sought.SuperField h a b c d e = false≢true h
is_no_call sought.OwnClass h a b c d e = false≢true h
is_no_call sought.Label h a b c d e = false≢true h
is_no_call sought.Nothing h a b c d e = false≢true h
