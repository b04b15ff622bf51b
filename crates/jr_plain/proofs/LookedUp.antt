-- Lookup that is computed is that of the definition.
use Rattle.std.proofs.Common.{◌≡◌, ◌⊎◌, refl, sym, ◌∙◌, ap, subst, inl, inr, ⊎_elim, arith, ℕ, zero, suc, ◌+◌, ◌<◌, Bool, true, false, cond, ◌&&◌, if◌then◌else◌, List, [], ◌∷◌, length, codes, Option, Some, None, option_map, nat_eq, Decides}
use Rattle.std.specs.List.{flat_map}
use Rattle.std.specs.Option.{option_map_or}
use Rattle.std.proofs.lemmas.Bool.{false≢true}
use Rattle.std.proofs.lemmas.Bool.Decides.{Decides-eqb}
use Rattle.std.proofs.lemmas.Option.{none-some, same_Some}
use Rattle.std.proofs.lemmas.Slice.Eq.{bytes_eq-Decides}
use Rattle.jr_base.specs.declared.text.Text.{Text}
use Rattle.jr_tree.specs.declared.tree.ThisOrSuper.{ThisOrSuper}
use Rattle.jr_tree.specs.declared.tree.ThisOrSuper.TheVariants as which
use Rattle.jr_tree.specs.declared.label.Label.{Label}
use Rattle.jr_tree.specs.declared.label.Label.TheVariants as is
use Rattle.jr_tree.specs.declared.label.ReceiverKind.TheVariants as on
use Rattle.jr_tree.specs.declared.label.NameKind.{NameKind}
use Rattle.jr_tree.specs.declared.label.NameKind.TheVariants as kind
use Rattle.jr_tree.specs.declared.label.Sought.{Sought}
use Rattle.jr_tree.specs.declared.label.Sought.TheVariants as sought
use Rattle.jr_tree.specs.Rows.{Rows, label, parent, role_at}
use Rattle.jr_defs.specs.declared.referent.Space.{Space}
use Rattle.jr_defs.specs.declared.referent.Space.TheVariants as space
use Rattle.jr_defs.specs.declared.referent.Element.{Element}
use Rattle.jr_defs.specs.declared.referent.Element.TheVariants as element
use Rattle.jr_defs.specs.declared.referent.RowType.{RowType}
use Rattle.jr_defs.specs.declared.referent.Referent.{Referent}
use Rattle.jr_defs.specs.declared.referent.Referent.TheVariants.{Unbound, ArrayLength, Package}
use Rattle.jr_defs.specs.Referents.{Table}
use Rattle.jr_defs.specs.Declarations.{Declares, IsObject}
use Rattle.jr_defs.specs.Enclosing.{BodyOf, InBody, Innermost, ConstructorOf}
use Rattle.jr_defs.specs.Modifiers.{IsInner}
use Rattle.jr_defs.specs.Packages.{spelled, TypeOfPackage}
use Rattle.jr_defs.specs.Types.{array, plain, class_type, NamesType}
use Rattle.jr_defs.specs.Supertypes.{Superclass}
use Rattle.jr_defs.specs.Members.{MemberOf, MemberNamed}
use Rattle.jr_defs.specs.Imports.{StaticImport}
use Rattle.jr_defs.specs.Scope.{Depth, InScope, Visible}
use Rattle.jr_defs.specs.Instances.{HasInstance}
use Rattle.jr_defs.specs.Typing.{TypeOf}
use Rattle.jr_defs.specs.Overloads.{Choice, ImportedChoice}
use Rattle.jr_defs.specs.Lookup.{level_of, VisibleThrough, NoneInScope, SimpleCandidate, Receiver, ArrayBefore, MemberBefore, TypeBefore, QualifiedCandidate, SuperOf, arguments_by, Arguments, MethodLevel, ImportedMethod, MethodCandidate, EnclosesNew, NewLevel, CalledClass, Candidate, MayBePackage, MayBeLength, IsPackageName, IsLength, Otherwise, LookFor}
use Rattle.jr_defs.proofs.TypesAgree.{otherwise_one}
use Rattle.jr_plain.specs.Headed.{IsHeaded}
use Rattle.jr_plain.specs.Search.{all_such, gathered, Lists, Finds}
use Rattle.jr_plain.specs.Same.{same_candidate, same_type}
use Rattle.jr_plain.specs.Lists.{Has, at_level}
use Rattle.jr_plain.specs.Referents.{is_candidate}
use Rattle.jr_plain.specs.Declarations.{declares, is_object}
use Rattle.jr_plain.specs.Enclosing.{is_body_of, is_in_body, innermost, is_constructor_of}
use Rattle.jr_plain.specs.Modifiers.{is_inner}
use Rattle.jr_plain.specs.Types.{named_type}
use Rattle.jr_plain.specs.Supertypes.{superclasses}
use Rattle.jr_plain.specs.Members.{is_member, is_member_named, members_named}
use Rattle.jr_plain.specs.Imports.{is_static_import}
use Rattle.jr_plain.specs.Scope.{depth_at, depths, is_imported, is_somewhere_in_scope, is_visible}
use Rattle.jr_plain.specs.Instances.{has_instance}
use Rattle.jr_plain.specs.Overloads.{Types, choice, imported_choice}
use Rattle.jr_plain.specs.Lookup as plain
use Rattle.jr_plain.proofs.Tests.{always, never, both, opposite, like}
use Rattle.jr_plain.proofs.Searches.{some, lists, finds_last}
use Rattle.jr_plain.proofs.Same.{candidate_tells, type_tells, option_tells}
use Rattle.jr_plain.proofs.Listed.{or_else_has, append_has, one_has, found_has, if_has, gathered_has, flat_has, at_level_has}
use Rattle.jr_plain.proofs.Bounds.{type_below, constructor_below}
use Rattle.jr_plain.proofs.Declared.{declares_tells, object_tells}
use Rattle.jr_plain.proofs.Enclosed.{body_tells, in_body_tells, in_body_below, innermost_finds, constructor_tells}
use Rattle.jr_plain.proofs.Modified.{found_tells, inner_tells}
use Rattle.jr_plain.proofs.Packaged.{type_of_package_tells}
use Rattle.jr_plain.proofs.Typed.{named_finds, map_some}
use Rattle.jr_plain.proofs.Supertyped.{superclasses_list}
use Rattle.jr_plain.proofs.Membership.{member_tells, member_named_tells, members_named_list}
use Rattle.jr_plain.proofs.Imported.{refers_to_package_tells, static_import_tells}
use Rattle.jr_plain.proofs.Scoped.{each_depth_has, imported_tells, declares_below, in_scope_below, depth_below, somewhere_tells, visible_tells}
use Rattle.jr_plain.proofs.Instanced.{instance_tells}
use Rattle.jr_plain.proofs.Overloaded.{arguments_find, choice_list, imported_choice_list}
use Rattle.jr_plain.proofs.Answered.{answer_is, answer_finds}

pub before_tells : (a b : plain.Before) → Decides (plain.same_before a b) (a ≡ b)
before_tells a b = like (both (Decides-eqb a.0 b.0) (option_tells same_type type_tells a.1 b.1)) (λ h. λ i. (h.0 i, h.1 i)) (λ e. (ap (λ c. c.0) e, ap (λ c. c.1) e))

-- the objects of classes
object_list : (p : Rows) → Lists (all_such (length p) (λ c. is_object p c)) (λ c. IsObject p c)
object_list p = lists (λ c. is_object p c) (λ c. IsObject p c) (λ c. object_tells p c) (length p) (λ c h. type_below p c h.type)

-- an expression of this type is an object of a class, or an array, which has the members of Object
abbrev ObjectOf : Rows → RowType → plain.Before → Type 0
ObjectOf p a r = ((c : ℕ) × (a ≡ class_type c) × (plain.object c ≡ r)) ⊎ ((c : ℕ) × ((e : Element) × (dims : ℕ) × (a ≡ array e (suc dims))) × IsObject p c × (plain.object c ≡ r))

no_object : (p : Rows) (e : Element) (r : plain.Before) → ((c : ℕ) → e ≡ element.Class c → ⊥) → ObjectOf p (plain e) r → ⊥
no_object p e r other (inl h) = other h.0 (ap (λ a. a.element) h.1)
no_object p e r other (inr h) = let z = ap (λ a. a.dims) h.1.2 in absurd (omega arith)

one_object : (p : Rows) (c : ℕ) (r : plain.Before) → ObjectOf p (class_type c) r → plain.object c ≡ r
one_object p c r (inl h) = ap plain.object (row_of (ap (λ a. a.element) h.1)) ∙ h.2
  where
    row_of : {b d : ℕ} → element.Class b ≡ element.Class d → b ≡ d
    row_of e = cc
one_object p c r (inr h) = let z = ap (λ a. a.dims) h.1.2 in absurd (omega arith)

some_object : (p : Rows) (e : Element) (dims : ℕ) (r : plain.Before) → ObjectOf p (array e (suc dims)) r → (c : ℕ) × IsObject p c × (plain.object c ≡ r)
some_object p e dims r (inl h) = let z = ap (λ a. a.dims) h.1 in absurd (omega arith)
some_object p e dims r (inr h) = (h.0, h.2, h.3)

objects_of_has : (p : Rows) (dims : ℕ) (e : Element) → Has plain.same_before (plain.objects_of p dims e) (λ r. ObjectOf p (array e dims) r)
objects_of_has p zero (element.Class c) r = like (one_has plain.same_before before_tells (plain.object c) r) (λ e. inl (c, refl, e)) (one_object p c r)
objects_of_has p zero e r = like never (λ h. absurd h) (no_object p e r (λ c e. cc))
objects_of_has p (suc dims) e r = like
    (flat_has plain.same_before before_tells nat_eq Decides-eqb (λ c. plain.object c ∷ []) (λ c. IsObject p c) (λ c r. plain.object c ≡ r) (λ c. one_has plain.same_before before_tells (plain.object c))
    (all_such (length p) (λ c. is_object p c)) (object_list p) r)
    (λ h. inr (h.0, (e, dims, refl), h.1, h.2)) (some_object p e dims r)

array_tells : (a : RowType) → Decides (plain.is_array a.dims) ((held : Element) × (dims : ℕ) × (a ≡ array held (suc dims)))
array_tells a = by a.element a.dims
  where
    by : (e : Element) (n : ℕ) → Decides (plain.is_array n) ((held : Element) × (dims : ℕ) × (array e n ≡ array held (suc dims)))
    by e zero = like never (λ h. absurd h) (λ h. let z = ap (λ a. a.dims) h.2 in absurd (omega arith))
    by e (suc dims) = (λ h. (e, dims, refl), λ h. refl)

constructors_list : (p : Rows) (c : ℕ) → Lists (plain.constructors_of p c) (λ k. ConstructorOf p c k)
constructors_list p c = lists (λ k. is_constructor_of p c k) (λ k. ConstructorOf p c k) (λ k. constructor_tells p c k) (length p) (λ k h. constructor_below p k h.constructor)

package_before_tells : (p : Rows) (t : Table) (o : ℕ) → Decides (plain.is_package_before p t o) ((parent p (o + 1) ≡ o) × (t (o + 1) ≡ Package))
package_before_tells p t o = both (Decides-eqb (parent p (o + 1)) o) (refers_to_package_tells t (o + 1))

may_be_package_tells : (k : NameKind) → Decides (plain.may_be_package k) (MayBePackage k)
may_be_package_tells kind.PackageOrType = always
may_be_package_tells kind.Ambiguous = always
may_be_package_tells _ = never

may_be_length_tells : (s : Sought) → Decides (plain.may_be_length s) (MayBeLength s)
may_be_length_tells (sought.Qualified kind.Variable) = always
may_be_length_tells (sought.Qualified kind.Ambiguous) = always
may_be_length_tells sought.FieldOf = always
may_be_length_tells _ = never

module _ (p : Rows) (t : Table) (headed : IsHeaded p) where
  -- ---- names without a dot

  abbrev VisibleAt : Space → Text → ℕ → ℕ → Depth → ℕ × Option ℕ → Type 0
  VisibleAt k x o d r c = Visible p t k x o d r × ((d, level_of (role_at p d) r) ≡ c)

  visible_at_has : (k : Space) (x : Text) (o d : ℕ) (r : Depth) → Has same_candidate (plain.visible_at p t k x o d r) (VisibleAt k x o d r)
  visible_at_has k x o d r = if_has same_candidate candidate_tells (is_visible p t k x o d r) (visible_tells p t headed k x o d r) ((d, level_of (role_at p d) r) ∷ [])
      (one_has same_candidate candidate_tells (d, level_of (role_at p d) r))

  pub visible_through_has : (k : Space) (x : Text) (o : ℕ) → Has same_candidate (plain.visible_through p t k x o) (λ c. VisibleThrough p t k x o c.0 c.1)
  visible_through_has k x o c = like
      (gathered_has same_candidate candidate_tells (λ d c. Declares p k x d × ((r : Depth) × VisibleAt k x o d r c))
      (λ d. if declares p k x d then gathered (depths p) (λ r. plain.visible_at p t k x o d (depth_at r)) else [])
      (λ d. if_has same_candidate candidate_tells (declares p k x d) (declares_tells p k x d) (gathered (depths p) (λ r. plain.visible_at p t k x o d (depth_at r)))
      (each_depth_has same_candidate candidate_tells p (VisibleAt k x o d) (λ r. plain.visible_at p t k x o d r) (visible_at_has k x o d)
      (λ s c h. depth_below p t headed k x o d s h.0.in_scope)))
      (length p) (λ d c h. declares_below p k x d h.0) c)
      (λ h. subst (λ e. VisibleThrough p t k x o e.0 e.1) h.1.1.1.1 (record { depth = h.1.1.0; visible = h.1.1.1.0; through = refl }))
      (λ h. (c.0, (h.visible.in_scope.declares, (h.depth, (h.visible, λ i. (c.0, h.through i))))))

  pub none_tells : (k : Space) (x : Text) (o : ℕ) → Decides (plain.none_in_scope p t k x o) (NoneInScope p t k x o)
  none_tells k x o = like
      (opposite (some (λ d. is_somewhere_in_scope p t k x o d) (λ d. (r : Depth) × InScope p t k x o d r) (λ d. somewhere_tells p t headed k x o d) (length p)
      (λ d h. in_scope_below p t headed k x o d h.0 h.1)))
      (λ h d r k. h (d, (r, k))) (λ h k. h k.0 k.1.0 k.1.1)

  variable_into : {x : Text} {o d : ℕ} {level : Option ℕ} → SimpleCandidate p t x o kind.Variable d level → VisibleThrough p t space.Variable x o d level
  variable_into (SimpleCandidate.variable h) = h

  type_into : {x : Text} {o d : ℕ} {level : Option ℕ} → SimpleCandidate p t x o kind.Type d level → VisibleThrough p t space.Type x o d level
  type_into (SimpleCandidate.type h) = h

  package_into : {x : Text} {o d : ℕ} {level : Option ℕ} → SimpleCandidate p t x o kind.PackageOrType d level → VisibleThrough p t space.Type x o d level
  package_into (SimpleCandidate.package_or_type h) = h

  ambiguous_into : {x : Text} {o d : ℕ} {level : Option ℕ} → SimpleCandidate p t x o kind.Ambiguous d level
      → VisibleThrough p t space.Variable x o d level ⊎ (NoneInScope p t space.Variable x o × VisibleThrough p t space.Type x o d level)
  ambiguous_into (SimpleCandidate.first_variable h) = inl h
  ambiguous_into (SimpleCandidate.then_type none h) = inr (none, h)

  no_simple : {x : Text} {o d : ℕ} {level : Option ℕ} → SimpleCandidate p t x o kind.Package d level → ⊥
  no_simple h = elim h [ ]

  simple_has : (x : Text) (o : ℕ) (k : NameKind) → Has same_candidate (plain.simple_candidates p t x o k) (λ c. SimpleCandidate p t x o k c.0 c.1)
  simple_has x o kind.Variable c = like (visible_through_has space.Variable x o c) (λ h. SimpleCandidate.variable h) variable_into
  simple_has x o kind.Type c = like (visible_through_has space.Type x o c) (λ h. SimpleCandidate.type h) type_into
  simple_has x o kind.PackageOrType c = like (visible_through_has space.Type x o c) (λ h. SimpleCandidate.package_or_type h) package_into
  simple_has x o kind.Ambiguous c = like
      (append_has same_candidate candidate_tells (plain.visible_through p t space.Variable x o) (if plain.none_in_scope p t space.Variable x o then plain.visible_through p t space.Type x o else [])
      (visible_through_has space.Variable x o)
      (if_has same_candidate candidate_tells (plain.none_in_scope p t space.Variable x o) (none_tells space.Variable x o) (plain.visible_through p t space.Type x o) (visible_through_has space.Type x o)) c)
      (⊎_elim (λ h. SimpleCandidate.first_variable h) (λ h. SimpleCandidate.then_type h.0 h.1)) ambiguous_into
  simple_has x o kind.Package c = like never (λ h. absurd h) no_simple

  -- ---- the type or package before a dot

  abbrev TypesBefore : Text → ℕ → ℕ → Type 0
  TypesBefore x o d = ((c : ℕ) × NamesType p t o c × MemberNamed p t space.Type x c d)
      ⊎ (((parent p (o + 1) ≡ o) × (t (o + 1) ≡ Package)) × (TypeOfPackage p (spelled p (o + 1)) d × Declares p space.Type x d))

  types_into : {x : Text} {o d : ℕ} → TypeBefore p t x o d → TypesBefore x o d
  types_into (TypeBefore.member {c = c} n m) = inl (c, n, m)
  types_into {d = d} (TypeBefore.top h k e) = inr ((h.first, h.refers), (subst (λ path. TypeOfPackage p path d) (sym h.spells) k, e))

  types_list : (x : Text) (o : ℕ) → Lists (plain.types_before p t x o) (λ d. TypeBefore p t x o d)
  types_list x o d = like
      (append_has nat_eq Decides-eqb (option_map_or (λ c. members_named p t space.Type x c) (named_type p t o) [])
      (if plain.is_package_before p t o then all_such (length p) (λ d. plain.is_named_type_of_package p (spelled p (o + 1)) x d) else [])
      (found_has nat_eq Decides-eqb (λ c. NamesType p t o c) (λ c d. MemberNamed p t space.Type x c d) (λ c. members_named p t space.Type x c) (λ c. members_named_list p t headed space.Type x c)
      (named_type p t o) (named_finds p t o))
      (if_has nat_eq Decides-eqb (plain.is_package_before p t o) (package_before_tells p t o) (all_such (length p) (λ d. plain.is_named_type_of_package p (spelled p (o + 1)) x d))
      (lists (λ d. plain.is_named_type_of_package p (spelled p (o + 1)) x d) (λ d. TypeOfPackage p (spelled p (o + 1)) d × Declares p space.Type x d)
      (λ d. both (type_of_package_tells p (spelled p (o + 1)) d) (declares_tells p space.Type x d)) (length p) (λ d h. declares_below p space.Type x d h.1))) d)
      (⊎_elim (λ h. TypeBefore.member h.1 h.2) (λ h. TypeBefore.top (record { first = h.0.0; refers = h.0.1; spells = refl }) h.1.0 h.1.1)) types_into

  -- ---- super

  supers_before_list : (o : ℕ) → Lists (plain.supers_before p t o) (λ s. SuperOf p t o s)
  supers_before_list o s = like
      (found_has nat_eq Decides-eqb (λ c. Innermost p o c) (λ c s. HasInstance p o c × Superclass p t c s) (λ c. if has_instance p o c then superclasses p t c else [])
      (λ c. if_has nat_eq Decides-eqb (has_instance p o c) (instance_tells p o c) (superclasses p t c) (superclasses_list p t headed c)) (innermost p o) (innermost_finds p o) s)
      (λ h. record { class = h.0; innermost = h.1; instance = h.2.0; above = h.2.1 }) (λ h. (h.class, h.innermost, (h.instance, h.above)))

  -- ---- calls without a receiver

  abbrev SomeLevel : Text → ℕ → ℕ → Type 0
  SomeLevel x o c = InBody p c o × ((d : ℕ) × MemberNamed p t space.Method x c d)

  level_tells : (x : Text) (o c : ℕ) → Decides (plain.is_method_level p t x o c) (SomeLevel x o c)
  level_tells x o c = both (in_body_tells p c o)
      (some (λ d. is_member_named p t space.Method x c d) (λ d. MemberNamed p t space.Method x c d) (λ d. member_named_tells p t headed space.Method x c d) (length p)
      (λ d h. declares_below p space.Method x d h.declares))

  method_level_finds : (x : Text) (o : ℕ) → Finds (plain.method_level p t x o) (λ c. MethodLevel p t x o c)
  method_level_finds x o c = let h = finds_last (λ c. plain.is_method_level p t x o c) (SomeLevel x o) (level_tells x o) (length p) c in (
    λ e. let k = h.0 e in record { holds = k.1.0; some = k.1.1.0; member = k.1.1.1; innermost = λ e d b m. k.2 e (in_body_below p e o b) (b, (d, m)) },
    λ k. h.1 (in_body_below p c o k.holds, (k.holds, (k.some, k.member)), λ j lt m. k.innermost j m.1.0 m.0 m.1.1),
  )

  imported_methods_list : (x : Text) (o : ℕ) → Lists (plain.imported_methods p t x o) (λ d. ImportedMethod p t x o d)
  imported_methods_list x o = lists (λ d. is_imported p (is_static_import p t) o d && declares p space.Method x d) (λ d. ImportedMethod p t x o d)
      (λ d. like (both (imported_tells p (is_static_import p t) (StaticImport p t) (static_import_tells p t headed) o d) (declares_tells p space.Method x d)) (λ h. record { imported = h.0; declares = h.1 })
      (λ h. (h.imported, h.declares))) (length p) (λ d h. declares_below p space.Method x d h.declares)

  module _ (x : Text) (o : ℕ) (all : List RowType) where
    abbrev AtLevel : ℕ → ℕ × Option ℕ → Type 0
    AtLevel c k = Choice p t c o None all (MemberNamed p t space.Method x c) k.0 × (k.1 ≡ Some c)

    method_out : (c : ℕ) → MethodLevel p t x o c → (k : ℕ × Option ℕ) → AtLevel c k → MethodCandidate p t x o all k.0 k.1
    method_out c level k h = subst (λ l. MethodCandidate p t x o all k.0 l) (sym h.1) (MethodCandidate.member level h.0)

    method_into : (c : ℕ) → ((e : ℕ) → MethodLevel p t x o e → c ≡ e) → MethodLevel p t x o c → (d : ℕ) (level : Option ℕ) → MethodCandidate p t x o all d level → AtLevel c (d, level)
    method_into c one here d _ (MethodCandidate.member {c = e} level h) = subst (λ e. AtLevel c (d, Some e)) (one e level)
        ((subst (λ e. Choice p t e o None all (MemberNamed p t space.Method x e) d) (sym (one e level)) h, refl))
    method_into c one here d _ (MethodCandidate.imported none h) = absurd (none c here)

    imported_out : ((c : ℕ) → MethodLevel p t x o c → ⊥) → (k : ℕ × Option ℕ) → ImportedChoice p t o all (ImportedMethod p t x o) k.0 × (k.1 ≡ None) → MethodCandidate p t x o all k.0 k.1
    imported_out none k h = subst (λ l. MethodCandidate p t x o all k.0 l) (sym h.1) (MethodCandidate.imported none h.0)

    imported_into : ((c : ℕ) → MethodLevel p t x o c → ⊥) → (d : ℕ) (level : Option ℕ) → MethodCandidate p t x o all d level
        → ImportedChoice p t o all (ImportedMethod p t x o) d × (level ≡ None)
    imported_into none d _ (MethodCandidate.member {c = c} level h) = absurd (none c level)
    imported_into none d _ (MethodCandidate.imported other h) = (h, refl)

    methods_by : (found : Option ℕ) → Finds found (λ c. MethodLevel p t x o c) → Has same_candidate (plain.methods_at p t x o all found) (λ k. MethodCandidate p t x o all k.0 k.1)
    methods_by (Some c) finds k = like
        (at_level_has (Some c) (choice p t c o None all (members_named p t space.Method x c))
        (choice_list p t headed c o None all (MemberNamed p t space.Method x c) (members_named p t space.Method x c) (members_named_list p t headed space.Method x c)) k)
        (method_out c ((finds c).0 refl) k) (method_into c (λ e h. same_Some c e ((finds e).1 h)) ((finds c).0 refl) k.0 k.1)
    methods_by None finds k = like
        (at_level_has None (imported_choice p t o all (plain.imported_methods p t x o))
        (imported_choice_list p t headed o all (ImportedMethod p t x o) (plain.imported_methods p t x o) (imported_methods_list x o)) k)
        (imported_out none k) (imported_into none k.0 k.1)
      where
        none : (c : ℕ) → MethodLevel p t x o c → ⊥
        none c h = none-some c ((finds c).1 h)

    pub methods_has : Has same_candidate (plain.methods_at p t x o all (plain.method_level p t x o)) (λ k. MethodCandidate p t x o all k.0 k.1)
    methods_has = methods_by (plain.method_level p t x o) (method_level_finds x o)

  -- ---- creations

  encloses_finds : (o c : ℕ) → Finds (plain.enclosing_new p t o c) (λ e. EnclosesNew p t o c e)
  encloses_finds o c e =
      let h = finds_last (λ e. is_in_body p e o && is_member p t e c) (λ e. InBody p e o × MemberOf p t e c) (λ e. both (in_body_tells p e o) (member_tells p t headed e c)) (length p) e in (
        λ found. let k = h.0 found in record { holds = k.1.0; member = k.1.1; innermost = λ f b m. k.2 f (in_body_below p f o b) (b, m) },
        λ k. h.1 (in_body_below p e o k.holds, (k.holds, k.member), λ j lt m. k.innermost j m.0 m.1),
      )

  new_level_finds : (o c : ℕ) → Finds (plain.new_level p t o c) (λ level. NewLevel p t o c level)
  new_level_finds o c level = (out (is_inner p c) (inner_tells p c) level, into (is_inner p c) (inner_tells p c) level)
    where
      out : (b : Bool) → Decides b (IsInner p c) → (level : Option ℕ) → cond b (option_map Some (plain.enclosing_new p t o c)) (Some None) ≡ Some level → NewLevel p t o c level
      out true d level e = let h = map_some Some (plain.enclosing_new p t o c) level e in
          subst (λ l. NewLevel p t o c l) h.2 (NewLevel.inner (d.0 refl) ((encloses_finds o c h.0).0 h.1))
      out false d level e = subst (λ l. NewLevel p t o c l) (same_Some None level e) (NewLevel.free (λ h. false≢true (d.1 h)))

      into : (b : Bool) → Decides b (IsInner p c) → (level : Option ℕ) → NewLevel p t o c level → cond b (option_map Some (plain.enclosing_new p t o c)) (Some None) ≡ Some level
      into true d _ (NewLevel.free other) = absurd (other (d.0 refl))
      into true d _ (NewLevel.inner {e = e} h k) = ap (option_map Some) ((encloses_finds o c e).1 k)
      into false d _ (NewLevel.free other) = refl
      into false d _ (NewLevel.inner h k) = absurd (false≢true (d.1 h))

  abbrev Creates : ℕ → List RowType → ℕ → ℕ × Option ℕ → Type 0
  Creates o all c k = NewLevel p t o c k.1 × Choice p t c o None all (ConstructorOf p c) k.0

  creations_has : (o : ℕ) (all : List RowType) (c : ℕ) → Has same_candidate (plain.creations p t o all c) (Creates o all c)
  creations_has o all c k = like
      (found_has same_candidate candidate_tells (λ level. NewLevel p t o c level) (λ level k. Choice p t c o None all (ConstructorOf p c) k.0 × (k.1 ≡ level))
      (λ level. at_level level (choice p t c o None all (plain.constructors_of p c)))
      (λ level. at_level_has level (choice p t c o None all (plain.constructors_of p c)) (choice_list p t headed c o None all (ConstructorOf p c) (plain.constructors_of p c) (constructors_list p c)))
      (plain.new_level p t o c) (new_level_finds o c) k)
      (λ h. (subst (λ l. NewLevel p t o c l) (sym h.2.1) h.1, h.2.0)) (λ h. (k.1, h.0, (h.1, refl)))

  called_list : (o : ℕ) (w : ThisOrSuper) → Lists (plain.called_classes p t o w) (λ c. CalledClass p t o w c)
  called_list o which.This c = like
      (found_has nat_eq Decides-eqb (λ c. Innermost p o c) (λ c k. c ≡ k) (λ c. c ∷ []) (λ c. one_has nat_eq Decides-eqb c) (innermost p o) (innermost_finds p o) c)
      (λ h. subst (λ k. CalledClass p t o which.This k) h.2 (CalledClass.this h.1)) this_into
    where
      this_into : {c : ℕ} → CalledClass p t o which.This c → (e : ℕ) × Innermost p o e × (e ≡ c)
      this_into {c} (CalledClass.this h) = (c, h, refl)
  called_list o which.Super s = like
      (found_has nat_eq Decides-eqb (λ c. Innermost p o c) (λ c s. Superclass p t c s) (λ c. superclasses p t c) (λ c. superclasses_list p t headed c) (innermost p o) (innermost_finds p o) s)
      (λ h. CalledClass.super h.1 h.2) super_into
    where
      super_into : {s : ℕ} → CalledClass p t o which.Super s → (c : ℕ) × Innermost p o c × Superclass p t c s
      super_into (CalledClass.super {c = c} h k) = (c, h, k)

  after_by : (l : Label) (o : ℕ) → o < arguments_by l p o
  after_by (is.Call on.Expression) o = let h = headed.tree.nested (o + 1) in omega arith
  after_by (is.Call on.Name) o = let h = headed.tree.nested (o + 1) in omega arith
  after_by is.New o = let h = headed.tree.nested (o + 1) in omega arith
  after_by _ o = omega arith

  module _ (K : ℕ → Type 0) (type_of : Types) (typed : (n : ℕ) → Finds (type_of n) (λ a. TypeOf p t K n a)) where
    -- ---- what stands before a dot

    abbrev ReceiverWays : ℕ → plain.Before → Type 0
    ReceiverWays o r = ((parent p (o + 1) ≡ o) × ((a : RowType) × TypeOf p t K (o + 1) a × ObjectOf p a r)) ⊎ ((c : ℕ) × NamesType p t o c × ((c, None) ≡ r))

    object_out : (o : ℕ) → parent p (o + 1) ≡ o → (a : RowType) → TypeOf p t K (o + 1) a → (r : plain.Before) → ObjectOf p a r → Receiver p t K o r.0 r.1
    object_out o up a h r (inl k) = subst (λ r. Receiver p t K o r.0 r.1) k.2 (Receiver.object up (subst (λ b. TypeOf p t K (o + 1) b) k.1 h))
    object_out o up a h r (inr k) = subst (λ r. Receiver p t K o r.0 r.1) k.3 (Receiver.array_object up (subst (λ b. TypeOf p t K (o + 1) b) k.1.2 h) k.2)

    receiver_out : (o : ℕ) (r : plain.Before) → ReceiverWays o r → Receiver p t K o r.0 r.1
    receiver_out o r (inl h) = object_out o h.0 h.1.0 h.1.1 r h.1.2
    receiver_out o r (inr h) = subst (λ r. Receiver p t K o r.0 r.1) h.2 (Receiver.type h.1)

    receiver_into : (o c : ℕ) (receiver : Option RowType) → Receiver p t K o c receiver → ReceiverWays o (c, receiver)
    receiver_into o c _ (Receiver.object up h) = inl (up, (class_type c, h, inl (c, refl, refl)))
    receiver_into o c _ (Receiver.array_object {dims = dims} {e = e} up h k) = inl (up, (array e (suc dims), h, inr (c, (e, dims, refl), k, refl)))
    receiver_into o c _ (Receiver.type h) = inr (c, h, refl)

    receivers_has : (o : ℕ) → Has plain.same_before (plain.receivers p t type_of o) (λ r. Receiver p t K o r.0 r.1)
    receivers_has o r = like
        (append_has plain.same_before before_tells (plain.objects_before p type_of o) (option_map_or (λ c. (c, None) ∷ []) (named_type p t o) [])
        (if_has plain.same_before before_tells (nat_eq (parent p (o + 1)) o) (Decides-eqb (parent p (o + 1)) o) (option_map_or (λ a. plain.objects_of p a.dims a.element) (type_of (o + 1)) [])
        (found_has plain.same_before before_tells (λ a. TypeOf p t K (o + 1) a) (λ a r. ObjectOf p a r) (λ a. plain.objects_of p a.dims a.element) (λ a. objects_of_has p a.dims a.element)
        (type_of (o + 1)) (typed (o + 1))))
        (found_has plain.same_before before_tells (λ c. NamesType p t o c) (λ c r. (c, None) ≡ r) (λ c. (c, None) ∷ []) (λ c. one_has plain.same_before before_tells (c, None)) (named_type p t o)
        (named_finds p t o)) r)
        (receiver_out o r) (receiver_into o r.0 r.1)

    array_before_tells : (o : ℕ) → Decides (plain.is_array_before p type_of o) (ArrayBefore p t K o)
    array_before_tells o = like
        (both (Decides-eqb (parent p (o + 1)) o) (found_tells (λ a. TypeOf p t K (o + 1) a) (λ a. plain.is_array a.dims) (λ a. (held : Element) × (dims : ℕ) × (a ≡ array held (suc dims))) array_tells
        (type_of (o + 1)) (typed (o + 1))))
        (λ h. record { first = h.0; held = h.1.2.0; dims = h.1.2.1; type = subst (λ a. TypeOf p t K (o + 1) a) h.1.2.2 h.1.1 })
        (λ h. (h.first, (array h.held (suc h.dims), h.type, (h.held, h.dims, refl))))

    members_before_list : (k : Space) (x : Text) (o : ℕ) → Lists (plain.members_before p t type_of k x o) (λ d. MemberBefore p t K k x o d)
    members_before_list k x o d = like
        (flat_has nat_eq Decides-eqb plain.same_before before_tells (λ r. members_named p t k x r.0) (λ r. Receiver p t K o r.0 r.1) (λ r d. MemberNamed p t k x r.0 d)
        (λ r. members_named_list p t headed k x r.0) (plain.receivers p t type_of o) (receivers_has o) d)
        (λ h. record { class = h.0.0; receiver = h.0.1; before = h.1; member = h.2 }) (λ h. ((h.class, h.receiver), h.before, h.member))

    field_into : {x : Text} {o d : ℕ} → QualifiedCandidate p t K x o kind.Variable d → MemberBefore p t K space.Variable x o d
    field_into (QualifiedCandidate.variable h) = h

    after_type_into : {x : Text} {o d : ℕ} → QualifiedCandidate p t K x o kind.Type d → TypeBefore p t x o d
    after_type_into (QualifiedCandidate.type h) = h

    after_package_into : {x : Text} {o d : ℕ} → QualifiedCandidate p t K x o kind.PackageOrType d → TypeBefore p t x o d
    after_package_into (QualifiedCandidate.package_or_type h) = h

    either_into : {x : Text} {o d : ℕ} → QualifiedCandidate p t K x o kind.Ambiguous d
        → MemberBefore p t K space.Variable x o d ⊎ (((e : ℕ) → MemberBefore p t K space.Variable x o e → ⊥) × TypeBefore p t x o d)
    either_into (QualifiedCandidate.first_field h) = inl h
    either_into (QualifiedCandidate.then_type none h) = inr (none, h)

    no_qualified : {x : Text} {o d : ℕ} → QualifiedCandidate p t K x o kind.Package d → ⊥
    no_qualified h = elim h [ ]

    qualified_list : (x : Text) (o : ℕ) (k : NameKind) → Lists (plain.qualified_candidates p t type_of x o k) (λ d. QualifiedCandidate p t K x o k d)
    qualified_list x o kind.Variable d = like (members_before_list space.Variable x o d) (λ h. QualifiedCandidate.variable h) field_into
    qualified_list x o kind.Type d = like (types_list x o d) (λ h. QualifiedCandidate.type h) after_type_into
    qualified_list x o kind.PackageOrType d = like (types_list x o d) (λ h. QualifiedCandidate.package_or_type h) after_package_into
    qualified_list x o kind.Ambiguous d = like
        (or_else_has nat_eq Decides-eqb (plain.members_before p t type_of space.Variable x o) (plain.types_before p t x o) (members_before_list space.Variable x o) (types_list x o) d)
        (⊎_elim (λ h. QualifiedCandidate.first_field h) (λ h. QualifiedCandidate.then_type h.0 h.1)) either_into
    qualified_list x o kind.Package d = like never (λ h. absurd h) no_qualified

    -- ---- candidates

    arguments_are : (o : ℕ) → Finds (plain.arguments p type_of o) (λ all. Arguments p t K o all)
    arguments_are o = arguments_find p t K type_of typed o headed.tree (arguments_by (label p o) p o) (after_by (label p o) o)

    with_arguments_has : (o : ℕ) (Q : List RowType → ℕ × Option ℕ → Type 0) (of : List RowType → plain.Candidates) → ((all : List RowType) → Has same_candidate (of all) (Q all))
        → Has same_candidate (plain.with_arguments p type_of o of) (λ k. (all : List RowType) × Arguments p t K o all × Q all k)
    with_arguments_has o Q of each = found_has same_candidate candidate_tells (λ all. Arguments p t K o all) Q of each (plain.arguments p type_of o) (arguments_are o)

    module _ (o : ℕ) (x : Text) where
      abbrev OfSuper : ℕ × Option ℕ → Type 0
      OfSuper k = ((s : ℕ) × SuperOf p t o s × MemberNamed p t space.Variable x s k.0) × (k.1 ≡ None)

      abbrev OfReceiver : List RowType → ℕ × Option ℕ → Type 0
      OfReceiver all k = ((r : plain.Before) × Receiver p t K o r.0 r.1 × Choice p t r.0 o r.1 all (MemberNamed p t space.Method x r.0) k.0) × (k.1 ≡ None)

      abbrev OfSuperMethod : List RowType → ℕ × Option ℕ → Type 0
      OfSuperMethod all k = ((s : ℕ) × SuperOf p t o s × Choice p t s o None all (MemberNamed p t space.Method x s) k.0) × (k.1 ≡ None)

      abbrev OfCreation : List RowType → ℕ × Option ℕ → Type 0
      OfCreation all k = (c : ℕ) × NamesType p t o c × Creates o all c k

      abbrev OfCalled : ThisOrSuper → List RowType → ℕ × Option ℕ → Type 0
      OfCalled w all k = ((c : ℕ) × CalledClass p t o w c × Choice p t c o None all (ConstructorOf p c) k.0) × (k.1 ≡ None)

      abbrev WithArguments : (List RowType → ℕ × Option ℕ → Type 0) → ℕ × Option ℕ → Type 0
      WithArguments Q k = (all : List RowType) × Arguments p t K o all × Q all k

      -- what a candidate is, where so is sought
      abbrev Ways : Sought → ℕ × Option ℕ → Type 0
      Ways (sought.Simple k) c = SimpleCandidate p t x o k c.0 c.1
      Ways (sought.Qualified k) c = QualifiedCandidate p t K x o k c.0 × (c.1 ≡ None)
      Ways sought.FieldOf c = MemberBefore p t K space.Variable x o c.0 × (c.1 ≡ None)
      Ways sought.SuperField c = OfSuper c
      Ways sought.Method c = WithArguments (λ all k. MethodCandidate p t x o all k.0 k.1) c
      Ways sought.MethodOf c = WithArguments OfReceiver c
      Ways sought.SuperMethod c = WithArguments OfSuperMethod c
      Ways sought.Creation c = WithArguments OfCreation c
      Ways (sought.ConstructorCall w) c = WithArguments (OfCalled w) c
      Ways sought.OwnClass c = BodyOf p c.0 (parent p o) × (c.1 ≡ None)
      Ways sought.Label c = ((r : Depth) × InScope p t space.Label x o c.0 r) × (c.1 ≡ None)
      Ways sought.Nothing c = ⊥

      free : (s : Sought) (c : ℕ × Option ℕ) → c.1 ≡ None → Candidate p t K o x s c.0 None → Candidate p t K o x s c.0 c.1
      free s c e h = subst (λ l. Candidate p t K o x s c.0 l) (sym e) h

      out : (s : Sought) (c : ℕ × Option ℕ) → Ways s c → Candidate p t K o x s c.0 c.1
      out (sought.Simple k) c h = Candidate.simple h
      out (sought.Qualified k) c h = free (sought.Qualified k) c h.1 (Candidate.qualified h.0)
      out sought.FieldOf c h = free sought.FieldOf c h.1 (Candidate.field h.0)
      out sought.SuperField c h = free sought.SuperField c h.1 (Candidate.super_field h.0.1 h.0.2)
      out sought.Method c h = Candidate.method h.1 h.2
      out sought.MethodOf c h = free sought.MethodOf c h.2.1 (Candidate.method_of h.2.0.1 h.1 h.2.0.2)
      out sought.SuperMethod c h = free sought.SuperMethod c h.2.1 (Candidate.super_method h.2.0.1 h.1 h.2.0.2)
      out sought.Creation c h = Candidate.creation h.2.1 h.2.2.0 h.1 h.2.2.1
      out (sought.ConstructorCall w) c h = free (sought.ConstructorCall w) c h.2.1 (Candidate.constructor h.2.0.1 h.1 h.2.0.2)
      out sought.OwnClass c h = free sought.OwnClass c h.1 (Candidate.own_class h.0)
      out sought.Label c h = free sought.Label c h.1 (Candidate.labeled h.0.1)
      out sought.Nothing c h = absurd h

      into : (s : Sought) (d : ℕ) (level : Option ℕ) → Candidate p t K o x s d level → Ways s (d, level)
      into _ d level (Candidate.simple h) = h
      into _ d _ (Candidate.qualified h) = (h, refl)
      into _ d _ (Candidate.field h) = (h, refl)
      into _ d _ (Candidate.super_field {s = s} a b) = ((s, a, b), refl)
      into _ d level (Candidate.method {all = all} a h) = (all, a, h)
      into _ d _ (Candidate.method_of {c = c} {receiver = receiver} {all = all} r a h) = (all, a, (((c, receiver), r, h), refl))
      into _ d _ (Candidate.super_method {s = s} {all = all} u a h) = (all, a, ((s, u, h), refl))
      into _ d level (Candidate.creation {c = c} {all = all} n l a h) = (all, a, (c, n, (l, h)))
      into _ d _ (Candidate.constructor {c = c} {all = all} k a h) = (all, a, ((c, k, h), refl))
      into _ d _ (Candidate.own_class h) = (h, refl)
      into _ d _ (Candidate.labeled {depth = depth} h) = ((depth, h), refl)

      ways_has : (s : Sought) → Has same_candidate (plain.candidates p t type_of o x s) (Ways s)
      ways_has (sought.Simple k) = simple_has x o k
      ways_has (sought.Qualified k) = at_level_has None (plain.qualified_candidates p t type_of x o k) (qualified_list x o k)
      ways_has sought.FieldOf = at_level_has None (plain.members_before p t type_of space.Variable x o) (members_before_list space.Variable x o)
      ways_has sought.SuperField = at_level_has None (flat_map (λ s. members_named p t space.Variable x s) (plain.supers_before p t o))
          (flat_has nat_eq Decides-eqb nat_eq Decides-eqb (λ s. members_named p t space.Variable x s) (λ s. SuperOf p t o s) (λ s d. MemberNamed p t space.Variable x s d)
          (λ s. members_named_list p t headed space.Variable x s) (plain.supers_before p t o) (supers_before_list o))
      ways_has sought.Method = with_arguments_has o (λ all k. MethodCandidate p t x o all k.0 k.1) (λ all. plain.methods_at p t x o all (plain.method_level p t x o)) (λ all. methods_has x o all)
      ways_has sought.MethodOf = with_arguments_has o OfReceiver
          (λ all. at_level None (flat_map (λ r. choice p t r.0 o r.1 all (members_named p t space.Method x r.0)) (plain.receivers p t type_of o)))
          (λ all. at_level_has None (flat_map (λ r. choice p t r.0 o r.1 all (members_named p t space.Method x r.0)) (plain.receivers p t type_of o))
          (flat_has nat_eq Decides-eqb plain.same_before before_tells (λ r. choice p t r.0 o r.1 all (members_named p t space.Method x r.0)) (λ r. Receiver p t K o r.0 r.1)
          (λ r d. Choice p t r.0 o r.1 all (MemberNamed p t space.Method x r.0) d)
          (λ r. choice_list p t headed r.0 o r.1 all (MemberNamed p t space.Method x r.0) (members_named p t space.Method x r.0) (members_named_list p t headed space.Method x r.0))
          (plain.receivers p t type_of o) (receivers_has o)))
      ways_has sought.SuperMethod = with_arguments_has o OfSuperMethod
          (λ all. at_level None (flat_map (λ s. choice p t s o None all (members_named p t space.Method x s)) (plain.supers_before p t o)))
          (λ all. at_level_has None (flat_map (λ s. choice p t s o None all (members_named p t space.Method x s)) (plain.supers_before p t o))
          (flat_has nat_eq Decides-eqb nat_eq Decides-eqb (λ s. choice p t s o None all (members_named p t space.Method x s)) (λ s. SuperOf p t o s)
          (λ s d. Choice p t s o None all (MemberNamed p t space.Method x s) d)
          (λ s. choice_list p t headed s o None all (MemberNamed p t space.Method x s) (members_named p t space.Method x s) (members_named_list p t headed space.Method x s))
          (plain.supers_before p t o) (supers_before_list o)))
      ways_has sought.Creation = with_arguments_has o OfCreation (λ all. option_map_or (λ c. plain.creations p t o all c) (named_type p t o) [])
          (λ all. found_has same_candidate candidate_tells (λ c. NamesType p t o c) (λ c. Creates o all c) (λ c. plain.creations p t o all c) (λ c. creations_has o all c) (named_type p t o) (named_finds p t o))
      ways_has (sought.ConstructorCall w) = with_arguments_has o (OfCalled w)
          (λ all. at_level None (flat_map (λ c. choice p t c o None all (plain.constructors_of p c)) (plain.called_classes p t o w)))
          (λ all. at_level_has None (flat_map (λ c. choice p t c o None all (plain.constructors_of p c)) (plain.called_classes p t o w))
          (flat_has nat_eq Decides-eqb nat_eq Decides-eqb (λ c. choice p t c o None all (plain.constructors_of p c)) (λ c. CalledClass p t o w c)
          (λ c d. Choice p t c o None all (ConstructorOf p c) d)
          (λ c. choice_list p t headed c o None all (ConstructorOf p c) (plain.constructors_of p c) (constructors_list p c)) (plain.called_classes p t o w) (called_list o w)))
      ways_has sought.OwnClass = at_level_has None (all_such (length p) (λ c. is_body_of p c (parent p o)))
          (lists (λ c. is_body_of p c (parent p o)) (λ c. BodyOf p c (parent p o)) (λ c. body_tells p c (parent p o)) (length p) (λ c h. type_below p c h.type))
      ways_has sought.Label = at_level_has None (all_such (length p) (λ d. is_somewhere_in_scope p t space.Label x o d))
          (lists (λ d. is_somewhere_in_scope p t space.Label x o d) (λ d. (r : Depth) × InScope p t space.Label x o d r) (λ d. somewhere_tells p t headed space.Label x o d) (length p)
          (λ d h. in_scope_below p t headed space.Label x o d h.0 h.1))
      ways_has sought.Nothing = λ c. never

      pub candidates_tell : (s : Sought) (d : ℕ) (level : Option ℕ) → Decides (is_candidate (plain.candidates p t type_of o x s) d level) (Candidate p t K o x s d level)
      candidates_tell s d level = like (ways_has s (d, level)) (out s (d, level)) (into s d level)

      -- ---- where there is none

      simple_package_into : {k : NameKind} → IsPackageName p t o (sought.Simple k) → MayBePackage k
      simple_package_into (IsPackageName.simple h) = h

      qualified_package_into : {k : NameKind} → IsPackageName p t o (sought.Qualified k) → MayBePackage k × ((parent p (o + 1) ≡ o) × (t (o + 1) ≡ Package))
      qualified_package_into (IsPackageName.qualified h b) = (h, (b.first, b.refers))

      package_name_tells : (s : Sought) → Decides (plain.is_package_name p t o s) (IsPackageName p t o s)
      package_name_tells (sought.Simple k) = like (may_be_package_tells k) (λ h. IsPackageName.simple h) simple_package_into
      package_name_tells (sought.Qualified k) = like (both (may_be_package_tells k) (package_before_tells p t o))
          (λ h. IsPackageName.qualified h.0 (record { first = h.1.0; refers = h.1.1; spells = refl })) qualified_package_into
      package_name_tells sought.Nothing = like never (λ h. absurd h) (λ h. elim h [ ])
      package_name_tells sought.FieldOf = like never (λ h. absurd h) (λ h. elim h [ ])
      package_name_tells sought.SuperField = like never (λ h. absurd h) (λ h. elim h [ ])
      package_name_tells sought.Method = like never (λ h. absurd h) (λ h. elim h [ ])
      package_name_tells sought.MethodOf = like never (λ h. absurd h) (λ h. elim h [ ])
      package_name_tells sought.SuperMethod = like never (λ h. absurd h) (λ h. elim h [ ])
      package_name_tells sought.Creation = like never (λ h. absurd h) (λ h. elim h [ ])
      package_name_tells (sought.ConstructorCall w) = like never (λ h. absurd h) (λ h. elim h [ ])
      package_name_tells sought.OwnClass = like never (λ h. absurd h) (λ h. elim h [ ])
      package_name_tells sought.Label = like never (λ h. absurd h) (λ h. elim h [ ])

      length_tells : (s : Sought) → Decides (plain.is_length p type_of o x s) (IsLength p t K o x s)
      length_tells s = like (both (both (may_be_length_tells s) (array_before_tells o)) (bytes_eq-Decides x (codes "length")))
          (λ h. record { allowed = h.0.0; array = h.0.1; named = h.1 }) (λ h. ((h.allowed, h.array), h.named))

      pub otherwise_is : (s : Sought) → Otherwise p t K o x s (plain.otherwise p t type_of o x s)
      otherwise_is s = by (plain.is_package_name p t o s) (package_name_tells s) (plain.is_length p type_of o x s) (length_tells s)
        where
          by : (b : Bool) → Decides b (IsPackageName p t o s) → (c : Bool) → Decides c (IsLength p t K o x s) → Otherwise p t K o x s (cond b Package (cond c ArrayLength Unbound))
          by true d c e = Otherwise.package_name (d.0 refl)
          by false d true e = Otherwise.length (λ h. false≢true (d.1 h)) (e.0 refl)
          by false d false e = Otherwise.unbound (λ h. false≢true (d.1 h)) (λ h. false≢true (e.1 h))

      pub look_for_is : (s : Sought) → LookFor p t K o x s (plain.look_for p t type_of o x s)
      look_for_is s = answer_is (Candidate p t K o x s) (Otherwise p t K o x s) (plain.candidates p t type_of o x s) (candidates_tell s) (plain.otherwise p t type_of o x s) (λ none. otherwise_is s)

      pub look_for_finds : (s : Sought) (a : Referent) → LookFor p t K o x s a → a ≡ plain.look_for p t type_of o x s
      look_for_finds s a h = answer_finds (Candidate p t K o x s) (Otherwise p t K o x s) (plain.candidates p t type_of o x s) (candidates_tell s) (otherwise_one p t K o x s)
          (plain.otherwise p t type_of o x s) (λ none. otherwise_is s) a h
