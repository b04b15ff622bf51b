-- The test of all rules on members tells what it is to tell, and where a rule is broken there is a row.
use Rattle.std.proofs.Common.{◌≡◌, ◌⊎◌, refl, sym, subst, inl, inr, ⊎_elim, arith, ℕ, not, ◌<◌, Bool, true, false, List, ◌++◌, length, nat_eq, IsTrue, Option, Decides}
use Rattle.std.specs.List.{list_any}
use Rattle.std.proofs.lemmas.Bool.{false≢true}
use Rattle.std.proofs.lemmas.Bool.Decides.{Decides-eqb}
use Rattle.jr_base.specs.declared.constant.Const.{Const}
use Rattle.jr_tree.specs.declared.label.Label.TheVariants as is
use Rattle.jr_tree.specs.declared.label.Role.TheVariants as role
use Rattle.jr_tree.specs.Rows.{Rows, label, parent, role_at}
use Rattle.jr_tree.specs.Tree.{IsTree}
use Rattle.jr_defs.specs.declared.referent.Referent.TheVariants.{Declared}
use Rattle.jr_defs.specs.Referents.{Table}
use Rattle.jr_defs.specs.Declarations.{IsType, IsClass, IsInterface}
use Rattle.jr_defs.specs.Enclosing.{DeclaredIn, ConstructorOf, BodyOf}
use Rattle.jr_defs.specs.Modifiers.{written, IsStatic, IsAbstract, InInterface, IsInner}
use Rattle.jr_defs.specs.Supertypes.{SuperAt, Above}
use Rattle.jr_defs.specs.Members.{SameMethods, MemberOf}
use Rattle.jr_defs.specs.Overriding.{Overrides, Found}
use Rattle.jr_defs.specs.Overloads.{ResultFits}
use Rattle.jr_defs.specs.Constants.{ConstantVariable, HasConstantForm, Constant}
use Rattle.jr_defs.specs.MemberRules.{Hides, RedefinesMethod, IsOtherName, IsChecked, Allows, Implemented, InheritsBoth, IsInitializer, HasInitializer, BreaksMembers}
use Rattle.jr_plain.specs.Search.{has, among, Finds}
use Rattle.jr_plain.specs.Headed.{IsHeaded}
use Rattle.jr_plain.specs.Same.{same_pair}
use Rattle.jr_plain.specs.Overriding.{overriding}
use Rattle.jr_plain.specs.Conversions.{Constants}
use Rattle.jr_plain.specs.Typing.{IsTypable}
use Rattle.jr_plain.proofs.Tests.{never, either, opposite, like}
use Rattle.jr_plain.proofs.Searches.{every, some_item, among_append}
use Rattle.jr_plain.proofs.Bounds.{bounded, type_below, class_below, interface_below, constructor_below, member_below}
use Rattle.jr_plain.proofs.Children.{parent_below}
use Rattle.jr_plain.proofs.Membership.{member_source}
use Rattle.jr_plain.proofs.Dispatched.{overrides_tells}
use Rattle.jr_plain.proofs.Supertyped.{superclass_name_below, superinterface_name_below}
use Rattle.jr_member_rules.specs.Redefining.{Pairs}
use Rattle.jr_member_rules.specs.Bodies.{stands_wrong}
use Rattle.jr_member_rules.specs.Inner.{is_static_there}
use Rattle.jr_member_rules.specs.Computed.{values, leaves_methods, results_do_not_fit, access_is_narrowed, methods_are_mixed, more_is_thrown, rule_if, broken_at, breaks_members, keeps_members}
use Rattle.jr_member_rules.proofs.Redefined.{IsNarrower, method_row, redefining_row, other_result_tells, narrowed_tells, mixed_tells, over_final_tells}
use Rattle.jr_member_rules.proofs.Thrown.{throws_more_tells}
use Rattle.jr_member_rules.proofs.Inherited.{leaves_tells, leaves_unfound_tells, no_common_result_tells, no_abstract_result_tells, inherits_narrower_tells, inherits_static_tells, inherits_throwing_tells}
use Rattle.jr_member_rules.proofs.Bodied.{HasBodyThere, LacksBody, IsNamedOtherwise, IsAbstractInClass, wrong_body_tells, named_otherwise_tells, abstract_in_class_tells, constructor_in_interface_tells, initializer_in_interface_tells, not_initialized_tells}
use Rattle.jr_member_rules.proofs.Inner.{values_find, static_in_inner_tells, initializer_in_inner_tells}

-- ---- the rows where rules are broken

-- what has a supertype is a row
super_row : (p : Rows) (t : Table) → IsTree p → {c n s : ℕ} → SuperAt p t c n s → c < length p
super_row p t tree (SuperAt.class {n = n} k e) = subst (λ m. m < length p) k.inside (parent_below p tree n (superclass_name_below p _ n k))
super_row p t tree {c = c} (SuperAt.implied i o) = class_below p c i.class
super_row p t tree (SuperAt.interface {n = n} k e) = subst (λ m. m < length p) k.inside (parent_below p tree n (superinterface_name_below p _ n k))

-- what has a member is a row
holder_row : (p : Rows) (t : Table) → IsTree p → {c m : ℕ} → MemberOf p t c m → c < length p
holder_row p t tree {c = c} (MemberOf.declared h) = type_below p c h.inside.type
holder_row p t tree (MemberOf.inherited h more a b left) = super_row p t tree h.at
holder_row p t tree {c = c} (MemberOf.of_object i h left) = interface_below p c i

overriding_row : (p : Rows) (t : Table) {m k : ℕ} → Overrides p t m k → m < length p
overriding_row p t h = redefining_row (RedefinesMethod.overriding h)

initializer_row : (p : Rows) (k : ℕ) → IsInitializer (label p k) → k < length p
initializer_row p k h = bounded IsInitializer (λ h. h) p k h

pub breaking_row : (p : Rows) (t : Table) → IsTree p → {rule n : ℕ} → BreaksMembers p t rule n → n < length p
breaking_row p t tree (BreaksMembers.not_implemented {c = c} class a member e b lacking) = class_below p c class
breaking_row p t tree (BreaksMembers.not_found {c = c} class a above s declares e b found d) = class_below p c class
breaking_row p t tree (BreaksMembers.other_result redefines lacking) = redefining_row redefines
breaking_row p t tree (BreaksMembers.no_common_result both a lacking) = holder_row p t tree both.first
breaking_row p t tree (BreaksMembers.no_abstract_result {c = c} type member e each) = type_below p c type
breaking_row p t tree (BreaksMembers.narrowed redefines x y lt) = redefining_row redefines
breaking_row p t tree (BreaksMembers.inherited_narrows both a x y lt) = holder_row p t tree both.first
breaking_row p t tree (BreaksMembers.static_over_instance hides a) = redefining_row (RedefinesMethod.hiding hides)
breaking_row p t tree (BreaksMembers.instance_over_static over a) = overriding_row p t over
breaking_row p t tree (BreaksMembers.inherited_static both a b) = holder_row p t tree both.first
breaking_row p t tree (BreaksMembers.over_final redefines a) = redefining_row redefines
breaking_row p t tree (BreaksMembers.throws_more redefines a b c) = redefining_row redefines
breaking_row p t tree (BreaksMembers.inherited_throws both a thrown checked lacking) = holder_row p t tree both.first
breaking_row p t tree (BreaksMembers.body_of_abstract {m = m} e a b) = method_row p m e
breaking_row p t tree (BreaksMembers.no_body {m = m} e a b c) = method_row p m e
breaking_row p t tree (BreaksMembers.constructor_named_otherwise {k = k} h e a) = constructor_below p k h.constructor
breaking_row p t tree (BreaksMembers.abstract_in_class {m = m} h a b e c) = method_row p m e
breaking_row p t tree (BreaksMembers.constructor_in_interface {k = k} h a) = constructor_below p k h.constructor
breaking_row p t tree (BreaksMembers.initializer_in_interface {k = k} h a e i) = initializer_row p k i
breaking_row p t tree (BreaksMembers.field_not_initialized {d = d} e h a) = let i = h.declared in member_below p d i.member
breaking_row p t tree (BreaksMembers.static_in_inner {d = d} h i s a) = member_below p d i.member
breaking_row p t tree (BreaksMembers.static_initializer_in_inner {k = k} h i e l) = initializer_row p k (subst IsInitializer (sym l) tt)

-- ---- the list of rules

-- a rule that is broken is the one
rule_tells : {P : Type 0} (b : Bool) (k rule : ℕ) → Decides b P → Decides (has (rule_if b k) rule) ((k ≡ rule) × P)
rule_tells true k rule d = like (either (Decides-eqb k rule) never) (⊎_elim (λ e. (e, d.0 refl)) (λ h. absurd h)) (λ h. inl h.0)
rule_tells false k rule d = like never (λ h. absurd h) (λ h. false≢true (d.1 h.1))

-- a rule of the first list or of those behind it
or_tells : {P Q : Type 0} (first others : List ℕ) (rule : ℕ) → Decides (has first rule) P → Decides (has others rule) Q → Decides (has (first ++ others) rule) (P ⊎ Q)
or_tells first others rule p q = like (among_append nat_eq Decides-eqb first others rule) (⊎_elim (λ h. inl (p.0 h)) (λ h. inr (q.0 h))) (⊎_elim (λ h. inl (p.1 h)) (λ h. inr (q.1 h)))

module _ (p : Rows) (t : Table) where
  -- how each rule is broken at the row n
  abbrev LeavesMember : ℕ → Type 0
  LeavesMember n = (IsClass p n × (IsAbstract p n → ⊥)) × ((m : ℕ) × MemberOf p t n m × (((role_at p m ≡ role.Method) × IsAbstract p m) × (Implemented p t n m → ⊥)))

  abbrev LeavesUnfound : ℕ → Type 0
  LeavesUnfound n = (IsClass p n × (IsAbstract p n → ⊥)) × ((m : ℕ) × (((role_at p m ≡ role.Method) × IsAbstract p m)
      × (((s : ℕ) × DeclaredIn p s m × (IsClass p s × Above p t n s)) × ((f : ℕ) × (IsAbstract p f × Found p t n m f)))))

  abbrev Leaves : ℕ → Type 0
  Leaves n = LeavesMember n ⊎ LeavesUnfound n

  -- the type inherits a method beside another
  abbrev Beside : (ℕ → Type 0) → (ℕ → ℕ → Type 0) → ℕ → Type 0
  Beside First Two n = IsType p n × ((m : ℕ) × MemberOf p t n m × (First m × ((k : ℕ) × InheritsBoth p t n m k × Two m k)))

  abbrev OtherResult : ℕ → Type 0
  OtherResult n = (k : ℕ) × RedefinesMethod p t n k × (ResultFits p t n k → ⊥)

  abbrev Disagreeing : ℕ → ℕ → Type 0
  Disagreeing n m = (k : ℕ) × InheritsBoth p t n m k × (ResultFits p t m k → ⊥)

  abbrev NoCommon : ℕ → Type 0
  NoCommon n = IsType p n × ((m : ℕ) × MemberOf p t n m × ((IsAbstract p m → ⊥) × Disagreeing n m))

  abbrev NoAbstract : ℕ → Type 0
  NoAbstract n = IsType p n × ((m : ℕ) × MemberOf p t n m × ((role_at p m ≡ role.Method) × ((k : ℕ) → MemberOf p t n k → SameMethods p t k m → IsAbstract p k × Disagreeing n k)))

  abbrev Results : ℕ → Type 0
  Results n = OtherResult n ⊎ (NoCommon n ⊎ NoAbstract n)

  abbrev Narrowed : ℕ → Type 0
  Narrowed n = ((k : ℕ) × RedefinesMethod p t n k × IsNarrower p n k) ⊎ Beside (λ m. IsAbstract p m → ⊥) (λ m k. IsNarrower p m k) n

  abbrev Mixed : ℕ → Type 0
  Mixed n = (((k : ℕ) × Hides p t n k × (IsStatic p k → ⊥)) ⊎ ((k : ℕ) × Overrides p t n k × IsStatic p k)) ⊎ Beside (λ m. IsStatic p m) (λ m k. IsStatic p k → ⊥) n

  abbrev OverFinal : ℕ → Type 0
  OverFinal n = (k : ℕ) × RedefinesMethod p t n k × IsTrue (written (label p k)).is_final

  abbrev DeclaresMore : ℕ → ℕ → Type 0
  DeclaresMore m k = (o : ℕ) × (((parent p o ≡ m) × IsOtherName (label p o)) × ((c : ℕ) × ((level : Option ℕ) × (t o ≡ Declared c level)) × (IsChecked p t c × (Allows p t k c → ⊥))))

  abbrev ThrowsMore : ℕ → Type 0
  ThrowsMore n = ((k : ℕ) × RedefinesMethod p t n k × DeclaresMore n k) ⊎ Beside (λ m. IsAbstract p m → ⊥) DeclaresMore n

  abbrev Stands : ℕ → Type 0
  Stands n = ((role_at p n ≡ role.Method) × (HasBodyThere p n ⊎ LacksBody p n)) ⊎ (IsNamedOtherwise p n ⊎ (IsAbstractInClass p n ⊎ (((c : ℕ) × ConstructorOf p c n × IsInterface p c)
      ⊎ ((IsInitializer (label p n) × ((c : ℕ) × BodyOf p c (parent p n) × IsInterface p c)) ⊎ (((role_at p n ≡ role.Field) × InInterface p n) × (HasInitializer p n → ⊥))))))

  abbrev Statics : ℕ → Type 0
  Statics n = ((((c : ℕ) × DeclaredIn p c n × IsInner p c) × IsStatic p n) × (((v : Const) × ConstantVariable p t (HasConstantForm p t) n v) → ⊥))
      ⊎ ((label p n ≡ is.Initializer true) × ((c : ℕ) × BodyOf p c (parent p n) × IsInner p c))

  abbrev Ways : ℕ → ℕ → Type 0
  Ways rule n = ((14 ≡ rule) × Leaves n) ⊎ (((15 ≡ rule) × Results n) ⊎ (((16 ≡ rule) × Narrowed n) ⊎ (((17 ≡ rule) × Mixed n) ⊎ (((18 ≡ rule) × OverFinal n)
      ⊎ (((19 ≡ rule) × ThrowsMore n) ⊎ (((20 ≡ rule) × Stands n) ⊎ ((21 ≡ rule) × Statics n)))))))

  -- ---- each way breaks the rule

  moved : {k rule n : ℕ} → k ≡ rule → BreaksMembers p t k n → BreaksMembers p t rule n
  moved {n = n} e h = subst (λ r. BreaksMembers p t r n) e h

  leaves_out : {n : ℕ} → Leaves n → BreaksMembers p t 14 n
  leaves_out (inl h) = let m = h.1 in BreaksMembers.not_implemented h.0.0 h.0.1 m.1 m.2.0.0 m.2.0.1 m.2.1
  leaves_out (inr h) = let m = h.1.1 in let s = m.1.0 in let f = m.1.1 in BreaksMembers.not_found h.0.0 h.0.1 s.2.1 s.2.0 s.1 m.0.0 m.0.1 f.1.1 f.1.0

  results_out : {n : ℕ} → Results n → BreaksMembers p t 15 n
  results_out (inl h) = BreaksMembers.other_result h.1 h.2
  results_out (inr (inl h)) = let d = h.1.2.1 in BreaksMembers.no_common_result d.1 h.1.2.0 d.2
  results_out (inr (inr h)) = BreaksMembers.no_abstract_result h.0 h.1.1 h.1.2.0 h.1.2.1

  narrowed_out : {n : ℕ} → Narrowed n → BreaksMembers p t 16 n
  narrowed_out (inl h) = let w = h.2 in BreaksMembers.narrowed h.1 w.1 w.2.1 w.2.2
  narrowed_out (inr h) = let m = h.1.2 in let w = m.1.2 in BreaksMembers.inherited_narrows m.1.1 m.0 w.1 w.2.1 w.2.2

  mixed_out : {n : ℕ} → Mixed n → BreaksMembers p t 17 n
  mixed_out (inl (inl h)) = BreaksMembers.static_over_instance h.1 h.2
  mixed_out (inl (inr h)) = BreaksMembers.instance_over_static h.1 h.2
  mixed_out (inr h) = let m = h.1.2 in BreaksMembers.inherited_static m.1.1 m.0 m.1.2

  throws_out : {n : ℕ} → ThrowsMore n → BreaksMembers p t 19 n
  throws_out (inl h) = let thrown = h.2.1.0 in let one = h.2.1.1 in
      BreaksMembers.throws_more {n = h.2.0} h.1 (record { inside = thrown.0; named = thrown.1; level = one.1.0; refers = one.1.1 }) one.2.0 one.2.1
  throws_out (inr h) = let m = h.1.2 in let more = m.1.2 in let thrown = more.1.0 in let one = more.1.1 in
      BreaksMembers.inherited_throws {n = more.0} m.1.1 m.0 (record { inside = thrown.0; named = thrown.1; level = one.1.0; refers = one.1.1 }) one.2.0 one.2.1

  stands_out : {n : ℕ} → Stands n → BreaksMembers p t 20 n
  stands_out (inl h) = ⊎_elim (λ b. BreaksMembers.body_of_abstract h.0 b.0 b.1) (λ b. BreaksMembers.no_body h.0 b.0.0 b.0.1 b.1) h.1
  stands_out (inr (inl h)) = BreaksMembers.constructor_named_otherwise h.1.1 h.0.1 h.1.2
  stands_out (inr (inr (inl h))) = BreaksMembers.abstract_in_class h.1.1 h.1.2.0 h.1.2.1 h.0.0 h.0.1
  stands_out (inr (inr (inr (inl h)))) = BreaksMembers.constructor_in_interface h.1 h.2
  stands_out (inr (inr (inr (inr (inl h))))) = BreaksMembers.initializer_in_interface h.1.1 h.1.2 refl h.0
  stands_out (inr (inr (inr (inr (inr h))))) = BreaksMembers.field_not_initialized h.0.0 h.0.1 h.1

  statics_out : {n : ℕ} → Statics n → BreaksMembers p t 21 n
  statics_out (inl h) = BreaksMembers.static_in_inner h.0.0.2 h.0.0.1 h.0.1 (λ v k. h.1 (v, k))
  statics_out (inr h) = BreaksMembers.static_initializer_in_inner h.1.2 h.1.1 refl h.0

  ways_out : (rule n : ℕ) → Ways rule n → BreaksMembers p t rule n
  ways_out rule n (inl h) = moved h.0 (leaves_out h.1)
  ways_out rule n (inr (inl h)) = moved h.0 (results_out h.1)
  ways_out rule n (inr (inr (inl h))) = moved h.0 (narrowed_out h.1)
  ways_out rule n (inr (inr (inr (inl h)))) = moved h.0 (mixed_out h.1)
  ways_out rule n (inr (inr (inr (inr (inl h))))) = moved h.0 (BreaksMembers.over_final h.1.1 h.1.2)
  ways_out rule n (inr (inr (inr (inr (inr (inl h)))))) = moved h.0 (throws_out h.1)
  ways_out rule n (inr (inr (inr (inr (inr (inr (inl h))))))) = moved h.0 (stands_out h.1)
  ways_out rule n (inr (inr (inr (inr (inr (inr (inr h))))))) = moved h.0 (statics_out h.1)

  -- ---- and the rule is broken in one of the ways

  by_result : {n : ℕ} → Results n → Ways 15 n
  by_result h = inr (inl (refl, h))

  by_access : {n : ℕ} → Narrowed n → Ways 16 n
  by_access h = inr (inr (inl (refl, h)))

  by_mixture : {n : ℕ} → Mixed n → Ways 17 n
  by_mixture h = inr (inr (inr (inl (refl, h))))

  by_throwing : {n : ℕ} → ThrowsMore n → Ways 19 n
  by_throwing h = inr (inr (inr (inr (inr (inl (refl, h))))))

  by_place : {n : ℕ} → Stands n → Ways 20 n
  by_place h = inr (inr (inr (inr (inr (inr (inl (refl, h)))))))

  by_static : {n : ℕ} → Statics n → Ways 21 n
  by_static h = inr (inr (inr (inr (inr (inr (inr (refl, h)))))))

  module _ (tree : IsTree p) (source : (c m : ℕ) → MemberOf p t c m → IsType p c) where
    ways_in : {rule n : ℕ} → BreaksMembers p t rule n → Ways rule n
    ways_in (BreaksMembers.not_implemented {m = m} class a member e b lacking) = inl (refl, inl ((class, a), (m, member, ((e, b), lacking))))
    ways_in (BreaksMembers.not_found {s = s} {m = m} {f = f} class a above is_class declares e b found d) = inl (refl, inr ((class, a), (m, ((e, b), ((s, declares, (is_class, above)), (f, (d, found)))))))
    ways_in (BreaksMembers.other_result {k = k} over lacking) = by_result (inl (k, over, lacking))
    ways_in (BreaksMembers.no_common_result {c = c} {m = m} {k = k} both a lacking) = by_result (inr (inl (source c m both.first, (m, both.first, (a, (k, both, lacking))))))
    ways_in (BreaksMembers.no_abstract_result {m = m} type member e each) = by_result (inr (inr (type, (m, member, (e, each)))))
    ways_in (BreaksMembers.narrowed {k = k} {a = a} {b = b} h x y lt) = by_access (inl (k, h, (a, x, (b, y, lt))))
    ways_in (BreaksMembers.inherited_narrows {c = c} {m = m} {k = k} {a = a} {b = b} both concrete x y lt) =
        by_access (inr (source c m both.first, (m, both.first, (concrete, (k, both, (a, x, (b, y, lt)))))))
    ways_in (BreaksMembers.static_over_instance {k = k} h a) = by_mixture (inl (inl (k, h, a)))
    ways_in (BreaksMembers.instance_over_static {k = k} h a) = by_mixture (inl (inr (k, h, a)))
    ways_in (BreaksMembers.inherited_static {c = c} {m = m} {k = k} both a b) = by_mixture (inr (source c m both.first, (m, both.first, (a, (k, both, b)))))
    ways_in (BreaksMembers.over_final {k = k} h a) = inr (inr (inr (inr (inl (refl, (k, h, a))))))
    ways_in (BreaksMembers.throws_more {k = k} {n = o} {c = c} h thrown checked lacking) =
        by_throwing (inl (k, h, (o, ((thrown.inside, thrown.named), (c, (thrown.level, thrown.refers), (checked, lacking))))))
    ways_in (BreaksMembers.inherited_throws {c = c} {m = m} {k = k} {n = o} {e = e} both a thrown checked lacking) =
        by_throwing (inr (source c m both.first, (m, both.first, (a, (k, both, (o, ((thrown.inside, thrown.named), (e, (thrown.level, thrown.refers), (checked, lacking)))))))))
    ways_in (BreaksMembers.body_of_abstract e a b) = by_place (inl (e, inl (a, b)))
    ways_in (BreaksMembers.no_body e a b c) = by_place (inl (e, inr ((a, b), c)))
    ways_in (BreaksMembers.constructor_named_otherwise {c = c} {modifiers = modifiers} h e a) = by_place (inr (inl ((modifiers, e), (c, h, a))))
    ways_in (BreaksMembers.abstract_in_class {c = c} h a b e d) = by_place (inr (inr (inl ((e, d), (c, h, (a, b))))))
    ways_in (BreaksMembers.constructor_in_interface {c = c} h i) = by_place (inr (inr (inr (inl (c, h, i)))))
    ways_in (BreaksMembers.initializer_in_interface {c = c} h i e l) = by_place (inr (inr (inr (inr (inl (l, (c, subst (λ b. BodyOf p c b) (sym e) h, i)))))))
    ways_in (BreaksMembers.field_not_initialized e h a) = by_place (inr (inr (inr (inr (inr ((e, h), a))))))
    ways_in (BreaksMembers.static_in_inner {c = c} i h s a) = by_static (inl (((c, h, i), s), λ k. a k.0 k.1))
    ways_in (BreaksMembers.static_initializer_in_inner {c = c} i h e l) = by_static (inr (l, (c, subst (λ b. BodyOf p c b) (sym e) h, i)))

module _ (p : Rows) (t : Table) (headed : IsHeaded p) (constant : Constants) (known : (n : ℕ) → Finds (constant n) (λ v. Constant p t n v))
    (over : Pairs) (pairs : (m k : ℕ) → Decides (among same_pair over (m, k)) (Overrides p t m k)) (n : ℕ) where
  leaves_tell : Decides (leaves_methods p t n) (Leaves p t n)
  leaves_tell = either (leaves_tells p t headed n) (leaves_unfound_tells p t headed n)

  narrowed_tell : Decides (access_is_narrowed p t over n) (Narrowed p t n)
  narrowed_tell = either (narrowed_tells p t headed over pairs n) (inherits_narrower_tells p t headed n)

  mixed_tell : Decides (methods_are_mixed p t over n) (Mixed p t n)
  mixed_tell = either (mixed_tells p t headed over pairs n) (inherits_static_tells p t headed n)

  throwing_tell : Decides (more_is_thrown p t over n) (ThrowsMore p t n)
  throwing_tell = either (throws_more_tells p t headed over pairs n) (inherits_throwing_tells p t headed n)

  results_tell : Decides (results_do_not_fit p t over n) (Results p t n)
  results_tell = either (other_result_tells p t headed over pairs n) (either (no_common_result_tells p t headed n) (no_abstract_result_tells p t headed n))

  stands_tell : Decides (stands_wrong p n) (Stands p t n)
  stands_tell = either (wrong_body_tells p n) (either (named_otherwise_tells p n) (either (abstract_in_class_tells p n) (either (constructor_in_interface_tells p n)
      (either (initializer_in_interface_tells p n) (not_initialized_tells p n)))))

  statics_tell : Decides (is_static_there p t constant n) (Statics p t n)
  statics_tell = either (static_in_inner_tells p t constant known n) (initializer_in_inner_tells p n)

  ways_tell : (rule : ℕ) → Decides (has (broken_at p t constant over n) rule) (Ways p t rule n)
  ways_tell rule = or_tells _ _ rule (rule_tells _ 14 rule leaves_tell)
      (or_tells _ _ rule (rule_tells _ 15 rule results_tell)
      (or_tells _ _ rule (rule_tells _ 16 rule narrowed_tell)
      (or_tells _ _ rule (rule_tells _ 17 rule mixed_tell)
      (or_tells _ _ rule (rule_tells _ 18 rule (over_final_tells p t headed over pairs n))
      (or_tells _ _ rule (rule_tells _ 19 rule throwing_tell)
      (or_tells _ _ rule (rule_tells _ 20 rule stands_tell)
      (rule_tells _ 21 rule statics_tell)))))))

pub breaks_members_tells : (p : Rows) (t : Table) → IsTypable p t → (rule n : ℕ) → Decides (breaks_members p t rule n) (BreaksMembers p t rule n)
breaks_members_tells p t typable rule n =
    let headed = typable.headed in
    like (ways_tell p t headed (values p t) (values_find p t typable) (overriding p t) (overrides_tells p t headed) n rule) (ways_out p t rule n) (ways_in p t headed.tree (member_source p t headed))

pub keeps_members_tells : (p : Rows) (t : Table) → IsTypable p t → Decides (keeps_members p t) ((rule n : ℕ) → BreaksMembers p t rule n → ⊥)
keeps_members_tells p t typable =
    let headed = typable.headed in
    like (every {P = λ n. (rule : ℕ) → BreaksMembers p t rule n → ⊥} (length p) (λ n. not (list_any (λ rule. true) (broken_at p t (values p t) (overriding p t) n)))
    (λ n. like (opposite (some_item nat_eq Decides-eqb (λ rule. true) (broken_at p t (values p t) (overriding p t) n)))
    (λ h rule b. h (rule, (breaks_members_tells p t typable rule n).1 b, refl)) (λ h k. h k.0 ((breaks_members_tells p t typable k.0 n).0 k.1)))
    (λ n le rule b. let lt = breaking_row p t headed.tree b in absurd (omega arith)))
    (λ h rule n b. h n rule b) (λ h n rule b. h rule n b)
