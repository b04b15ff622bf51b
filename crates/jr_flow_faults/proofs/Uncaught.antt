-- The tests of the rules on exceptions tell what they are to tell.
use Rattle.std.proofs.Common.{◌≡◌, ◌⊎◌, refl, sym, ◌∙◌, ap, subst, inl, inr, ⊎_elim, arith, ℕ, zero, suc, ◌+◌, ◌<◌, ◌≤◌, Bool, true, false, cond, not, ◌&&◌, [], codes, length, Option, Some, None, nat_eq, Decides}
use Rattle.std.specs.List.{list_any}
use Rattle.std.proofs.lemmas.Bool.{false≢true, cases_lt, cases_eq, or_cases, or_left, or_right}
use Rattle.std.proofs.lemmas.Bool.Decides.{Decides-eqb}
use Rattle.std.proofs.lemmas.Option.{none-some, same_Some}
use Rattle.jr_tree.specs.declared.label.Label.{Label}
use Rattle.jr_tree.specs.declared.label.Label.TheVariants as is
use Rattle.jr_tree.specs.declared.label.NamePlace.TheVariants as place
use Rattle.jr_tree.specs.declared.label.Role.{Role}
use Rattle.jr_tree.specs.declared.label.Role.TheVariants as role
use Rattle.jr_tree.specs.Labels.{role_of}
use Rattle.jr_tree.specs.Rows.{Rows, label, parent, role_at}
use Rattle.jr_tree.specs.Local.{IsLocal}
use Rattle.jr_defs.specs.declared.referent.Referent.TheVariants.{Declared}
use Rattle.jr_defs.specs.Referents.{Table}
use Rattle.jr_defs.specs.Enclosing.{holder}
use Rattle.jr_defs.specs.MemberRules.{IsOtherName, Throws, IsChecked, Allows}
use Rattle.jr_defs.specs.Modifiers.{IsStatic}
use Rattle.jr_defs.specs.Supertypes.{AtOrAbove}
use Rattle.jr_defs.specs.Types.{class_type, HasType}
use Rattle.jr_plain.specs.Enclosing.{children}
use Rattle.jr_plain.specs.Headed.{IsHeaded}
use Rattle.jr_plain.specs.Overloads.{Types}
use Rattle.jr_plain.specs.Search.{Finds, Lists, has}
use Rattle.jr_plain.specs.Supertypes.{is_at_or_above}
use Rattle.jr_plain.specs.Typing.{first}
use Rattle.jr_plain.proofs.Bounds.{bounded, parent_past, constructor_below}
use Rattle.jr_plain.proofs.Children.{children_list, row_of_child}
use Rattle.jr_plain.proofs.Declared.{prelude_tells}
use Rattle.jr_plain.proofs.Modified.{found_tells, static_tells}
use Rattle.jr_plain.proofs.Same.{role_tells}
use Rattle.jr_plain.proofs.Searches.{some, some_of, every_of, flat_of}
use Rattle.jr_plain.proofs.Supertyped.{at_or_above_tells}
use Rattle.jr_plain.proofs.Tests.{always, never, both, either, opposite, implies, like}
use Rattle.jr_rules.proofs.Kids.{first_finds}
use Rattle.jr_rules.specs.Statements.{IsMethodOrConstructor}
use Rattle.jr_rules.specs.StatementTests.{is_other_name}
use Rattle.jr_rules.specs.Typed.{Typed, FirstOf}
use Rattle.jr_supers.specs.Tabled.{declared}
use Rattle.jr_member_rules.proofs.Thrown.{checked_tells}
use Rattle.jr_flow_faults.specs.declared.facts.Part.TheVariants as part
use Rattle.jr_flow_faults.specs.Computed.{last_part}
use Rattle.jr_flow_faults.specs.Known.{IsLastBlock}
use Rattle.jr_flow_faults.specs.Exceptions.{IsInvocation, ThrownAt, IsCatchOf, Catches, IsTry, IsCode, IsTryBlock, FinallyCompletes, GoesOn, ComesTo, BodyThrows, IsOfInstances, LetsOut, IsUncaught, IsUnthrown}
use Rattle.jr_flow_faults.specs.Outwards.{guard_of, loses_by}
use Rattle.jr_flow_faults.specs.ExceptionTests.{is_invocation, items, class_in, named_class, declared_classes, declared_by, invoked_classes, thrown_by, thrown_at, catch_class, is_constructor, declares, lets_by, all_declare, lets_out_by, lets_out, catches, is_code, is_try_block, finally_completes, goes_on, outwards_to, outwards, comes_uncaught, is_uncaught, is_thrown_in, can_throw, is_unthrown}
use Rattle.jr_flow_faults.proofs.Known.{block_tells, last_finds, declared_finds}
use Rattle.jr_flow_faults.proofs.Covered.{catch_tells, catch_finds, before_tells, class_finds, one_item, item_one}
use Rattle.jr_flow_faults.proofs.Guarded.{try_tells, it_tells}

-- ---- what is thrown

other_name_tells : (l : Label) → Decides (is_other_name l) (IsOtherName l)
other_name_tells (is.Name kind place.Other b) = always
other_name_tells _ = never

other_name_role : (l : Label) → IsOtherName l → role_of l ≡ role.Nothing
other_name_role (is.Name kind place.Other b) h = refl
other_name_role _ h = absurd h

invocation_tells : (l : Label) → Decides (is_invocation l) (IsInvocation l)
invocation_tells (is.Call r) = always
invocation_tells is.New = always
invocation_tells (is.ConstructorCall w) = always
invocation_tells is.ImplicitCall = always
invocation_tells _ = never

items_list : {P : ℕ → Type 0} (o : Option ℕ) → Finds o P → Lists (items o) P
items_list None f c = like never (λ h. absurd h) (λ h. absurd (none-some c ((f c).1 h)))
items_list (Some d) f c = like (either (Decides-eqb d c) never) (⊎_elim (λ e. (f c).0 (ap Some e)) (λ h. absurd h)) (λ h. inl (same_Some d c ((f c).1 h)))

module _ (p : Rows) (t : Table) (local : IsLocal p) where
  -- a name of a thrown class stands behind its member
  thrown_child : (m k : ℕ) → parent p k ≡ m → IsOtherName (label p k) → (m < k) × (parent p k ≡ m)
  thrown_child m k up named = row_of_child p local.tree m k (bounded IsOtherName (λ h. h) p k named)
      (λ z. subst IsOtherName (ap (label p) z ∙ local.program) named) up

  abbrev IsNamed : ℕ → ℕ → Type 0
  IsNamed k c = IsOtherName (label p k) × ((level : Option ℕ) × (t k ≡ Declared c level))

  named_list : (k : ℕ) → Lists (named_class p t k) (IsNamed k)
  named_list k c = by (is_other_name (label p k)) (other_name_tells (label p k))
    where
      by : (b : Bool) → Decides b (IsOtherName (label p k)) → Decides (has (cond b (items (declared (t k))) []) c) (IsNamed k c)
      by true d = like (items_list (declared (t k)) (declared_finds (t k)) c) (λ h. (d.0 refl, h)) (λ h. h.1)
      by false d = like never (λ h. absurd h) (λ h. absurd (false≢true (d.1 h.0)))

  pub declared_list : (m : ℕ) → Lists (declared_classes p t m) (λ c. (k : ℕ) × Throws p t m k c)
  declared_list m c = like (flat_of nat_eq (named_class p t) (children p m) (children_list p local.tree m) c)
      (λ h. let n = (named_list h.0 c).0 h.2 in (h.0, record { inside = h.1.1; named = n.0; level = n.1.0; refers = n.1.1 }))
      (λ h. (h.0, thrown_child m h.0 h.1.inside h.1.named, (named_list h.0 c).1 (h.1.named, (h.1.level, h.1.refers))))

  abbrev IsInvoked : ℕ → ℕ → Type 0
  IsInvoked n c = (m : ℕ) × ((level : Option ℕ) × (t n ≡ Declared m level)) × ((k : ℕ) × Throws p t m k c)

  invoked_list : (n : ℕ) → Lists (invoked_classes p t n) (IsInvoked n)
  invoked_list n c = by (declared (t n)) (declared_finds (t n))
    where
      by : (o : Option ℕ) → Finds o (λ m. (level : Option ℕ) × (t n ≡ Declared m level)) → Decides (has (declared_by p t o) c) (IsInvoked n c)
      by None f = like never (λ h. absurd h) (λ h. absurd (none-some h.0 ((f h.0).1 h.1)))
      by (Some m) f = like (declared_list m c) (λ h. (m, (f m).0 refl, h)) (λ h. subst (λ d. (k : ℕ) × Throws p t d k c) (sym (same_Some m h.0 ((f h.0).1 h.1))) h.2)

  module _ (type_of : Types) (typed : (n : ℕ) → Finds (type_of n) (λ a. Typed p t n a)) where
    value_list : (n : ℕ) → label p n ≡ is.Throw → Lists (items (class_in (first p type_of n))) (ThrownAt p t n)
    value_list n at c = like (items_list (class_in (first p type_of n)) (class_finds (first p type_of n) (first_finds p t type_of typed n)) c) (λ h. ThrownAt.value at h) out
      where
        out : ThrownAt p t n c → FirstOf p t n (class_type c)
        out (ThrownAt.value l h) = h
        out (ThrownAt.declared i e h) = absurd (subst IsInvocation at i)

    called_list : (n : ℕ) → IsInvocation (label p n) → Lists (invoked_classes p t n) (ThrownAt p t n)
    called_list n at c = like (invoked_list n c) (λ h. ThrownAt.declared at h.1.1 h.2.1) out
      where
        out : ThrownAt p t n c → IsInvoked n c
        out (ThrownAt.value l h) = absurd (subst IsInvocation l at)
        out (ThrownAt.declared {m = m} {k = k} {level = level} i e h) = (m, (level, e), (k, h))

    none_list : (n : ℕ) → (label p n ≡ is.Throw → ⊥) → (IsInvocation (label p n) → ⊥) → Lists [] (ThrownAt p t n)
    none_list n a b c = like never (λ h. absurd h) out
      where
        out : ThrownAt p t n c → ⊥
        out (ThrownAt.value l h) = a l
        out (ThrownAt.declared i e h) = b i

    thrown_by_list : (n : ℕ) (l : Label) → label p n ≡ l → Lists (thrown_by l p t type_of n) (ThrownAt p t n)
    thrown_by_list n is.Throw at = value_list n at
    thrown_by_list n (is.Call r) at = called_list n (subst IsInvocation (sym at) tt)
    thrown_by_list n is.New at = called_list n (subst IsInvocation (sym at) tt)
    thrown_by_list n (is.ConstructorCall w) at = called_list n (subst IsInvocation (sym at) tt)
    thrown_by_list n is.ImplicitCall at = called_list n (subst IsInvocation (sym at) tt)
    thrown_by_list n l at = none_list n (λ e. absurd (cc)) (λ i. subst IsInvocation at i)

    pub thrown_list : (n : ℕ) → Lists (thrown_at p t type_of n) (ThrownAt p t n)
    thrown_list n = thrown_by_list n (label p n) refl

-- ---- which member lets it out

module _ (p : Rows) (t : Table) (headed : IsHeaded p) (local : IsLocal p) where
  pub declares_tells : (c m : ℕ) → Decides (declares p t c m) (Allows p t m c)
  declares_tells c m = like (some_of (is_at_or_above p t c) (AtOrAbove p t c) (at_or_above_tells p t headed c) (declared_classes p t m) (declared_list p t local m))
      (λ h. record { row = h.1.0; class = h.0; declares = h.1.1; above = h.2 }) (λ h. (h.class, (h.row, h.declares), h.above))

  abbrev IsBeside : ℕ → ℕ → Type 0
  IsBeside b k = (role_at p k ≡ role.Constructor) × (parent p k ≡ b)

  beside_child : (b k : ℕ) → IsBeside b k → (b < k) × (parent p k ≡ b)
  beside_child b k h = row_of_child p local.tree b k (constructor_below p k h.0)
      (λ z. let e : role_at p 0 ≡ role.Constructor = subst (λ j. role_at p j ≡ role.Constructor) z h.0 in let program = ap role_of local.program in absurd (cc)) h.1

  abbrev AllDeclare : ℕ → ℕ → Type 0
  AllDeclare c b = ((one : ℕ) × IsBeside b one) × ((k : ℕ) → IsBeside b k → Allows p t k c)

  lets_by_tells : (c k : ℕ) → Decides (lets_by p t c k) (role_at p k ≡ role.Constructor → Allows p t k c)
  lets_by_tells c k = implies (role_tells (role_at p k) role.Constructor) (declares_tells c k)

  all_declare_tells : (c b : ℕ) → Decides (all_declare p t c b) (AllDeclare c b)
  all_declare_tells c b = like
      (both (some_of (is_constructor p) (λ k. role_at p k ≡ role.Constructor) (λ k. role_tells (role_at p k) role.Constructor) (children p b) (children_list p local.tree b))
      (every_of (lets_by p t c) (λ k. role_at p k ≡ role.Constructor → Allows p t k c) (lets_by_tells c) (children p b) (children_list p local.tree b)))
      (λ h. ((h.0.0, (h.0.2, h.0.1.1)), λ k s. h.1 k (beside_child b k s) s.0))
      (λ h. ((h.0.0, beside_child b h.0.0 h.0.1, h.0.1.0), λ k s constructs. h.1 k (constructs, s.1)))

  no_callable : (m : ℕ) → IsOfInstances p m → IsMethodOrConstructor (role_at p m) → ⊥
  no_callable m (IsOfInstances.initializer at) h = subst IsMethodOrConstructor (ap role_of at) h
  no_callable m (IsOfInstances.field at other) h = subst IsMethodOrConstructor at h

  callable_out : (m c : ℕ) → IsMethodOrConstructor (role_at p m) → LetsOut p t c m → Allows p t m c
  callable_out m c is (LetsOut.declared r h) = h
  callable_out m c is (LetsOut.by_constructors i one all) = absurd (no_callable m i is)

  by_others : (m c b : ℕ) → IsOfInstances p m → holder (role_at p m) p m ≡ b → AllDeclare c b → LetsOut p t c m
  by_others m c b i at h = LetsOut.by_constructors i (record { constructor = h.0.1.0; beside = h.0.1.1 ∙ sym at }) (λ k s. h.1 k (s.constructor, s.beside ∙ at))

  others_out : (m c b : ℕ) → IsOfInstances p m → holder (role_at p m) p m ≡ b → LetsOut p t c m → AllDeclare c b
  others_out m c b i at (LetsOut.declared r h) = absurd (no_callable m i r)
  others_out m c b i at (LetsOut.by_constructors {one = one} j s all) = ((one, (s.constructor, s.beside ∙ at)), λ k x. all k (record { constructor = x.0; beside = x.1 ∙ sym at }))

  instance_out : (m c : ℕ) → (IsMethodOrConstructor (role_at p m) → ⊥) → LetsOut p t c m → IsOfInstances p m
  instance_out m c a (LetsOut.declared r h) = absurd (a r)
  instance_out m c a (LetsOut.by_constructors i one all) = i

  initializer_is : (m : ℕ) (s : Bool) → label p m ≡ is.Initializer s → IsOfInstances p m → s ≡ false
  initializer_is m s at (IsOfInstances.initializer e) = let same : is.Initializer s ≡ is.Initializer false = sym at ∙ e in cc
  initializer_is m s at (IsOfInstances.field e other) = let kind = ap role_of at in absurd (cc)

  field_is : (m : ℕ) → role_at p m ≡ role.Field → IsOfInstances p m → IsStatic p m → ⊥
  field_is m at (IsOfInstances.initializer e) s = let kind = ap role_of e in absurd (cc)
  field_is m at (IsOfInstances.field e other) s = other s

  none_out : (m c : ℕ) → (IsMethodOrConstructor (role_at p m) → ⊥) → (label p m ≡ is.Initializer false → ⊥) → (role_at p m ≡ role.Field → ⊥) → LetsOut p t c m → ⊥
  none_out m c a b f (LetsOut.declared r h) = a r
  none_out m c a b f (LetsOut.by_constructors (IsOfInstances.initializer e) one all) = b e
  none_out m c a b f (LetsOut.by_constructors (IsOfInstances.field e other) one all) = f e

  field_holder : (r : Role) (m : ℕ) → r ≡ role.Field → holder r p m ≡ parent p (parent p m)
  field_holder role.Field m e = refl
  field_holder _ m e = absurd (cc)

  lets_by_label : (m c : ℕ) (l : Label) → label p m ≡ l → Decides (lets_out_by (guard_of l) p t c m) (LetsOut p t c m)
  lets_by_label m c (is.Method a v b) at = let kind : role_at p m ≡ role.Method = ap role_of at in let is = subst IsMethodOrConstructor (sym kind) tt in
      like (declares_tells c m) (λ h. LetsOut.declared is h) (λ h. callable_out m c is h)
  lets_by_label m c (is.Constructor a) at = let kind : role_at p m ≡ role.Constructor = ap role_of at in let is = subst IsMethodOrConstructor (sym kind) tt in
      like (declares_tells c m) (λ h. LetsOut.declared is h) (λ h. callable_out m c is h)
  lets_by_label m c is.DefaultConstructor at = let kind : role_at p m ≡ role.Constructor = ap role_of at in let is = subst IsMethodOrConstructor (sym kind) tt in
      like (declares_tells c m) (λ h. LetsOut.declared is h) (λ h. callable_out m c is h)
  lets_by_label m c (is.Initializer false) at = let kind : role_at p m ≡ role.Nothing = ap role_of at in let up : holder (role_at p m) p m ≡ parent p m = ap (λ r. holder r p m) kind in
      like (all_declare_tells c (parent p m)) (λ h. by_others m c (parent p m) (IsOfInstances.initializer at) up h) (λ h. others_out m c (parent p m) (IsOfInstances.initializer at) up h)
  lets_by_label m c (is.Initializer true) at = let kind : role_at p m ≡ role.Nothing = ap role_of at in
      like never (λ h. absurd h) (λ h. let i = instance_out m c (λ r. subst IsMethodOrConstructor kind r) h in let no = initializer_is m true at i in absurd (cc))
  lets_by_label m c (is.Field a d) at = let kind : role_at p m ≡ role.Field = ap role_of at in let up = field_holder (role_at p m) m kind in
      like (both (opposite (static_tells p m)) (all_declare_tells c (parent p (parent p m))))
      (λ h. by_others m c (parent p (parent p m)) (IsOfInstances.field kind h.0) up h.1)
      (λ h. let i = instance_out m c (λ r. subst IsMethodOrConstructor kind r) h in (field_is m kind i, others_out m c (parent p (parent p m)) i up h))
  lets_by_label m c (is.Try b) at = let kind : role_at p m ≡ role.Nothing = ap role_of at in
      like never (λ h. absurd h) (λ h. none_out m c (λ r. subst IsMethodOrConstructor kind r) (λ e. absurd (cc)) (λ e. absurd (cc)) h)
  lets_by_label m c l at = let kind = ap role_of at in
      like never (λ h. absurd h) (λ h. none_out m c (λ r. subst IsMethodOrConstructor kind r) (λ e. absurd (cc)) (λ e. absurd (cc)) h)

  pub lets_out_tells : (c m : ℕ) → Decides (lets_out p t c m) (LetsOut p t c m)
  lets_out_tells c m = lets_by_label m c (label p m) refl

-- ---- how it goes outwards

pub code_tells : (l : Label) → Decides (is_code l) (IsCode l)
code_tells (is.Method m v b) = always
code_tells (is.Constructor m) = always
code_tells is.DefaultConstructor = always
code_tells (is.Initializer s) = always
code_tells (is.Field m d) = always
code_tells _ = never

completes_tells : (p : Rows) (completes : ℕ → Bool) (n : ℕ) (last : Option ℕ) → Finds last (λ k. IsLastBlock p n k) → Decides (not (loses_by completes last)) (FinallyCompletes p completes n)
completes_tells p completes n None finds = (λ h k b. absurd (none-some k ((finds k).1 b)), λ h. refl)
completes_tells p completes n (Some k) finds = by (completes k) refl
  where
    by : (b : Bool) → completes k ≡ b → Decides (not (not b)) (FinallyCompletes p completes n)
    by true is = (λ h j b. subst (λ j. completes j ≡ true) (same_Some k j ((finds j).1 b)) is, λ h. refl)
    by false is = (λ h. absurd (false≢true h), λ h. absurd (false≢true (sym is ∙ h k ((finds k).0 refl))))

module _ (p : Rows) (t : Table) (headed : IsHeaded p) (local : IsLocal p) (completes : ℕ → Bool) where
  catch_row : (o k c : ℕ) → IsCatchOf p t o k c → k < length p
  catch_row o k c h = bounded (λ l. l ≡ is.Catch) (λ e. absurd (cc)) p k h.catch

  pub catches_tells : (o c : ℕ) → Decides (catches p t o c) (Catches p t o c)
  catches_tells o c = like (before_tells p t headed o (length p) c) (λ h. record { row = h.row; class = h.class; catch = h.catch; above = h.above })
      (λ h. record { row = h.row; class = h.class; catch = h.catch; before = catch_row o h.row h.class h.catch; above = h.above })

  pub try_block_tells : (n k : ℕ) → Decides (is_try_block p n k) (IsTryBlock p n k)
  try_block_tells n k = like (both (both (both (try_tells (label p n)) (block_tells (label p k))) (Decides-eqb (parent p k) n)) (Decides-eqb k (n + 1)))
      (λ h. record { statement = h.0.0.0; block = h.0.0.1; inside = h.0.1; first = h.1 }) (λ h. (((h.statement, h.block), h.inside), h.first))

  finally_is : (n : ℕ) → Decides (finally_completes p completes n) (FinallyCompletes p completes n)
  finally_is n = completes_tells p completes n (last_part p part.Finally (length p) n) (last_finds p n)

  goes_tells : (c k : ℕ) → Decides (goes_on p t completes c k) (GoesOn p t completes c k)
  goes_tells c k = like (either (either (either (both (opposite (code_tells (label p k))) (opposite (try_tells (label p (parent p k)))))
      (both (both (try_block_tells (parent p k) k) (opposite (catches_tells (parent p k) c))) (finally_is (parent p k))))
      (both (both (try_tells (label p (parent p k))) (catch_tells (label p k))) (finally_is (parent p k))))
      (it_tells (last_part p part.Finally (length p) (parent p k)) (last_finds p (parent p k)) k))
      (⊎_elim (⊎_elim (⊎_elim (λ h. GoesOn.of_part h.0 h.1) (λ h. GoesOn.of_body h.0.0 h.0.1 h.1)) (λ h. GoesOn.of_catch h.0.0 h.0.1 h.1)) (λ h. GoesOn.of_finally h))
      into
    where
      into : GoesOn p t completes c k → (((((IsCode (label p k) → ⊥) × (IsTry (label p (parent p k)) → ⊥)) ⊎ ((IsTryBlock p (parent p k) k × (Catches p t (parent p k) c → ⊥)) × FinallyCompletes p completes (parent p k)))
          ⊎ ((IsTry (label p (parent p k)) × (label p k ≡ is.Catch)) × FinallyCompletes p completes (parent p k))) ⊎ IsLastBlock p (parent p k) k)
      into (GoesOn.of_part a b) = inl (inl (inl (a, b)))
      into (GoesOn.of_body a b d) = inl (inl (inr ((a, b), d)))
      into (GoesOn.of_catch a b d) = inl (inr ((a, b), d))
      into (GoesOn.of_finally h) = inr h

  -- ---- all rows that it comes out of

  abbrev To : ℕ → ℕ → ℕ → Type 0
  To c n k = ComesTo p t completes c n k

  outwards_out : (c room n k : ℕ) → has (outwards_to p t completes c room n) k ≡ true → To c n k
  outwards_out c zero n k h = subst (To c n) (one_item n k h) ComesTo.here
  outwards_out c (suc room) n k h = ⊎_elim (λ e. subst (To c n) ((Decides-eqb n k).0 e) ComesTo.here) (λ r. by (goes_on p t completes c n) (goes_tells c n) (λ m. outwards_out c room (parent p n) k m) r)
      (or_cases (nat_eq n k) _ h)
    where
      by : (b : Bool) → Decides b (GoesOn p t completes c n) → (has (outwards_to p t completes c room (parent p n)) k ≡ true → To c (parent p n) k) → has (cond b (outwards_to p t completes c room (parent p n)) []) k ≡ true → To c n k
      by true d up h = ComesTo.further (d.0 refl) (up h)
      by false d up h = absurd (false≢true h)

  -- there is room for all that is round the row
  abbrev HasRoom : ℕ → ℕ → Type 0
  HasRoom room n = (n ≤ room) ⊎ (length p ≤ n)

  outwards_here : (c room n : ℕ) → has (outwards_to p t completes c room n) n ≡ true
  outwards_here c zero n = item_one n
  outwards_here c (suc room) n = or_left (nat_eq n n) _ ((Decides-eqb n n).1 refl)

  up_room : (room n : ℕ) → n ≤ suc room → 0 < n → n < length p → HasRoom room (parent p n)
  up_room room n le pos lt = let up = local.tree.up n lt pos in inl (omega arith)

  module _ (c n k : ℕ) (go : GoesOn p t completes c n) (up : (room : ℕ) → HasRoom room (parent p n) → has (outwards_to p t completes c room (parent p n)) k ≡ true) where
    step_at_root : (room : ℕ) → n ≡ 0 → has (outwards_to p t completes c room n) k ≡ true
    step_at_root room z = let same : parent p n ≡ n = ap (parent p) z ∙ local.tree.root ∙ sym z in
        subst (λ m. has (outwards_to p t completes c room m) k ≡ true) same (up room (inl (let low : parent p n ≡ 0 = same ∙ z in omega arith)))

    step_past : (room : ℕ) → length p ≤ n → has (outwards_to p t completes c room n) k ≡ true
    step_past room le = let same = parent_past p n le in subst (λ m. has (outwards_to p t completes c room m) k ≡ true) same (up room (inr (subst (λ m. length p ≤ m) (sym same) le)))

    step_inner : (room : ℕ) → HasRoom room n → n < length p → 0 < n → has (outwards_to p t completes c room n) k ≡ true
    step_inner zero (inl le) lt pos = absurd (omega arith)
    step_inner zero (inr past) lt pos = absurd (omega arith)
    step_inner (suc room) (inl le) lt pos = or_right (nat_eq n k) _ (ap (λ b. has (cond b (outwards_to p t completes c room (parent p n)) []) k) ((goes_tells c n).1 go) ∙ up room (up_room room n le pos lt))
    step_inner (suc room) (inr past) lt pos = absurd (omega arith)

    outwards_step : (room : ℕ) → HasRoom room n → has (outwards_to p t completes c room n) k ≡ true
    outwards_step room fits = ⊎_elim (λ lt. ⊎_elim (step_at_root room) (λ apart. step_inner room fits lt (omega arith)) (cases_eq n 0)) (step_past room) (cases_lt n (length p))

  outwards_into : (c room : ℕ) {n k : ℕ} → HasRoom room n → To c n k → has (outwards_to p t completes c room n) k ≡ true
  outwards_into c room {n} fits ComesTo.here = outwards_here c room n
  outwards_into c room {n} {k} fits (ComesTo.further go rest) = outwards_step c n k go (λ r f. outwards_into c r f rest) room fits

  pub outwards_list : (c n : ℕ) → Lists (outwards p t completes c n) (To c n)
  outwards_list c n k = (outwards_out c n n k, outwards_into c n (inl (omega arith)))

  -- ---- the rules

  -- a checked class that comes from the row to a member that does not let it out
  abbrev ComesUncaught : ℕ → ℕ → Type 0
  ComesUncaught n c = IsChecked p t c × ((m : ℕ) × To c n m × (IsCode (label p m) × (LetsOut p t c m → ⊥)))

  pub comes_tells : (n c : ℕ) → Decides (comes_uncaught p t completes n c) (ComesUncaught n c)
  comes_tells n c = both (checked_tells p t headed c) (some_of (λ m. is_code (label p m) && not (lets_out p t c m)) (λ m. IsCode (label p m) × (LetsOut p t c m → ⊥))
      (λ m. both (code_tells (label p m)) (opposite (lets_out_tells p t headed local c m))) (outwards p t completes c n) (outwards_list c n))

  module _ (type_of : Types) (typed : (n : ℕ) → Finds (type_of n) (λ a. Typed p t n a)) where
    pub uncaught_tells : (n : ℕ) → Decides (is_uncaught p t type_of completes n) (IsUncaught p t completes n)
    uncaught_tells n = like (some_of (comes_uncaught p t completes n) (ComesUncaught n) (comes_tells n) (thrown_at p t type_of n) (thrown_list p t local type_of typed n))
        (λ h. record { class = h.0; thrown = h.1; checked = h.2.0; member = h.2.1.0; is_code = h.2.1.2.0; comes = h.2.1.1; kept = h.2.1.2.1 })
        (λ h. (h.class, h.thrown, (h.checked, (h.member, h.comes, (h.is_code, h.kept)))))

    abbrev ThrownIn : ℕ → ℕ → ℕ → ℕ → Type 0
    ThrownIn o c n d = IsChecked p t d × IsTryBlock p o (o + 1) × To d n (o + 1) × (AtOrAbove p t d c ⊎ AtOrAbove p t c d)

    thrown_in_tells : (o c n d : ℕ) → Decides (is_thrown_in p t completes o c n d) (ThrownIn o c n d)
    thrown_in_tells o c n d = like (both (both (both (checked_tells p t headed d) (try_block_tells o (o + 1))) (outwards_list d n (o + 1)))
        (either (at_or_above_tells p t headed d c) (at_or_above_tells p t headed c d)))
        (λ h. (h.0.0.0, h.0.0.1, h.0.1, h.1)) (λ h. (((h.0, h.1), h.2), h.3))

    thrown_row : (n c : ℕ) → ThrownAt p t n c → n < length p
    thrown_row n c (ThrownAt.value at h) = bounded (λ l. l ≡ is.Throw) (λ e. absurd (cc)) p n at
    thrown_row n c (ThrownAt.declared i e h) = bounded IsInvocation (λ h. h) p n i

    abbrev CanThrow : ℕ → ℕ → Type 0
    CanThrow o c = (d : ℕ) × BodyThrows p t completes o d × (AtOrAbove p t d c ⊎ AtOrAbove p t c d)

    pub can_throw_tells : (o c : ℕ) → Decides (can_throw p t type_of completes o c) (CanThrow o c)
    can_throw_tells o c = like (some (λ n. list_any (is_thrown_in p t completes o c n) (thrown_at p t type_of n)) (λ n. (d : ℕ) × ThrownAt p t n d × ThrownIn o c n d)
        (λ n. some_of (is_thrown_in p t completes o c n) (ThrownIn o c n) (thrown_in_tells o c n) (thrown_at p t type_of n) (thrown_list p t local type_of typed n)) (length p)
        (λ n h. thrown_row n h.0 h.1))
        (λ h. (h.1.0, record { row = h.0; thrown = h.1.1; checked = h.1.2.0; body = h.1.2.1; comes = h.1.2.2 }, h.1.2.3))
        (λ h. (h.1.row, (h.0, h.1.thrown, (h.1.checked, h.1.body, h.1.comes, h.2))))

    pub unthrown_tells : (n : ℕ) → Decides (is_unthrown p t type_of completes n) (IsUnthrown p t completes n)
    unthrown_tells n = like (found_tells (λ c. (label p n ≡ is.Catch) × HasType p t (n + 1) (class_type c)) _ _
        (λ c. both (both (checked_tells p t headed c) (opposite (either (prelude_tells p (codes "Exception") c) (prelude_tells p (codes "Throwable") c)))) (opposite (can_throw_tells (parent p n) c)))
        (catch_class p t n) (catch_finds p t n))
        (λ h. record {
          class = h.0;
          catch = record { catch = h.1.0; inside = refl; type = h.1.1 };
          checked = h.2.0.0;
          no_exception = λ i. h.2.0.1 (inl i);
          no_throwable = λ i. h.2.0.1 (inr i);
          unthrown = λ d throws related. h.2.1 (d, throws, related);
        })
        (λ h. (h.class, (h.catch.catch, h.catch.type), ((h.checked, ⊎_elim h.no_exception h.no_throwable), λ k. h.unthrown k.0 k.1 k.2)))
