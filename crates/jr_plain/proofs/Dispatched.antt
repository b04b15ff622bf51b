-- Overriding and dispatch that are computed are those of the definition.
use Rattle.std.proofs.Common.{◌≡◌, ◌⊎◌, refl, sym, subst, inl, inr, ⊎_elim, ℕ, ◌<◌, ◌≤◌, true, false, ◌&&◌, List, [], ◌∷◌, length, flat_map, nat_eq, nat_le, Decides}
use Rattle.std.specs.List.{list_any}
use Rattle.std.proofs.lemmas.Bool.{or_left}
use Rattle.std.proofs.lemmas.Bool.Decides.{Decides-eqb}
use Rattle.jr_tree.specs.declared.label.Role.TheVariants as role
use Rattle.jr_tree.specs.Rows.{Rows, role_at}
use Rattle.jr_defs.specs.Referents.{Table}
use Rattle.jr_defs.specs.Declarations.{IsType, IsInterface}
use Rattle.jr_defs.specs.Enclosing.{DeclaredIn, IsMemberRole}
use Rattle.jr_defs.specs.Modifiers.{IsPublic, IsProtected, IsPrivate, IsStatic}
use Rattle.jr_defs.specs.Packages.{SamePackage}
use Rattle.jr_defs.specs.Supertypes.{Above, AtOrAbove, Superclass}
use Rattle.jr_defs.specs.Members.{MemberOf}
use Rattle.jr_defs.specs.Overriding.{IsAboveMethod, Overrides, Has, Implements, Serves, ServesNot, ServesFirst, FoundFrom, Found, Dispatches}
use Rattle.jr_plain.specs.Search.{among, has, Lists}
use Rattle.jr_plain.specs.Headed.{IsHeaded}
use Rattle.jr_plain.specs.Same.{same_pair}
use Rattle.jr_plain.specs.Declarations.{types, is_interface}
use Rattle.jr_plain.specs.Enclosing.{declaring_type, declared_by}
use Rattle.jr_plain.specs.Supertypes.{superclasses, is_above, is_at_or_above}
use Rattle.jr_plain.specs.Members.{is_member}
use Rattle.jr_plain.specs.Overriding as plain
use Rattle.jr_plain.proofs.Tests.{itself, always, both, either, opposite, implies, like, decide}
use Rattle.jr_plain.proofs.Searches.{lists, some_of, every_of, among_filter, flat_of}
use Rattle.jr_plain.proofs.Least.{closed, sound}
use Rattle.jr_plain.proofs.OfTypes.{types_list, closed_types, sound_types}
use Rattle.jr_plain.proofs.Same.{role_tells, pair_tells}
use Rattle.jr_plain.proofs.Bounds.{member_below}
use Rattle.jr_plain.proofs.Declared.{type_tells, class_tells, interface_tells}
use Rattle.jr_plain.proofs.Enclosed.{most, declaring_finds}
use Rattle.jr_plain.proofs.Children.{declared_list}
use Rattle.jr_plain.proofs.Modified.{found_tells, in_interface_tells, public_tells, protected_tells, private_tells, static_tells}
use Rattle.jr_plain.proofs.Packaged.{same_package_tells}
use Rattle.jr_plain.proofs.Supertyped.{superclasses_list, superclass_source, above_tells, at_or_above_tells}
use Rattle.jr_plain.proofs.Membership.{same_methods_tells, member_tells, member_source}

abbrev IsMethod : Rows → ℕ → Type 0
IsMethod p m = role_at p m ≡ role.Method

method_tells : (p : Rows) (m : ℕ) → Decides (plain.is_method p m) (IsMethod p m)
method_tells p m = role_tells (role_at p m) role.Method

method_below : (p : Rows) (m : ℕ) → IsMethod p m → m < length p
method_below p m e = member_below p m (subst IsMemberRole (sym e) tt)

reachable_tells : (p : Rows) (m k : ℕ) → Decides (plain.is_reachable p m k) (IsPublic p k ⊎ IsProtected p k ⊎ SamePackage p m k)
reachable_tells p m k = either (public_tells p k) (either (protected_tells p k) (same_package_tells p m k))

methods_list : (p : Rows) → Lists (plain.methods p) (λ m. IsMethod p m)
methods_list p = lists (λ m. plain.is_method p m) (λ m. IsMethod p m) (method_tells p) (length p) (method_below p)

-- each two methods are a pair
pair_listed : (p : Rows) (m k : ℕ) → IsMethod p m → IsMethod p k → among same_pair (plain.method_pairs p) (m, k) ≡ true
pair_listed p m k a b = (flat_of same_pair (λ m. flat_map (λ k. (m, k) ∷ []) (plain.methods p)) (plain.methods p) (methods_list p) (m, k)).1
    (m, a, (flat_of same_pair (λ k. (m, k) ∷ []) (plain.methods p) (methods_list p) (m, k)).1 (k, b, or_left (same_pair (m, k) (m, k)) false ((pair_tells (m, k) (m, k)).1 refl)))

module _ (p : Rows) (t : Table) (headed : IsHeaded p) where
  declared_below_tells : (m k : ℕ) → Decides (plain.is_declared_below p t m k) ((c : ℕ) × DeclaredIn p c m × ((s : ℕ) × DeclaredIn p s k × Above p t c s))
  declared_below_tells m k = found_tells (λ c. DeclaredIn p c m) _ (λ c. (s : ℕ) × DeclaredIn p s k × Above p t c s)
      (λ c. found_tells (λ s. DeclaredIn p s k) (λ s. is_above p t c s) (λ s. Above p t c s) (λ s. above_tells p t headed c s) (declaring_type p k) (declaring_finds p k)) (declaring_type p m) (declaring_finds p m)

  pub above_method_tells : (m k : ℕ) → Decides (plain.is_above_method p t m k) (IsAboveMethod p t m k)
  above_method_tells m k = like
      (both (both (both (both (same_methods_tells p t headed m k) (opposite (static_tells p m))) (opposite (private_tells p k))) (implies (in_interface_tells p m) (public_tells p k))) (declared_below_tells m k))
      (λ h. record {
        signatures = h.0.0.0.0;
        instance = h.0.0.0.1;
        type = h.1.0;
        declared = h.1.1;
        upper = h.1.2.0;
        declares = h.1.2.1;
        above = h.1.2.2;
        reached = h.0.0.1;
        from_interface = h.0.1;
      })
      (λ h. ((((h.signatures, h.instance), h.reached), h.from_interface), (h.type, h.declared, (h.upper, h.declares, h.above))))

  abbrev Through : List (ℕ × ℕ) → ℕ → ℕ → Type 0
  Through set m k = (j : ℕ) × IsMethod p j × ((among same_pair set (m, j) ≡ true) × (among same_pair set (j, k) ≡ true))

  overriding_tells : (set : List (ℕ × ℕ)) (x : ℕ × ℕ)
      → Decides (plain.is_overriding p t set x) (IsAboveMethod p t x.0 x.1 × ((IsPublic p x.1 ⊎ IsProtected p x.1 ⊎ SamePackage p x.0 x.1) ⊎ Through set x.0 x.1))
  overriding_tells set x = both (above_method_tells x.0 x.1) (either (reachable_tells p x.0 x.1)
      (some_of (λ j. among same_pair set (x.0, j) && among same_pair set (j, x.1)) (λ j. (among same_pair set (x.0, j) ≡ true) × (among same_pair set (j, x.1) ≡ true))
      (λ j. both (itself (among same_pair set (x.0, j))) (itself (among same_pair set (j, x.1)))) (plain.methods p) (methods_list p)))

  overrides_out : (m k : ℕ) → among same_pair (plain.overriding p t) (m, k) ≡ true → Overrides p t m k
  overrides_out m k = sound same_pair pair_tells (plain.method_pairs p) (plain.is_overriding p t) (λ x. Overrides p t x.0 x.1) step (m, k)
    where
      step : (set : List (ℕ × ℕ)) → ((x : ℕ × ℕ) → among same_pair set x ≡ true → Overrides p t x.0 x.1) → (x : ℕ × ℕ) → among same_pair (plain.method_pairs p) x ≡ true
          → plain.is_overriding p t set x ≡ true → Overrides p t x.0 x.1
      step set holds x at h = let k = (overriding_tells set x).0 h in
          ⊎_elim (λ r. Overrides.direct k.0 r) (λ j. Overrides.through k.0 (holds (x.0, j.0) j.2.0) (holds (j.0, x.1) j.2.1)) k.1

  overrides_above : (m k : ℕ) → Overrides p t m k → IsAboveMethod p t m k
  overrides_above m k (Overrides.direct h r) = h
  overrides_above m k (Overrides.through h a b) = h

  into_set : (m k : ℕ) → IsAboveMethod p t m k → (IsPublic p k ⊎ IsProtected p k ⊎ SamePackage p m k) ⊎ Through (plain.overriding p t) m k → among same_pair (plain.overriding p t) (m, k) ≡ true
  into_set m k h r = closed same_pair pair_tells (plain.method_pairs p) (plain.is_overriding p t) (m, k) (pair_listed p m k h.signatures.first h.signatures.second)
      ((overriding_tells (plain.overriding p t) (m, k)).1 (h, r))

  overrides_into : (m k : ℕ) → Overrides p t m k → among same_pair (plain.overriding p t) (m, k) ≡ true
  overrides_into m k (Overrides.direct h r) = into_set m k h (inl r)
  overrides_into m k (Overrides.through {j = j} h a b) =
      into_set m k h (inr (j, (overrides_above m j a).signatures.second, (overrides_into m j a, overrides_into j k b)))

  pub overrides_tells : (m k : ℕ) → Decides (plain.overrides p t m k) (Overrides p t m k)
  overrides_tells m k = (overrides_out m k, overrides_into m k)

  pub has_method_tells : (c m : ℕ) → Decides (plain.has_method p t c m) (Has p t c m)
  has_method_tells c m = like
      (both (method_tells p m) (some_of (λ holder. is_at_or_above p t c holder && is_member p t holder m) (λ holder. AtOrAbove p t c holder × MemberOf p t holder m)
      (λ holder. both (at_or_above_tells p t headed c holder) (member_tells p t headed holder m)) (types p) (types_list p)))
      (λ h. record { method = h.0; holder = h.1.0; above = h.1.2.0; member = h.1.2.1 })
      (λ h. (h.method, (h.holder, member_source p t headed h.holder m h.member, (h.above, h.member))))

  pub implements_tells : (c f m : ℕ) → Decides (plain.implements p t c f m) (Implements p t c f m)
  implements_tells c f m = like
      (both (both (both (same_methods_tells p t headed f m)
      (found_tells (λ i. DeclaredIn p i m) (λ i. is_interface p i && is_above p t c i) (λ i. IsInterface p i × Above p t c i) (λ i. both (interface_tells p i) (above_tells p t headed c i)) (declaring_type p m)
      (declaring_finds p m))) (public_tells p f)) (member_tells p t headed c f))
      (λ h. record { interface = h.0.0.1.0; is_interface = h.0.0.1.2.0; above = h.0.0.1.2.1; declared = h.0.0.1.1; member = h.1; public = h.0.1; signatures = h.0.0.0 })
      (λ h. (((h.signatures, (h.interface, h.declared, (h.is_interface, h.above))), h.public), h.member))

  pub serves_tells : (c m f : ℕ) → Decides (plain.serves p t c m f) (Serves p t c m f)
  serves_tells c m f = like (either (either (Decides-eqb f m) (overrides_tells f m)) (implements_tells c f m)) out into
    where
      out : ((f ≡ m) ⊎ Overrides p t f m) ⊎ Implements p t c f m → Serves p t c m f
      out (inl h) = ⊎_elim Serves.itself Serves.overriding h
      out (inr h) = Serves.implementing h

      into : Serves p t c m f → ((f ≡ m) ⊎ Overrides p t f m) ⊎ Implements p t c f m
      into (Serves.itself h) = inl (inl h)
      into (Serves.overriding h) = inl (inr h)
      into (Serves.implementing h) = inr h

  serving_list : (c m b : ℕ) → Lists (plain.serving p t c m b) (λ f. DeclaredIn p b f × Serves p t c m f)
  serving_list c m b f = like (among_filter nat_eq Decides-eqb (λ f. plain.serves p t c m f) (declared_by p b) f) (λ h. ((declared_list p headed.tree b f).0 h.0, (serves_tells c m f).0 h.1))
      (λ h. ((declared_list p headed.tree b f).1 h.0, (serves_tells c m f).1 h.1))

  pub serves_first_tells : (c m b f : ℕ) → Decides (plain.is_first_of (plain.serving p t c m b) f) (ServesFirst p t c m b f)
  serves_first_tells c m b f = like (both (serving_list c m b f) (every_of (λ g. nat_le f g) (λ g. f ≤ g) (λ g. most f g) (plain.serving p t c m b) (serving_list c m b)))
      (λ h. record { declared = h.0.0; serves = h.0.1; first = λ g d v. h.1 g (d, v) }) (λ h. ((h.declared, h.serves), λ g k. h.first g k.0 k.1))

  pub serves_not_tells : (c m b : ℕ) → Decides (plain.is_none (plain.serving p t c m b)) (ServesNot p t c m b)
  serves_not_tells c m b =
      like (opposite (some_of (λ f. true) (λ f. Unit {0}) (λ f. always) (plain.serving p t c m b) (serving_list c m b))) (λ h f d v. h (f, (d, v), tt)) (λ h k. h k.0 k.1.0 k.1.1)

  module _ (c m f : ℕ) where
    -- the call finds f from s on, by the set or past the types
    abbrev FoundAt : List ℕ → ℕ → Type 0
    FoundAt set s = (has set s ≡ true) ⊎ ((IsType p s → ⊥) × (f ≡ m))

    found_at_tells : (set : List ℕ) (s : ℕ) → Decides (plain.is_found_at p m f set s) (FoundAt set s)
    found_at_tells set s = either (itself (has set s)) (both (opposite (type_tells p s)) (Decides-eqb f m))

    some_superclass : (b : ℕ) → Decides (list_any (λ s. true) (superclasses p t b)) ((s : ℕ) × Superclass p t b s)
    some_superclass b = like (some_of (λ s. true) (λ s. Unit {0}) (λ s. always) (superclasses p t b) (superclasses_list p t headed b)) (λ h. (h.0, h.1)) (λ h. (h.0, h.1, tt))

    abbrev FoundBy : List ℕ → ℕ → Type 0
    FoundBy set b = ServesFirst p t c m b f
        ⊎ (ServesNot p t c m b × (((s : ℕ) × Superclass p t b s × FoundAt set s) ⊎ ((f ≡ m) × (((s : ℕ) × Superclass p t b s) → ⊥))))

    found_by_tells : (set : List ℕ) (b : ℕ) → Decides (plain.is_found_by p t c m f set b) (FoundBy set b)
    found_by_tells set b = either (serves_first_tells c m b f)
        (both (serves_not_tells c m b) (either (some_of (plain.is_found_at p m f set) (FoundAt set) (found_at_tells set) (superclasses p t b) (superclasses_list p t headed b))
        (both (Decides-eqb f m) (opposite (some_superclass b)))))

    past_types : (s : ℕ) → (IsType p s → ⊥) → f ≡ m → FoundFrom p t c m s f
    past_types s apart e = subst (λ x. FoundFrom p t c m s x) (sym e) (FoundFrom.end (λ x d v. apart d.inside.type) (λ u h. apart (superclass_source p t headed s u h)))

    found_out : (b : ℕ) → has (plain.finders p t c m f) b ≡ true → FoundFrom p t c m b f
    found_out = sound_types p (plain.is_found_by p t c m f) (λ b. FoundFrom p t c m b f) step
      where
        from : (set : List ℕ) → ((k : ℕ) → has set k ≡ true → FoundFrom p t c m k f) → (b : ℕ) → FoundBy set b → FoundFrom p t c m b f
        from set holds b (inl h) = FoundFrom.here h
        from set holds b (inr h) = ⊎_elim (λ k. FoundFrom.up h.0 k.1 (⊎_elim (holds k.0) (λ x. past_types k.0 x.0 x.1) k.2))
            (λ k. subst (λ x. FoundFrom p t c m b x) (sym k.0) (FoundFrom.end h.0 (λ s u. k.1 (s, u)))) h.1

        step : (set : List ℕ) → ((k : ℕ) → has set k ≡ true → FoundFrom p t c m k f) → (b : ℕ) → IsType p b → plain.is_found_by p t c m f set b ≡ true → FoundFrom p t c m b f
        step set holds b type h = from set holds b ((found_by_tells set b).0 h)

    closed_found : (b : ℕ) → IsType p b → FoundBy (plain.finders p t c m f) b → FoundAt (plain.finders p t c m f) b
    closed_found b type h = inl (closed_types p (plain.is_found_by p t c m f) b type ((found_by_tells (plain.finders p t c m f) b).1 h))

  found_into : (c m b f : ℕ) → FoundFrom p t c m b f → FoundAt c m f (plain.finders p t c m f) b
  found_into c m b f (FoundFrom.here h) = closed_found c m f b h.declared.inside.type (inl h)
  found_into c m b f (FoundFrom.up {s = s} none up more) = closed_found c m f b (superclass_source p t headed b s up) (inr (none, inl (s, up, found_into c m s f more)))
  found_into c m b _ (FoundFrom.end none top) = ⊎_elim (λ type. closed_found c m m b type (inr (none, inr (refl, λ h. top h.0 h.1)))) (λ apart. inr (apart, refl)) (decide (type_tells p b))

  pub found_from_tells : (c m b f : ℕ) → Decides (plain.is_found_from p t c m b f) (FoundFrom p t c m b f)
  found_from_tells c m b f = like (found_at_tells c m f (plain.finders p t c m f) b) (⊎_elim (found_out c m f b) (λ h. past_types c m f b h.0 h.1)) (found_into c m b f)

  pub find_tells : (c m f : ℕ) → Decides (plain.is_found p t c m f) (Found p t c m f)
  find_tells c m f = like (either (both (either (private_tells p m) (static_tells p m)) (Decides-eqb f m)) (both (opposite (either (private_tells p m) (static_tells p m))) (found_from_tells c m c f))) out into
    where
      out : ((IsPrivate p m ⊎ IsStatic p m) × (f ≡ m)) ⊎ ((IsPrivate p m ⊎ IsStatic p m → ⊥) × FoundFrom p t c m c f) → Found p t c m f
      out (inl h) = subst (λ x. Found p t c m x) (sym h.1) (Found.fixed h.0)
      out (inr h) = Found.dispatched (λ x. h.0 (inl x)) (λ x. h.0 (inr x)) h.1

      into : {f : ℕ} → Found p t c m f → ((IsPrivate p m ⊎ IsStatic p m) × (f ≡ m)) ⊎ ((IsPrivate p m ⊎ IsStatic p m → ⊥) × FoundFrom p t c m c f)
      into (Found.fixed h) = inl (h, refl)
      into (Found.dispatched a b h) = inr (⊎_elim a b, h)

  pub dispatches_tells : (c m f : ℕ) → Decides (plain.dispatches p t c m f) (Dispatches p t c m f)
  dispatches_tells c m f = like (both (both (class_tells p c) (has_method_tells c m)) (find_tells c m f)) (λ h. record { class = h.0.0; has = h.0.1; found = h.1 }) (λ h. ((h.class, h.has), h.found))
