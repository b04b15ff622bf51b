-- What the members of one name break, beside each other, and names at which nothing is broken.
use Rattle.std.proofs.Common.{◌≡◌, ◌⊎◌, refl, sym, ◌∙◌, ap, ap₂, subst, inl, inr, ⊎_elim, ℕ, Bool, true, false, not, ◌&&◌, ◌||◌, List, nat_eq, Decides}
use Rattle.std.specs.List.{list_any, list_all}
use Rattle.std.proofs.lemmas.Bool.{false≢true, false_from_ne_true, not-false, not-true, or_parts}
use Rattle.std.proofs.lemmas.Bool.Decides.{Decides-eqb}
use Rattle.jr_tree.specs.declared.label.Role.TheVariants as role
use Rattle.jr_tree.specs.Rows.{Rows, role_at}
use Rattle.jr_defs.specs.Referents.{Table}
use Rattle.jr_defs.specs.Modifiers.{IsPublic, IsStatic, IsAbstract}
use Rattle.jr_defs.specs.Members.{SameMethods, MemberOf}
use Rattle.jr_defs.specs.Overloads.{ResultFits}
use Rattle.jr_defs.specs.MemberRules.{Implemented, InheritsBoth}
use Rattle.jr_plain.specs.Search.{has, Lists}
use Rattle.jr_plain.specs.Same.{same_role}
use Rattle.jr_plain.specs.Types.{is_same_signature}
use Rattle.jr_plain.specs.Headed.{IsHeaded}
use Rattle.jr_plain.specs.Modifiers.{is_public, is_static, is_abstract}
use Rattle.jr_plain.specs.Members.{are_same_methods}
use Rattle.jr_plain.specs.Overloads.{is_result_fit}
use Rattle.jr_plain.proofs.Tests.{itself, both, either, opposite, implies, like}
use Rattle.jr_plain.proofs.Searches.{some_of, every_of, some_item}
use Rattle.jr_plain.proofs.Same.{role_tells}
use Rattle.jr_plain.proofs.Enclosed.{declared_in_tells}
use Rattle.jr_plain.proofs.Modified.{public_tells, static_tells, abstract_tells}
use Rattle.jr_plain.proofs.Membership.{same_methods_tells}
use Rattle.jr_plain.proofs.Overloaded.{result_tells}
use Rattle.jr_places.specs.Names.{name_row}
use Rattle.jr_places.proofs.Packing.{name_tells}
use Rattle.jr_members.specs.declared.declared.MemberKind.TheVariants as kinds
use Rattle.jr_members.specs.Held.{IsMemberAs}
use Rattle.jr_member_rules.specs.Redefining.{is_narrower}
use Rattle.jr_member_rules.specs.Throwing.{declares_more}
use Rattle.jr_member_rules.specs.Inheriting.{is_implemented}
use Rattle.jr_member_rules.proofs.Thrown.{declares_more_tells}
use Rattle.jr_member_faults.specs.declared.beside.Left.{Left}
use Rattle.jr_member_faults.specs.declared.beside.Clash.{Clash}
use Rattle.jr_member_faults.specs.declared.beside.Clash.TheVariants as clash
use Rattle.jr_member_faults.specs.Beside.{is_left, are_beside, is_first_in, do_clash, are_clashing, has_clashing, is_clashing, has_clash, fits_none, is_unfit, has_unfit, is_odd, has_twin, are_open}
use Rattle.jr_member_faults.specs.Lefts.{or_left, left_of, Part, part_of, IsClashing, IsUnfit, IsLeftAbstract, IsBreaking, AreLeftsOf, IsPlainAt}
use Rattle.jr_member_faults.specs.Inherited.{nothing}

abbrev made_left : Bool → Bool → Bool → Bool → Bool → Left
made_left a b c d e = record { abstracts = a; results = b; access = c; statics = d; throws = e }

-- ---- tests that tell of the items of a list

some_listed : {N Q : ℕ → Type 0} (test : ℕ → Bool) (xs : List ℕ) → Lists xs N → ((k : ℕ) → N k → Decides (test k) (Q k)) → Decides (list_any test xs) ((k : ℕ) × N k × Q k)
some_listed test xs listed tells = like (some_of test (λ k. test k ≡ true) (λ k. itself (test k)) xs listed) (λ h. (h.0, h.1, (tells h.0 h.1).0 h.2)) (λ h. (h.0, h.1, (tells h.0 h.1).1 h.2))

every_listed : {N Q : ℕ → Type 0} (test : ℕ → Bool) (xs : List ℕ) → Lists xs N → ((k : ℕ) → N k → Decides (test k) (Q k)) → Decides (list_all test xs) ((k : ℕ) → N k → Q k)
every_listed test xs listed tells = like (every_of test (λ k. test k ≡ true) (λ k. itself (test k)) xs listed) (λ h k n. (tells k n).0 (h k n)) (λ h k n. (tells k n).1 (h k n))

-- where no item passes, the one does not
none_passes : (test : ℕ → Bool) (xs : List ℕ) (k : ℕ) → list_any test xs ≡ false → has xs k ≡ true → test k ≡ false
none_passes test xs k none at = false_from_ne_true (test k) (λ e. false≢true (sym none ∙ (some_item nat_eq Decides-eqb test xs).1 (k, at, e)))

-- two rows of methods and their signatures
pub same_told : (p : Rows) (t : Table) (m k : ℕ) (one other same : Bool) → one ≡ same_role (role_at p m) role.Method → other ≡ same_role (role_at p k) role.Method
    → (role_at p m ≡ role.Method → role_at p k ≡ role.Method → same ≡ is_same_signature p t m k) → (one && other && same) ≡ are_same_methods p t m k
same_told p t m k one other same a b c = ap₂ (λ x y. x && y && same) a b ∙ by (same_role (role_at p m) role.Method) (same_role (role_at p k) role.Method) refl refl
  where
    by : (x y : Bool) → same_role (role_at p m) role.Method ≡ x → same_role (role_at p k) role.Method ≡ y → (x && y && same) ≡ (x && y && is_same_signature p t m k)
    by true true i j = c ((role_tells (role_at p m) role.Method).0 i) ((role_tells (role_at p k) role.Method).0 j)
    by true false i j = refl
    by false y i j = refl

pub left_made : {a b c d e f g h i j : Bool} → a ≡ b → c ≡ d → e ≡ f → g ≡ h → i ≡ j → made_left a c e g i ≡ made_left b d f h j
left_made k l m n o = ap₂ (λ x y. x y) (ap₂ (λ x y. x y) (ap₂ (λ x y. x y) (ap₂ (λ x y. made_left x y) k l) m) n) o

-- ---- the members of a name

module _ (p : Rows) (t : Table) where
  pub same_back : (a b : ℕ) → SameMethods p t a b → SameMethods p t b a
  same_back a b h = record {
    first = h.second;
    second = h.first;
    signature = record { named = sym h.signature.named; types = h.signature.types; first = h.signature.second; second = h.signature.first };
  }

  -- a member of the signature of one of them is one of them
  pub like_named : (c x m k : ℕ) → IsMemberAs p t kinds.Method c x m → MemberOf p t c k → SameMethods p t k m → IsMemberAs p t kinds.Method c x k
  like_named c x m k am member same = record {
    of = record { role_is = same.first; named = (Decides-eqb (name_row p k) (name_row p m)).0 ((name_tells p k m).1 same.signature.named) ∙ am.of.named };
    member = member;
  }

  module _ (headed : IsHeaded p) (c x : ℕ) (all : List ℕ) (listed : Lists all (IsMemberAs p t kinds.Method c x)) where
    implemented : (m : ℕ) → IsMemberAs p t kinds.Method c x m → Decides (is_implemented p t all m) (Implemented p t c m)
    implemented m am = like
        (some_of (λ k. are_same_methods p t k m && (is_public p k && (not (is_static p k) && not (is_abstract p k))))
        (λ k. SameMethods p t k m × (IsPublic p k × ((IsStatic p k → ⊥) × (IsAbstract p k → ⊥))))
        (λ k. both (same_methods_tells p t headed k m) (both (public_tells p k) (both (opposite (static_tells p k)) (opposite (abstract_tells p k))))) all listed)
        (λ h. record { by = h.0; member = h.1.member; signatures = h.2.0; public = h.2.1.0; instance = h.2.1.1.0; concrete = h.2.1.1.1 })
        (λ h. (h.by, like_named c x m h.by am h.member h.signatures, (h.signatures, (h.public, (h.instance, h.concrete)))))

    left_tells : (m : ℕ) → IsMemberAs p t kinds.Method c x m → Decides (is_left p t all m) (IsLeftAbstract p t c m)
    left_tells m am = like (both (both (role_tells (role_at p m) role.Method) (abstract_tells p m)) (opposite (implemented m am)))
        (λ h. record { method = h.0.0; is_abstract = h.0.1; lacking = h.1 }) (λ h. ((h.method, h.is_abstract), h.lacking))

    beside_tells : (m k : ℕ) → IsMemberAs p t kinds.Method c x m → IsMemberAs p t kinds.Method c x k → Decides (are_beside p t c m k) (InheritsBoth p t c m k)
    beside_tells m k am ak = like (both (same_methods_tells p t headed m k) (both (opposite (declared_in_tells p c m)) (opposite (declared_in_tells p c k))))
        (λ h. record { first = am.member; second = ak.member; signatures = h.0; foreign = h.1.0; foreign_too = h.1.1 }) (λ h. (h.signatures, (h.foreign, h.foreign_too)))

    other_named : (m k : ℕ) → IsMemberAs p t kinds.Method c x m → InheritsBoth p t c m k → IsMemberAs p t kinds.Method c x k
    other_named m k am h = like_named c x m k am h.second (same_back m k h.signatures)

    clashing_tells : (kind : Clash) (m : ℕ) → IsMemberAs p t kinds.Method c x m → Decides (is_clashing p t kind c all m) (IsClashing p t kind c m)
    clashing_tells kind m am = like
        (both (itself (is_first_in p kind m)) (some_listed (λ k. are_clashing p t kind c m k) all listed (λ k ak. both (beside_tells m k am ak) (itself (do_clash p t kind m k)))))
        (λ h. record { first = h.0; other = h.1.0; beside = h.1.2.0; broken = h.1.2.1 })
        (λ h. (h.first, (h.other, other_named m h.other am h.beside, (h.beside, h.broken))))

    clash_tells : (kind : Clash) → Decides (has_clash p t kind c all) ((m : ℕ) × IsMemberAs p t kinds.Method c x m × IsClashing p t kind c m)
    clash_tells kind = some_listed (λ m. is_clashing p t kind c all m) all listed (clashing_tells kind)

    disagree : (k : ℕ) → IsMemberAs p t kinds.Method c x k → Decides (has_clashing p t clash.Results c all k) ((l : ℕ) × InheritsBoth p t c k l × (ResultFits p t k l → ⊥))
    disagree k ak = like (some_listed (λ l. are_clashing p t clash.Results c k l) all listed (λ l al. both (beside_tells k l ak al) (opposite (result_tells p t headed k l))))
        (λ h. (h.0, h.2.0, h.2.1)) (λ h. (h.0, other_named k h.0 ak h.1, (h.1, h.2)))

    fits_tells : (m k : ℕ) → IsMemberAs p t kinds.Method c x k → Decides (fits_none p t c all m k) (SameMethods p t k m → IsAbstract p k × ((l : ℕ) × InheritsBoth p t c k l × (ResultFits p t k l → ⊥)))
    fits_tells m k ak = implies (same_methods_tells p t headed k m) (both (abstract_tells p k) (disagree k ak))

    unfit_tells : (m : ℕ) → IsMemberAs p t kinds.Method c x m → Decides (is_unfit p t c all m) (IsUnfit p t c m)
    unfit_tells m am = like (both (role_tells (role_at p m) role.Method) (every_listed (λ k. fits_none p t c all m k) all listed (fits_tells m)))
        (λ h. record { method = h.0; each = λ k member same. h.1 k (like_named c x m k am member same) same }) (λ h. (h.method, λ k ak same. h.each k ak.member same))

    unfits_tell : Decides (has_unfit p t c all) ((m : ℕ) × IsMemberAs p t kinds.Method c x m × IsUnfit p t c m)
    unfits_tell = some_listed (λ m. is_unfit p t c all m) all listed unfit_tells

    either_out : ((m : ℕ) × IsMemberAs p t kinds.Method c x m × IsClashing p t clash.Results c m) ⊎ ((m : ℕ) × IsMemberAs p t kinds.Method c x m × IsUnfit p t c m)
        → (m : ℕ) × IsMemberAs p t kinds.Method c x m × (IsClashing p t clash.Results c m ⊎ IsUnfit p t c m)
    either_out (inl h) = (h.0, h.1, inl h.2)
    either_out (inr h) = (h.0, h.1, inr h.2)

    either_in : (m : ℕ) × IsMemberAs p t kinds.Method c x m × (IsClashing p t clash.Results c m ⊎ IsUnfit p t c m)
        → ((m : ℕ) × IsMemberAs p t kinds.Method c x m × IsClashing p t clash.Results c m) ⊎ ((m : ℕ) × IsMemberAs p t kinds.Method c x m × IsUnfit p t c m)
    either_in (m, am, inl h) = inl (m, am, h)
    either_in (m, am, inr h) = inr (m, am, h)

    pub left_told : AreLeftsOf p t c (IsMemberAs p t kinds.Method c x) (left_of p t c all)
    left_told Part.abstracts = some_listed (λ m. is_left p t all m) all listed left_tells
    left_told Part.results = like (either (clash_tells clash.Results) unfits_tell) either_out either_in
    left_told Part.access = clash_tells clash.Access
    left_told Part.statics = clash_tells clash.Statics
    left_told Part.throws = clash_tells clash.Throws

    -- ---- where the methods are not open

    pub plain_told : are_open p t all ≡ false → IsPlainAt p t c x
    plain_told none m am =
        let parts = or_parts (is_odd p t m) (has_twin p t all m) (none_passes (λ m. is_odd p t m || has_twin p t all m) all m none ((listed m).1 am)) in
        let first = or_parts (not (are_same_methods p t m m)) (is_abstract p m || (not (is_result_fit p t m m) || is_narrower p m m)) parts.0 in
        let second = or_parts (is_abstract p m) (not (is_result_fit p t m m) || is_narrower p m m) first.1 in
        let third = or_parts (not (is_result_fit p t m m)) (is_narrower p m m) second.1 in record {
          same = (same_methods_tells p t headed m m).0 (not-false (are_same_methods p t m m) first.0);
          concrete = λ a. false≢true (sym second.0 ∙ (abstract_tells p m).1 a);
          fits = not-false (is_result_fit p t m m) third.0;
          open_alike = third.1;
          alone = λ k ak same. (Decides-eqb m k).0 (twin k (none_passes (λ k. not (nat_eq m k) && are_same_methods p t m k) all k parts.1 ((listed k).1 ak)) ((same_methods_tells p t headed m k).1 same));
        }
      where
        twin : (k : ℕ) → (not (nat_eq m k) && are_same_methods p t m k) ≡ false → are_same_methods p t m k ≡ true → nat_eq m k ≡ true
        twin k e same = by (nat_eq m k) (sym (ap (λ b. not (nat_eq m k) && b) same) ∙ e)
          where
            by : (b : Bool) → (not b && true) ≡ false → b ≡ true
            by true e = refl
            by false e = sym e

  -- ---- nothing is broken where the methods are plain

  module _ (headed : IsHeaded p) where
    -- a method allows what it declares
    allows_own : (m : ℕ) → declares_more p t m m ≡ true → ⊥
    allows_own m h = let more = (declares_more_tells p t headed m m).0 h in
        more.1.1.2.1 (record { row = more.0; class = more.1.1.0; declares = record { inside = more.1.0.0; named = more.1.0.1; level = more.1.1.1.0; refers = more.1.1.1.1 }; above = inl refl })

    no_clash : (kind : Clash) (m : ℕ) → is_first_in p kind m ≡ true → is_result_fit p t m m ≡ true → is_narrower p m m ≡ false → do_clash p t kind m m ≡ true → ⊥
    no_clash clash.Results m first fits alike h = false≢true (sym (not-true (is_result_fit p t m m) h) ∙ fits)
    no_clash clash.Access m first fits alike h = false≢true (sym alike ∙ h)
    no_clash clash.Statics m first fits alike h = false≢true (sym (not-true (is_static p m) h) ∙ first)
    no_clash clash.Throws m first fits alike h = allows_own m h

    module _ (c x : ℕ) (plain : IsPlainAt p t c x) (m : ℕ) (am : IsMemberAs p t kinds.Method c x m) where
      none_clashing : (kind : Clash) → IsClashing p t kind c m → ⊥
      none_clashing kind h = let one = plain m am in
          let same : m ≡ h.other = one.alone h.other (like_named c x m h.other am h.beside.second (same_back m h.other h.beside.signatures)) h.beside.signatures in
          no_clash kind m h.first one.fits one.open_alike (subst (λ k. do_clash p t kind m k ≡ true) (sym same) h.broken)

      none_unfit : IsUnfit p t c m → ⊥
      none_unfit h = let one = plain m am in one.concrete (h.each m am.member one.same).0

      pub none_breaking : (part : Part) → IsBreaking p t c part m → ⊥
      none_breaking Part.abstracts h = let one = plain m am in one.concrete h.is_abstract
      none_breaking Part.results (inl h) = none_clashing clash.Results h
      none_breaking Part.results (inr h) = none_unfit h
      none_breaking Part.access h = none_clashing clash.Access h
      none_breaking Part.statics h = none_clashing clash.Statics h
      none_breaking Part.throws h = none_clashing clash.Throws h

  -- ---- rules of both

  or_part : (part : Part) (a b : Left) → part_of part (or_left a b) ≡ (part_of part a || part_of part b)
  or_part Part.abstracts a b = refl
  or_part Part.results a b = refl
  or_part Part.access a b = refl
  or_part Part.statics a b = refl
  or_part Part.throws a b = refl

  pub or_told : {N O Q : ℕ → Type 0} (c : ℕ) (a b : Left) → ((m : ℕ) → Q m → N m ⊎ O m) → ((m : ℕ) → N m → Q m) → ((m : ℕ) → O m → Q m) → AreLeftsOf p t c N a → AreLeftsOf p t c O b → AreLeftsOf p t c Q (or_left a b)
  or_told {N} {O} {Q} c a b split first second h k part = subst (λ z. Decides z ((m : ℕ) × Q m × IsBreaking p t c part m)) (sym (or_part part a b)) (like (either (h part) (k part))
      (⊎_elim (λ h. (h.0, first h.0 h.1, h.2)) (λ h. (h.0, second h.0 h.1, h.2)))
      (λ h. ⊎_elim (λ n. inl (h.0, n, h.2)) (λ o. inr (h.0, o, h.2)) (split h.0 h.1)))

  no_part : (part : Part) → part_of part nothing ≡ false
  no_part Part.abstracts = refl
  no_part Part.results = refl
  no_part Part.access = refl
  no_part Part.statics = refl
  no_part Part.throws = refl

  pub none_told : {N : ℕ → Type 0} (c : ℕ) → ((part : Part) (m : ℕ) → N m → IsBreaking p t c part m → ⊥) → AreLeftsOf p t c N nothing
  none_told {N} c none part = subst (λ z. Decides z ((m : ℕ) × N m × IsBreaking p t c part m)) (sym (no_part part)) ((λ h. absurd (false≢true h)), (λ h. absurd (none part h.0 h.1 h.2)))

  -- what breaks a rule is a method
  pub breaking_method : (c : ℕ) (part : Part) (m : ℕ) → IsBreaking p t c part m → role_at p m ≡ role.Method
  breaking_method c Part.abstracts m h = h.method
  breaking_method c Part.results m (inl h) = h.beside.signatures.first
  breaking_method c Part.results m (inr h) = h.method
  breaking_method c Part.access m h = h.beside.signatures.first
  breaking_method c Part.statics m h = h.beside.signatures.first
  breaking_method c Part.throws m h = h.beside.signatures.first
