-- The tests of abstract methods and of inherited methods of one signature tell what they are to tell.
use Rattle.std.proofs.Common.{◌≡◌, ℕ, ◌<◌, Bool, not, ◌&&◌, ◌||◌, List, length, IsTrue, Decides}
use Rattle.std.specs.List.{list_any}
use Rattle.std.proofs.lemmas.Bool.{false≢true}
use Rattle.jr_tree.specs.declared.label.Role.TheVariants as role
use Rattle.jr_tree.specs.Rows.{Rows, role_at}
use Rattle.jr_defs.specs.Referents.{Table}
use Rattle.jr_defs.specs.Declarations.{IsType, IsClass}
use Rattle.jr_defs.specs.Enclosing.{DeclaredIn}
use Rattle.jr_defs.specs.Modifiers.{written, IsPublic, IsStatic, IsAbstract}
use Rattle.jr_defs.specs.Supertypes.{Above}
use Rattle.jr_defs.specs.Members.{SameMethods, MemberOf}
use Rattle.jr_defs.specs.Overriding.{Found}
use Rattle.jr_defs.specs.Overloads.{ResultFits}
use Rattle.jr_defs.specs.MemberRules.{Implemented, InheritsBoth}
use Rattle.jr_plain.specs.Search.{Lists}
use Rattle.jr_plain.specs.Headed.{IsHeaded}
use Rattle.jr_plain.specs.Declarations.{is_class}
use Rattle.jr_plain.specs.Enclosing.{declaring_type}
use Rattle.jr_plain.specs.Modifiers.{is_public, is_static, is_abstract}
use Rattle.jr_plain.specs.Supertypes.{is_above}
use Rattle.jr_plain.specs.Members.{are_same_methods, members}
use Rattle.jr_plain.specs.Overriding.{is_method, is_found}
use Rattle.jr_plain.specs.Overloads.{is_result_fit}
use Rattle.jr_plain.proofs.Tests.{both, opposite, implies, like}
use Rattle.jr_plain.proofs.Searches.{some, some_of, every_of}
use Rattle.jr_plain.proofs.Bounds.{bounded, interface_below}
use Rattle.jr_plain.proofs.Same.{role_tells}
use Rattle.jr_plain.proofs.Declared.{type_tells, class_tells}
use Rattle.jr_plain.proofs.Enclosed.{declaring_finds, declared_in_tells}
use Rattle.jr_plain.proofs.Modified.{found_tells, public_tells, static_tells, abstract_tells}
use Rattle.jr_plain.proofs.Supertyped.{above_tells}
use Rattle.jr_plain.proofs.Membership.{same_methods_tells, members_list}
use Rattle.jr_plain.proofs.Dispatched.{find_tells}
use Rattle.jr_plain.proofs.Overloaded.{result_tells}
use Rattle.jr_member_rules.specs.Inheriting as plain
use Rattle.jr_member_rules.proofs.Redefined.{IsNarrower, method_row, narrower_tells}
use Rattle.jr_member_rules.proofs.Thrown.{IsNotAllowed, declares_more_tells}

-- what is abstract is a row
abstract_row : (p : Rows) {d : ℕ} → IsAbstract p d → d < length p
abstract_row p {d = d} (IsAbstract.written_so h) = bounded (λ l. IsTrue (written l).is_abstract) (λ h. false≢true h) p d h
abstract_row p {d = d} (IsAbstract.method e h) = method_row p d e
abstract_row p {d = d} (IsAbstract.interface h) = interface_below p d h

module _ (p : Rows) (t : Table) (headed : IsHeaded p) where
  -- an abstract method without an implementation
  abbrev pub IsLeftAbstract : ℕ → ℕ → Type 0
  IsLeftAbstract c m = ((role_at p m ≡ role.Method) × IsAbstract p m) × (Implemented p t c m → ⊥)

  -- another member is inherited with m, and the result of m does not fit its own
  abbrev pub Disagrees : ℕ → ℕ → Type 0
  Disagrees c m = (k : ℕ) × InheritsBoth p t c m k × (ResultFits p t m k → ⊥)

  -- each member of the signature of m is abstract, and disagrees with another
  abbrev pub AllDisagree : ℕ → ℕ → Type 0
  AllDisagree c m = (k : ℕ) → MemberOf p t c k → SameMethods p t k m → IsAbstract p k × Disagrees c k

  module _ (c : ℕ) (all : List ℕ) (listed : Lists all (λ d. MemberOf p t c d)) where
    implemented_with : (m : ℕ) → Decides (plain.is_implemented p t all m) (Implemented p t c m)
    implemented_with m = like
        (some_of (λ k. are_same_methods p t k m && (is_public p k && (not (is_static p k) && not (is_abstract p k))))
        (λ k. SameMethods p t k m × (IsPublic p k × ((IsStatic p k → ⊥) × (IsAbstract p k → ⊥))))
        (λ k. both (same_methods_tells p t headed k m) (both (public_tells p k) (both (opposite (static_tells p k)) (opposite (abstract_tells p k))))) all listed)
        (λ h. record { by = h.0; member = h.1; signatures = h.2.0; public = h.2.1.0; instance = h.2.1.1.0; concrete = h.2.1.1.1 })
        (λ h. (h.by, h.member, (h.signatures, (h.public, (h.instance, h.concrete)))))

    leaves_some_with : Decides (plain.leaves_some p t all) ((m : ℕ) × MemberOf p t c m × IsLeftAbstract c m)
    leaves_some_with = some_of (λ m. is_method p m && is_abstract p m && not (plain.is_implemented p t all m)) (λ m. IsLeftAbstract c m)
        (λ m. both (both (role_tells (role_at p m) role.Method) (abstract_tells p m)) (opposite (implemented_with m))) all listed

    pub inherits_both_with : (m k : ℕ) → Decides (plain.inherits_both p t all c m k) (InheritsBoth p t c m k)
    inherits_both_with m k = like
        (both (both (both (both (listed m) (listed k)) (same_methods_tells p t headed m k)) (opposite (declared_in_tells p c m))) (opposite (declared_in_tells p c k)))
        (λ h. record { first = h.0.0.0.0; second = h.0.0.0.1; signatures = h.0.0.1; foreign = h.0.1; foreign_too = h.1 })
        (λ h. ((((h.first, h.second), h.signatures), h.foreign), h.foreign_too))

    disagrees_with : (m : ℕ) → Decides (plain.disagrees p t all c m) (Disagrees c m)
    disagrees_with m = like (some_of (λ k. plain.inherits_both p t all c m k && not (is_result_fit p t m k)) (λ k. InheritsBoth p t c m k × (ResultFits p t m k → ⊥))
        (λ k. both (inherits_both_with m k) (opposite (result_tells p t headed m k))) all listed) (λ h. (h.0, h.2.0, h.2.1)) (λ h. (h.0, h.1.second, (h.1, h.2)))

    disagreeing_with : Decides (plain.has_disagreeing p t all c) ((m : ℕ) × MemberOf p t c m × ((IsAbstract p m → ⊥) × Disagrees c m))
    disagreeing_with = some_of (λ m. not (is_abstract p m) && plain.disagrees p t all c m) (λ m. (IsAbstract p m → ⊥) × Disagrees c m)
        (λ m. both (opposite (abstract_tells p m)) (disagrees_with m)) all listed

    all_with : (m : ℕ) → Decides (plain.all_disagree p t all c m) (AllDisagree c m)
    all_with m = every_of (λ k. not (are_same_methods p t k m) || (is_abstract p k && plain.disagrees p t all c k)) (λ k. SameMethods p t k m → IsAbstract p k × Disagrees c k)
        (λ k. implies (same_methods_tells p t headed k m) (both (abstract_tells p k) (disagrees_with k))) all listed

    disagreeing_all_with : Decides (plain.has_disagreeing_all p t all c) ((m : ℕ) × MemberOf p t c m × ((role_at p m ≡ role.Method) × AllDisagree c m))
    disagreeing_all_with = some_of (λ m. is_method p m && plain.all_disagree p t all c m) (λ m. (role_at p m ≡ role.Method) × AllDisagree c m)
        (λ m. both (role_tells (role_at p m) role.Method) (all_with m)) all listed

  pub implemented_tells : (c m : ℕ) → Decides (plain.is_implemented p t (members p t c) m) (Implemented p t c m)
  implemented_tells c m = implemented_with c (members p t c) (members_list p t headed c) m

  pub inherits_both_tells : (c m k : ℕ) → Decides (plain.inherits_both p t (members p t c) c m k) (InheritsBoth p t c m k)
  inherits_both_tells c m k = inherits_both_with c (members p t c) (members_list p t headed c) m k

  pub leaves_tells : (c : ℕ) → Decides (plain.leaves_abstract p t c) ((IsClass p c × (IsAbstract p c → ⊥)) × ((m : ℕ) × MemberOf p t c m × IsLeftAbstract c m))
  leaves_tells c = both (both (class_tells p c) (opposite (abstract_tells p c))) (leaves_some_with c (members p t c) (members_list p t headed c))

  pub no_common_result_tells : (c : ℕ) → Decides (plain.has_no_common_result p t c) (IsType p c × ((m : ℕ) × MemberOf p t c m × ((IsAbstract p m → ⊥) × Disagrees c m)))
  no_common_result_tells c = both (type_tells p c) (disagreeing_with c (members p t c) (members_list p t headed c))

  pub no_abstract_result_tells : (c : ℕ) → Decides (plain.has_no_abstract_result p t c) (IsType p c × ((m : ℕ) × MemberOf p t c m × ((role_at p m ≡ role.Method) × AllDisagree c m)))
  no_abstract_result_tells c = both (type_tells p c) (disagreeing_all_with c (members p t c) (members_list p t headed c))

  -- ---- abstract methods of classes above

  -- a call of m on an object of c finds an abstract method
  abbrev pub FindsAbstract : ℕ → ℕ → Type 0
  FindsAbstract c m = (f : ℕ) × (IsAbstract p f × Found p t c m f)

  finds_abstract_tells : (c m : ℕ) → Decides (plain.finds_abstract p t c m) (FindsAbstract c m)
  finds_abstract_tells c m = some (λ f. is_abstract p f && is_found p t c m f) (λ f. IsAbstract p f × Found p t c m f) (λ f. both (abstract_tells p f) (find_tells p t headed c m f))
      (length p) (λ f h. abstract_row p h.0)

  -- the type that declares m is a class above c
  abbrev pub IsOfClassAbove : ℕ → ℕ → Type 0
  IsOfClassAbove c m = (s : ℕ) × DeclaredIn p s m × (IsClass p s × Above p t c s)

  of_class_above_tells : (c m : ℕ) → Decides (plain.is_of_class_above p t c m) (IsOfClassAbove c m)
  of_class_above_tells c m = found_tells (λ s. DeclaredIn p s m) (λ s. is_class p s && is_above p t c s) (λ s. IsClass p s × Above p t c s) (λ s. both (class_tells p s) (above_tells p t headed c s))
      (declaring_type p m) (declaring_finds p m)

  abbrev pub IsUnfound : ℕ → ℕ → Type 0
  IsUnfound c m = ((role_at p m ≡ role.Method) × IsAbstract p m) × (IsOfClassAbove c m × FindsAbstract c m)

  unfound_tells : (c m : ℕ) → Decides (plain.is_unfound p t c m) (IsUnfound c m)
  unfound_tells c m = both (both (role_tells (role_at p m) role.Method) (abstract_tells p m)) (both (of_class_above_tells c m) (finds_abstract_tells c m))

  pub leaves_unfound_tells : (c : ℕ) → Decides (plain.leaves_unfound p t c) ((IsClass p c × (IsAbstract p c → ⊥)) × ((m : ℕ) × IsUnfound c m))
  leaves_unfound_tells c = both (both (class_tells p c) (opposite (abstract_tells p c)))
      (some (λ m. plain.is_unfound p t c m) (IsUnfound c) (unfound_tells c) (length p) (λ m h. method_row p m h.0.0))

  -- ---- inherited methods beside each other

  module _ (first : ℕ → Bool) (First : ℕ → Type 0) (first_tells : (m : ℕ) → Decides (first m) (First m))
      (two : ℕ → ℕ → Bool) (Two : ℕ → ℕ → Type 0) (two_tells : (m k : ℕ) → Decides (two m k) (Two m k)) (c : ℕ) where
    -- a member that passes is inherited with another, and the two pass together
    abbrev pub IsPair : Type 0
    IsPair = IsType p c × ((m : ℕ) × MemberOf p t c m × (First m × ((k : ℕ) × InheritsBoth p t c m k × Two m k)))

    module _ (all : List ℕ) (listed : Lists all (λ d. MemberOf p t c d)) where
      beside_with : (m : ℕ) → Decides (list_any (λ k. plain.inherits_both p t all c m k && two m k) all) ((k : ℕ) × InheritsBoth p t c m k × Two m k)
      beside_with m = like (some_of (λ k. plain.inherits_both p t all c m k && two m k) (λ k. InheritsBoth p t c m k × Two m k)
          (λ k. both (inherits_both_with c all listed m k) (two_tells m k)) all listed) (λ h. (h.0, h.2.0, h.2.1)) (λ h. (h.0, h.1.second, (h.1, h.2)))

      pair_with : Decides (plain.has_pair p t all c first two) ((m : ℕ) × MemberOf p t c m × (First m × ((k : ℕ) × InheritsBoth p t c m k × Two m k)))
      pair_with = some_of (λ m. first m && list_any (λ k. plain.inherits_both p t all c m k && two m k) all) (λ m. First m × ((k : ℕ) × InheritsBoth p t c m k × Two m k))
          (λ m. both (first_tells m) (beside_with m)) all listed

    pair_tells : Decides (plain.inherits_pair p t c first two) IsPair
    pair_tells = both (type_tells p c) (pair_with (members p t c) (members_list p t headed c))

  pub inherits_narrower_tells : (c : ℕ) → Decides (plain.inherits_narrower p t c)
      (IsType p c × ((m : ℕ) × MemberOf p t c m × ((IsAbstract p m → ⊥) × ((k : ℕ) × InheritsBoth p t c m k × IsNarrower p m k))))
  inherits_narrower_tells = pair_tells (λ m. not (is_abstract p m)) (λ m. IsAbstract p m → ⊥) (λ m. opposite (abstract_tells p m)) _ (λ m k. IsNarrower p m k) (narrower_tells p)

  pub inherits_static_tells : (c : ℕ) → Decides (plain.inherits_static p t c)
      (IsType p c × ((m : ℕ) × MemberOf p t c m × (IsStatic p m × ((k : ℕ) × InheritsBoth p t c m k × (IsStatic p k → ⊥)))))
  inherits_static_tells = pair_tells (λ m. is_static p m) (λ m. IsStatic p m) (static_tells p) (λ m k. not (is_static p k)) (λ m k. IsStatic p k → ⊥) (λ m k. opposite (static_tells p k))

  pub inherits_throwing_tells : (c : ℕ) → Decides (plain.inherits_throwing p t c)
      (IsType p c × ((m : ℕ) × MemberOf p t c m × ((IsAbstract p m → ⊥) × ((k : ℕ) × InheritsBoth p t c m k × ((n : ℕ) × IsNotAllowed p t headed m k n)))))
  inherits_throwing_tells = pair_tells (λ m. not (is_abstract p m)) (λ m. IsAbstract p m → ⊥) (λ m. opposite (abstract_tells p m)) _ (λ m k. (n : ℕ) × IsNotAllowed p t headed m k n)
      (declares_more_tells p t headed)
