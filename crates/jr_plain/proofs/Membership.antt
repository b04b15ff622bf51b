-- The members that are computed are those that the definition gives.
use Rattle.std.proofs.Common.{◌≡◌, ◌⊎◌, inl, inr, ⊎_elim, ℕ, ◌<◌, arith, true, not, ◌&&◌, ◌||◌, List, length, Decides}
use Rattle.std.proofs.lemmas.Slice.Eq.{bytes_eq-Decides}
use Rattle.jr_base.specs.declared.text.Text.{Text}
use Rattle.jr_tree.specs.declared.label.Role.{Role}
use Rattle.jr_tree.specs.declared.label.Role.TheVariants as role
use Rattle.jr_tree.specs.Rows.{Rows, label, name, role_at}
use Rattle.jr_defs.specs.declared.referent.Space.{Space}
use Rattle.jr_defs.specs.Referents.{Table}
use Rattle.jr_defs.specs.Declarations.{IsType, IsInterface, IsObject}
use Rattle.jr_defs.specs.Enclosing.{DeclaredIn, IsMemberRole}
use Rattle.jr_defs.specs.Supertypes.{Super, AtOrAbove}
use Rattle.jr_defs.specs.Members.{SameNamed, SameMethods, Replaces, IsLeft, CanInherit, Passes, IsObjectMethod, MemberOf, MemberNamed}
use Rattle.jr_plain.specs.Search.{has, Lists}
use Rattle.jr_plain.specs.Headed.{IsHeaded}
use Rattle.jr_plain.specs.Declarations.{is_interface, is_object}
use Rattle.jr_plain.specs.Enclosing.{declaring_type, declared_by}
use Rattle.jr_plain.specs.Supertypes.{supers, is_at_or_above}
use Rattle.jr_plain.specs.Members as plain
use Rattle.jr_plain.proofs.Tests.{itself, both, either, opposite, implies, like}
use Rattle.jr_plain.proofs.Searches.{every, lists, some_of}
use Rattle.jr_plain.proofs.OfTypes.{closed_types, sound_types, interface_type}
use Rattle.jr_plain.proofs.Same.{role_tells}
use Rattle.jr_plain.proofs.Bounds.{interface_below, member_below as row_below}
use Rattle.jr_plain.proofs.Declared.{declares_tells, interface_tells, object_tells}
use Rattle.jr_plain.proofs.Enclosed.{declared_in_tells, declaring_finds, member_role_tells}
use Rattle.jr_plain.proofs.Children.{declared_list}
use Rattle.jr_plain.proofs.Modified.{found_tells, in_interface_tells, public_tells, protected_tells, private_tells, static_tells}
use Rattle.jr_plain.proofs.Packaged.{same_package_tells}
use Rattle.jr_plain.proofs.Typed.{signature_tells}
use Rattle.jr_plain.proofs.Supertyped.{supers_list, super_source, at_or_above_tells}

pub same_named_tells : (p : Rows) (kind : Role) (e d : ℕ) → Decides (plain.is_same_named p kind e d) (SameNamed p kind e d)
same_named_tells p kind e d = like (both (both (role_tells (role_at p e) kind) (role_tells (role_at p d) kind)) (bytes_eq-Decides (name p e) (name p d)))
    (λ h. record { first = h.0.0; second = h.0.1; named = h.1 }) (λ h. ((h.first, h.second), h.named))

pub can_inherit_tells : (p : Rows) (c d : ℕ) → Decides (plain.can_inherit p c d) (CanInherit p c d)
can_inherit_tells p c d = like (both (opposite (private_tells p d)) (either (public_tells p d) (either (protected_tells p d) (same_package_tells p c d))))
    (λ h. record { open_member = h.0; reach = h.1 }) (λ h. (h.open_member, h.reach))

pub passes_tells : (p : Rows) (s d : ℕ) → Decides (plain.passes p s d) (Passes p s d)
passes_tells p s d = like (implies (interface_tells p s) (in_interface_tells p d)) (λ h. record { from_interface = h }) (λ h. h.from_interface)

pub object_method_tells : (p : Rows) (d : ℕ) → Decides (plain.is_object_method p d) (IsObjectMethod p d)
object_method_tells p d = like
    (both (both (both (role_tells (role_at p d) role.Method) (found_tells (λ c. DeclaredIn p c d) (is_object p) (λ c. IsObject p c) (object_tells p) (declaring_type p d) (declaring_finds p d)))
    (public_tells p d)) (opposite (static_tells p d)))
    (λ h. record { of_type = h.0.0.1.0; object = h.0.0.1.2; declared = h.0.0.1.1; method = h.0.0.0; public = h.0.1; instance = h.1 })
    (λ h. (((h.method, (h.of_type, h.declared, h.object)), h.public), h.instance))

module _ (p : Rows) (t : Table) (headed : IsHeaded p) where
  pub same_methods_tells : (e d : ℕ) → Decides (plain.are_same_methods p t e d) (SameMethods p t e d)
  same_methods_tells e d = like (both (both (role_tells (role_at p e) role.Method) (role_tells (role_at p d) role.Method)) (signature_tells p t e d headed.tree))
      (λ h. record { first = h.0.0; second = h.0.1; signature = h.1 }) (λ h. ((h.first, h.second), h.signature))

  pub replaces_tells : (e d : ℕ) → Decides (plain.replaces p t e d) (Replaces p t e d)
  replaces_tells e d = like (either (either (same_named_tells p role.Field e d) (same_named_tells p role.Type e d)) (same_methods_tells e d)) out into
    where
      out : (SameNamed p role.Field e d ⊎ SameNamed p role.Type e d) ⊎ SameMethods p t e d → Replaces p t e d
      out (inl h) = ⊎_elim Replaces.field Replaces.type h
      out (inr h) = Replaces.method h

      into : Replaces p t e d → (SameNamed p role.Field e d ⊎ SameNamed p role.Type e d) ⊎ SameMethods p t e d
      into (Replaces.field h) = inl (inl h)
      into (Replaces.type h) = inl (inr h)
      into (Replaces.method h) = inr h

  pub left_tells : (c d : ℕ) → Decides (plain.is_left p t c d) (IsLeft p t c d)
  left_tells c d = like (opposite (some_of (λ e. plain.replaces p t e d) (λ e. Replaces p t e d) (λ e. replaces_tells e d) (declared_by p c) (declared_list p headed.tree c)))
      (λ h e a b. h (e, a, b)) (λ h k. h k.0 k.1 k.2)

  pub left_above_tells : (c d : ℕ) → Decides (plain.is_left_above p t c d) ((s : ℕ) → IsInterface p s → AtOrAbove p t c s → IsLeft p t s d)
  left_above_tells c d = every {P = λ s. IsInterface p s → AtOrAbove p t c s → IsLeft p t s d} (length p) (λ s. not (is_interface p s && is_at_or_above p t c s) || plain.is_left p t s d)
      (λ s. like (implies (both (interface_tells p s) (at_or_above_tells p t headed c s)) (left_tells s d)) (λ h a b. h (a, b)) (λ h k. h k.0 k.1))
      (λ s le a b. let lt = interface_below p s a in absurd (omega arith))

  -- what makes d a member of c, where the set has supertypes of which it is one
  abbrev Inherits : ℕ → List ℕ → ℕ → Type 0
  Inherits d set c = (((s : ℕ) × Super p t c s × ((has set s ≡ true) × Passes p s d)) × CanInherit p c d) × IsLeft p t c d

  abbrev OfObject : ℕ → ℕ → Type 0
  OfObject d c = (IsInterface p c × IsObjectMethod p d) × ((s : ℕ) → IsInterface p s → AtOrAbove p t c s → IsLeft p t s d)

  has_member_tells : (d : ℕ) (set : List ℕ) (c : ℕ) → Decides (plain.has_member p t d set c) ((DeclaredIn p c d ⊎ Inherits d set c) ⊎ OfObject d c)
  has_member_tells d set c = either (either (declared_in_tells p c d)
      (both (both (some_of (λ s. has set s && plain.passes p s d) (λ s. (has set s ≡ true) × Passes p s d) (λ s. both (itself (has set s)) (passes_tells p s d)) (supers p t c) (supers_list p t headed c))
      (can_inherit_tells p c d)) (left_tells c d)))
      (both (both (interface_tells p c) (object_method_tells p d)) (left_above_tells c d))

  member_out : (d c : ℕ) → has (plain.holders p t d) c ≡ true → MemberOf p t c d
  member_out d = sound_types p (plain.has_member p t d) (λ c. MemberOf p t c d) step
    where
      from : (set : List ℕ) → ((k : ℕ) → has set k ≡ true → MemberOf p t k d) → (c : ℕ) → (DeclaredIn p c d ⊎ Inherits d set c) ⊎ OfObject d c → MemberOf p t c d
      from set holds c (inl (inl h)) = MemberOf.declared h
      from set holds c (inl (inr h)) = MemberOf.inherited h.0.0.1 (holds h.0.0.0 h.0.0.2.0) h.0.0.2.1 h.0.1 h.1
      from set holds c (inr h) = MemberOf.of_object h.0.0 h.0.1 h.1

      step : (set : List ℕ) → ((k : ℕ) → has set k ≡ true → MemberOf p t k d) → (c : ℕ) → IsType p c → plain.has_member p t d set c ≡ true → MemberOf p t c d
      step set holds c type h = from set holds c ((has_member_tells d set c).0 h)

  -- what has a member is a type
  pub member_source : (c d : ℕ) → MemberOf p t c d → IsType p c
  member_source c d (MemberOf.declared h) = h.inside.type
  member_source c d (MemberOf.inherited {s = s} h more a b left) = super_source p t headed c s h
  member_source c d (MemberOf.of_object i h left) = interface_type (label p c) i

  member_into : (c d : ℕ) → MemberOf p t c d → has (plain.holders p t d) c ≡ true
  member_into c d (MemberOf.declared h) = closed_types p (plain.has_member p t d) c h.inside.type ((has_member_tells d (plain.holders p t d) c).1 (inl (inl h)))
  member_into c d (MemberOf.inherited {s = s} h more a b left) =
      closed_types p (plain.has_member p t d) c (super_source p t headed c s h) ((has_member_tells d (plain.holders p t d) c).1 (inl (inr (((s, h, (member_into s d more, a)), b), left))))
  member_into c d (MemberOf.of_object i h left) = closed_types p (plain.has_member p t d) c (interface_type (label p c) i) ((has_member_tells d (plain.holders p t d) c).1 (inr ((i, h), left)))

  role_of_member : (c d : ℕ) → MemberOf p t c d → IsMemberRole (role_at p d)
  role_of_member c d (MemberOf.declared h) = h.member
  role_of_member c d (MemberOf.inherited {s = s} h more a b left) = role_of_member s d more
  role_of_member c d (MemberOf.of_object i h left) = h.declared.member

  pub member_tells : (c d : ℕ) → Decides (plain.is_member p t c d) (MemberOf p t c d)
  member_tells c d = like (both (member_role_tells (role_at p d)) (itself (has (plain.holders p t d) c))) (λ h. member_out d c h.1) (λ h. (role_of_member c d h, member_into c d h))

  pub member_below : (c d : ℕ) → MemberOf p t c d → d < length p
  member_below c d h = row_below p d (role_of_member c d h)

  pub members_list : (c : ℕ) → Lists (plain.members p t c) (λ d. MemberOf p t c d)
  members_list c = lists (λ d. plain.is_member p t c d) (λ d. MemberOf p t c d) (λ d. member_tells c d) (length p) (λ d h. member_below c d h)

  pub member_named_tells : (kind : Space) (x : Text) (c d : ℕ) → Decides (plain.is_member_named p t kind x c d) (MemberNamed p t kind x c d)
  member_named_tells kind x c d = like (both (declares_tells p kind x d) (member_tells c d)) (λ h. record { member = h.1; declares = h.0 }) (λ h. (h.declares, h.member))

  pub members_named_list : (kind : Space) (x : Text) (c : ℕ) → Lists (plain.members_named p t kind x c) (λ d. MemberNamed p t kind x c d)
  members_named_list kind x c =
      lists (λ d. plain.is_member_named p t kind x c d) (λ d. MemberNamed p t kind x c d) (λ d. member_named_tells kind x c d) (length p) (λ d h. member_below c d h.member)
