-- The tests of access tell what they are to tell.
use Rattle.std.proofs.Common.{◌≡◌, ◌⊎◌, refl, inl, inr, ⊎_elim, ℕ, zero, suc, true, length, Option, Some, None, Decides}
use Rattle.std.proofs.lemmas.Bool.{false≢true}
use Rattle.jr_tree.specs.declared.tree.ThisOrSuper.TheVariants as which
use Rattle.jr_tree.specs.declared.label.Role.{Role}
use Rattle.jr_tree.specs.declared.label.Role.TheVariants as role
use Rattle.jr_tree.specs.declared.label.Sought.{Sought}
use Rattle.jr_tree.specs.declared.label.Sought.TheVariants as sought
use Rattle.jr_tree.specs.Rows.{Rows, role_at, sought_at}
use Rattle.jr_defs.specs.declared.referent.Element.{Element}
use Rattle.jr_defs.specs.declared.referent.Element.TheVariants as element
use Rattle.jr_defs.specs.declared.referent.RowType.{RowType}
use Rattle.jr_defs.specs.Referents.{Table}
use Rattle.jr_defs.specs.Enclosing.{InBody, DeclaredIn, SameTopLevel}
use Rattle.jr_defs.specs.Declarations.{IsType}
use Rattle.jr_defs.specs.Modifiers.{IsPublic, IsPrivate, IsStatic}
use Rattle.jr_defs.specs.Packages.{SamePackage}
use Rattle.jr_defs.specs.Types.{array}
use Rattle.jr_defs.specs.Supertypes.{AtOrAbove}
use Rattle.jr_defs.specs.Access.{IsLocalRole, NeedsNoObject, IsThrough, ByProtected, BySuperCall, IsAccessible}
use Rattle.jr_plain.specs.Headed.{IsHeaded}
use Rattle.jr_plain.specs.Search.{any_below}
use Rattle.jr_plain.specs.Enclosing.{declaring_type}
use Rattle.jr_plain.specs.Access as plain
use Rattle.jr_plain.proofs.Tests.{itself, always, never, both, either, opposite, like}
use Rattle.jr_plain.proofs.Searches.{some}
use Rattle.jr_plain.proofs.Same.{role_tells}
use Rattle.jr_plain.proofs.Declared.{type_tells}
use Rattle.jr_plain.proofs.Enclosed.{in_body_tells, in_body_below, declaring_finds, same_top_level_tells}
use Rattle.jr_plain.proofs.Modified.{found_tells, public_tells, protected_tells, private_tells, static_tells}
use Rattle.jr_plain.proofs.Packaged.{same_package_tells}
use Rattle.jr_plain.proofs.Supertyped.{at_or_above_tells}

local_role_tells : (r : Role) → Decides (plain.is_local_role r) (IsLocalRole r)
local_role_tells role.Local = always
local_role_tells role.Parameter = always
local_role_tells role.Label = always
local_role_tells _ = never

pub needs_no_object_tells : (p : Rows) (d : ℕ) → Decides (plain.needs_no_object p d) (NeedsNoObject p d)
needs_no_object_tells p d = like (either (static_tells p d) (type_tells p d)) (⊎_elim (λ h. NeedsNoObject.static h) (λ h. NeedsNoObject.type h)) into
  where
    into : NeedsNoObject p d → IsStatic p d ⊎ IsType p d
    into (NeedsNoObject.static h) = inl h
    into (NeedsNoObject.type h) = inr h

super_call_tells : (s : Sought) → Decides (plain.is_super_call s) (s ≡ sought.ConstructorCall which.Super)
super_call_tells (sought.ConstructorCall which.Super) = (λ h. refl, λ e. refl)
super_call_tells _ = (λ h. absurd (false≢true h), λ e. absurd (cc))

pub by_super_call_tells : (p : Rows) (d o : ℕ) → Decides (plain.is_by_super_call p d o) (BySuperCall p d o)
by_super_call_tells p d o = like (both (both (protected_tells p d) (role_tells (role_at p d) role.Constructor)) (super_call_tells (sought_at p o)))
    (λ h. record { protected = h.0.0; constructor = h.0.1; calls = h.1 }) (λ h. ((h.protected, h.constructor), h.calls))

module _ (p : Rows) (t : Table) (headed : IsHeaded p) where
  object_out : (s d dims : ℕ) (e : Element) → plain.is_object_of p t s dims e ≡ true → IsThrough p t s d (Some (array e dims))
  object_out s d zero (element.Class c) h = IsThrough.object ((at_or_above_tells p t headed c s).0 h)
  object_out s d zero _ h = absurd (false≢true h)
  object_out s d (suc dims) e h = absurd (false≢true h)

  object_into : (s d : ℕ) (a : RowType) → IsThrough p t s d (Some a) → NeedsNoObject p d ⊎ (plain.is_object_of p t s a.dims a.element ≡ true)
  object_into s d a (IsThrough.freely h) = inl h
  object_into s d _ (IsThrough.object {c = c} h) = inr ((at_or_above_tells p t headed c s).1 h)

  pub through_tells : (s d : ℕ) (receiver : Option RowType) → Decides (plain.is_through p t s d receiver) (IsThrough p t s d receiver)
  through_tells s d None = (λ h. IsThrough.without, λ h. refl)
  through_tells s d (Some a) = like (either (needs_no_object_tells p d) (itself (plain.is_object_of p t s a.dims a.element)))
      (⊎_elim (λ h. IsThrough.freely h) (object_out s d a.dims a.element)) (object_into s d a)

  abbrev SubclassRound : ℕ → ℕ → Option RowType → ℕ → Type 0
  SubclassRound d o receiver holder = (s : ℕ) × ((InBody p s o × AtOrAbove p t s holder) × IsThrough p t s d receiver)

  subclass_tells : (d o : ℕ) (receiver : Option RowType) (holder : ℕ)
      → Decides (any_below (length p) (λ s. plain.is_subclass_round p t d o receiver holder s)) (SubclassRound d o receiver holder)
  subclass_tells d o receiver holder = some (λ s. plain.is_subclass_round p t d o receiver holder s) (λ s. (InBody p s o × AtOrAbove p t s holder) × IsThrough p t s d receiver)
      (λ s. both (both (in_body_tells p s o) (at_or_above_tells p t headed s holder)) (through_tells s d receiver)) (length p) (λ s h. in_body_below p s o h.0.0)

  pub by_protected_tells : (d o : ℕ) (receiver : Option RowType) → Decides (plain.is_by_protected p t d o receiver) (ByProtected p t d o receiver)
  by_protected_tells d o receiver = like
      (both (protected_tells p d) (found_tells (λ c. DeclaredIn p c d) (λ holder. any_below (length p) (λ s. plain.is_subclass_round p t d o receiver holder s)) (SubclassRound d o receiver)
      (subclass_tells d o receiver) (declaring_type p d) (declaring_finds p d)))
      (λ h. record { protected = h.0; holder = h.1.0; declared = h.1.1; subclass = h.1.2.0; body = h.1.2.1.0.0; above = h.1.2.1.0.1; through = h.1.2.1.1 })
      (λ h. (h.protected, (h.holder, h.declared, (h.subclass, ((h.body, h.above), h.through)))))

  abbrev Ways : ℕ → ℕ → Option RowType → Type 0
  Ways d o receiver = IsLocalRole (role_at p d) ⊎ (IsPublic p d ⊎ ((IsPrivate p d × SameTopLevel p d o) ⊎ (((IsPrivate p d → ⊥) × SamePackage p d o)
      ⊎ (ByProtected p t d o receiver ⊎ BySuperCall p d o))))

  pub accessible_tells : (d o : ℕ) (receiver : Option RowType) → Decides (plain.is_accessible p t d o receiver) (IsAccessible p t d o receiver)
  accessible_tells d o receiver = like
      (either (local_role_tells (role_at p d)) (either (public_tells p d) (either (both (private_tells p d) (same_top_level_tells p d o))
      (either (both (opposite (private_tells p d)) (same_package_tells p d o)) (either (by_protected_tells d o receiver) (by_super_call_tells p d o)))))) out into
    where
      out : Ways d o receiver → IsAccessible p t d o receiver
      out (inl h) = IsAccessible.local h
      out (inr (inl h)) = IsAccessible.public h
      out (inr (inr (inl h))) = IsAccessible.private h.0 h.1
      out (inr (inr (inr (inl h)))) = IsAccessible.in_package h.0 h.1
      out (inr (inr (inr (inr (inl h))))) = IsAccessible.protected h
      out (inr (inr (inr (inr (inr h))))) = IsAccessible.super_call h

      into : IsAccessible p t d o receiver → Ways d o receiver
      into (IsAccessible.local h) = inl h
      into (IsAccessible.public h) = inr (inl h)
      into (IsAccessible.private a b) = inr (inr (inl (a, b)))
      into (IsAccessible.in_package a b) = inr (inr (inr (inl (a, b))))
      into (IsAccessible.protected h) = inr (inr (inr (inr (inl h))))
      into (IsAccessible.super_call h) = inr (inr (inr (inr (inr h))))
