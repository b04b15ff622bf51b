-- A class has the methods that a type at or above it declares.
use Rattle.std.proofs.Common.{◌≡◌, refl, sym, ◌∙◌, subst, inl, inr, ℕ, Bool, true, false, Some, None, Decides}
use Rattle.std.proofs.lemmas.Bool.{false≢true}
use Rattle.std.proofs.lemmas.Option.{none-some}
use Rattle.jr_tree.specs.declared.label.Role.TheVariants as role
use Rattle.jr_tree.specs.Rows.{Rows, role_at}
use Rattle.jr_defs.specs.Referents.{Table}
use Rattle.jr_defs.specs.Declarations.{IsObject}
use Rattle.jr_defs.specs.Enclosing.{DeclaredIn}
use Rattle.jr_defs.specs.Supertypes.{SuperAt, Super, Above, AtOrAbove}
use Rattle.jr_defs.specs.Members.{MemberOf}
use Rattle.jr_defs.specs.Overriding.{Has}
use Rattle.jr_plain.specs.Same.{same_role}
use Rattle.jr_plain.specs.Enclosing.{declaring_type}
use Rattle.jr_plain.proofs.Tests.{like}
use Rattle.jr_plain.proofs.Same.{role_tells}
use Rattle.jr_plain.proofs.Enclosed.{declaring_finds}
use Rattle.jr_members.specs.Held.{ObjectIsBare}
use Rattle.jr_members.proofs.Heritage.{one_type, above_super}

module _ (p : Rows) (t : Table) where
  -- some type at or above declares a member
  pub member_declared : (c d : ℕ) → MemberOf p t c d → (e : ℕ) × AtOrAbove p t c e × DeclaredIn p e d
  member_declared c d (MemberOf.declared h) = (c, inl refl, h)
  member_declared c d (MemberOf.inherited {s = s} up more a b left) = let k = member_declared s d more in (k.0, inr (above_super p t c s k.0 up k.1), k.2)
  member_declared c d (MemberOf.of_object i h left) = (h.of_type, inr (Above.object i h.object), h.declared)

  none_declared : (c m : ℕ) → declaring_type p m ≡ None → Has p t c m → ⊥
  none_declared c m none h = let k = member_declared h.holder m h.member in none-some k.0 (sym none ∙ (declaring_finds p m k.0).1 k.2)

  pub has_none : (c m : ℕ) → same_role (role_at p m) role.Method ≡ false → Decides false (Has p t c m)
  has_none c m other = (λ h. absurd (false≢true h), λ h. absurd (false≢true (sym other ∙ (role_tells (role_at p m) role.Method).1 h.method)))

  pub has_unheld : (c m : ℕ) → declaring_type p m ≡ None → Decides false (Has p t c m)
  has_unheld c m none = (λ h. absurd (false≢true h), λ h. absurd (none_declared c m none h))

  module _ (bare : ObjectIsBare p) where
    bare_at : (o n s : ℕ) → IsObject p o → SuperAt p t o n s → ⊥
    bare_at o n s object (SuperAt.class names e) = bare o n object (inl names)
    bare_at o n s object (SuperAt.implied h e) = h.below object
    bare_at o n s object (SuperAt.interface names e) = bare o n object (inr names)

    bare_super : (o s : ℕ) → IsObject p o → Super p t o s → ⊥
    bare_super o s object up = bare_at o up.place s object up.at

    over_object : {c o s : ℕ} → IsObject p o → Above p t o s → ((x : ℕ) → IsObject p x → Above p t c x) → Above p t c s
    over_object {o = o} {s = s} object (Above.direct up) all = absurd (bare_super o s object up)
    over_object {o = o} object (Above.further {r = r} up more) all = absurd (bare_super o r object up)
    over_object {s = s} object (Above.object i k) all = all s k

    pub above_then : {c r s : ℕ} → Above p t c r → Above p t r s → Above p t c s
    above_then (Above.direct up) k = Above.further up k
    above_then (Above.further up more) k = Above.further up (above_then more k)
    above_then (Above.object i o) k = over_object o k (λ x e. Above.object i e)

    pub at_then : (c r s : ℕ) → AtOrAbove p t c r → AtOrAbove p t r s → AtOrAbove p t c s
    at_then c r s (inl e) k = subst (λ x. AtOrAbove p t x s) (sym e) k
    at_then c r s (inr h) (inl e) = inr (subst (λ x. Above p t c x) e h)
    at_then c r s (inr h) (inr k) = inr (above_then h k)

    pub has_held : (c m d : ℕ) (b : Bool) → same_role (role_at p m) role.Method ≡ true → declaring_type p m ≡ Some d → Decides b (AtOrAbove p t c d) → Decides b (Has p t c m)
    has_held c m d b is found tells = let declared = (declaring_finds p m d).0 found in like tells
        (λ h. record { method = (role_tells (role_at p m) role.Method).0 is; holder = d; above = h; member = MemberOf.declared declared })
        (λ h. let k = member_declared h.holder m h.member in subst (λ x. AtOrAbove p t c x) (one_type p k.0 d m k.2 declared) (at_then c h.holder k.0 h.above k.1))
