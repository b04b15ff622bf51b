-- What a type declares or inherits is its membership, but for what interfaces have of Object.
use Rattle.std.proofs.Common.{◌≡◌, ◌⊎◌, refl, sym, ◌∙◌, ap, subst, inl, inr, ⊎_elim, ℕ}
use Rattle.jr_tree.specs.Rows.{Rows, label, name, role_at}
use Rattle.jr_defs.specs.Referents.{Table}
use Rattle.jr_defs.specs.Declarations.{IsType, IsInterface, IsObject}
use Rattle.jr_defs.specs.Enclosing.{DeclaredIn}
use Rattle.jr_defs.specs.Supertypes.{Super, Above, AtOrAbove}
use Rattle.jr_defs.specs.Members.{Replaces, MemberOf}
use Rattle.jr_plain.specs.Headed.{IsHeaded}
use Rattle.jr_plain.proofs.Supertyped.{super_source}
use Rattle.jr_members.specs.Held.{Holds, HasOfObject}

-- one type declares a member
pub one_type : (p : Rows) (c e d : ℕ) → DeclaredIn p c d → DeclaredIn p e d → c ≡ e
one_type p c e d h k = sym h.inside.inside ∙ k.inside.inside

-- what hides or overrides a member is of its kind and name
pub replaced_alike : (p : Rows) (t : Table) (e d : ℕ) → Replaces p t e d → (role_at p e ≡ role_at p d) × (name p e ≡ name p d)
replaced_alike p t e d (Replaces.field h) = (h.first ∙ sym h.second, h.named)
replaced_alike p t e d (Replaces.type h) = (h.first ∙ sym h.second, h.named)
replaced_alike p t e d (Replaces.method h) = (h.first ∙ sym h.second, h.signature.named)

module _ (p : Rows) (t : Table) where
  pub held_member : (c d : ℕ) → Holds p t c d → MemberOf p t c d
  held_member c d (Holds.declared h) = MemberOf.declared h
  held_member c d (Holds.inherited {s = s} up more a b left) = MemberOf.inherited up (held_member s d more) a b left

  pub object_member : (c d : ℕ) → HasOfObject p t c d → MemberOf p t c d
  object_member c d h = MemberOf.of_object h.interface h.method h.left

  pub member_held : ((o : ℕ) → IsObject p o → IsInterface p o → ⊥) → (c d : ℕ) → MemberOf p t c d → Holds p t c d ⊎ HasOfObject p t c d
  member_held apart c d (MemberOf.declared h) = inl (Holds.declared h)
  member_held apart c d (MemberOf.of_object i h left) = inr (record { interface = i; method = h; left = left })
  member_held apart c d (MemberOf.inherited {s = s} up more a b left) = ⊎_elim (λ k. inl (Holds.inherited up k a b left))
      (λ k. let i = a.from_interface k.interface in
      absurd (apart k.method.of_type k.method.object (subst (λ j. IsInterface p j) (one_type p i.of_type k.method.of_type d i.declared k.method.declared) i.interface)))
      (member_held apart s d more)

  pub above_super : (c s e : ℕ) → Super p t c s → AtOrAbove p t s e → Above p t c e
  above_super c s e up (inl same) = subst (λ x. Above p t c x) same (Above.direct up)
  above_super c s e up (inr h) = Above.further up h

  -- some type at or above declares it
  pub held_declared : (c d : ℕ) → Holds p t c d → (e : ℕ) × AtOrAbove p t c e × DeclaredIn p e d
  held_declared c d (Holds.declared h) = (c, inl refl, h)
  held_declared c d (Holds.inherited {s = s} up more a b left) = let k = held_declared s d more in (k.0, inr (above_super c s k.0 up k.1), k.2)

  pub held_source : IsHeaded p → (c d : ℕ) → Holds p t c d → IsType p c
  held_source headed c d (Holds.declared h) = h.inside.type
  held_source headed c d (Holds.inherited {s = s} up more a b left) = super_source p t headed c s up
