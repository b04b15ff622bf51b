-- Subtypes of corresponding types correspond.
use Rattle.std.proofs.Common.{◌≡◌, ◌⊎◌, ℕ, suc, refl, sym, ◌∙◌, ap, subst, inl, inr, List, [], ◌∷◌}
use Rattle.std.specs.Prelude.{Option, Some, None}
use Rattle.jr_tree.specs.Rows.{Rows}
use Rattle.jr_defs.specs.declared.referent.Element.{Element}
use Rattle.jr_defs.specs.declared.referent.Element.TheVariants as element
use Rattle.jr_defs.specs.declared.referent.RowType.{RowType}
use Rattle.jr_defs.specs.Referents.{Table}
use Rattle.jr_defs.specs.Types.{array, plain, class_type}
use Rattle.jr_defs.specs.Supertypes.{Super, Above, Wider, Widens, IsReferenceType, Subtype}
use Rattle.jr_defs.specs.Overloads.{AllSubtypes}
use Rattle.jr_defs.specs.Correspondence.{Alike, Carries, moved_element, moved_type, moved_types}
use Rattle.jr_defs.proofs.CarryMembers.{super_over, interface_over}

wider_over : (f : ℕ → ℕ) (a b : Element) → Wider a b → Wider (moved_element f a) (moved_element f b)
wider_over f _ _ Wider.byte = Wider.byte
wider_over f _ _ Wider.short = Wider.short
wider_over f _ _ Wider.char = Wider.char
wider_over f _ _ Wider.int = Wider.int

pub widens_over : (f : ℕ → ℕ) (a b : Element) → Widens a b → Widens (moved_element f a) (moved_element f b)
widens_over f a b (Widens.step h) = Widens.step (wider_over f a b h)
widens_over f a c (Widens.steps {b = b} h up) = Widens.steps (wider_over f a b h) (widens_over f b c up)

pub reference_over : (f : ℕ → ℕ) (a : RowType) → IsReferenceType a → IsReferenceType (moved_type f a)
reference_over f _ IsReferenceType.class = IsReferenceType.class
reference_over f _ IsReferenceType.array_type = IsReferenceType.array_type

module _ (p : Rows) (t : Table) (q : Rows) (u : Table) (f g : ℕ → ℕ) (C D : ℕ → Type 0) (to : Carries p t q u f g C D) (wide : (c s : ℕ) → Super p t c s → C c) where
  pub above_wide : (c s : ℕ) → Above p t c s → Above q u (f c) (f s)
  above_wide c s (Above.direct h) = Above.direct (super_over p t q u f g C D to c s (wide c s h) h)
  above_wide c s (Above.further {r = r} h up) = Above.further (super_over p t q u f g C D to c r (wide c r h) h) (above_wide r s up)
  above_wide c s (Above.object i o) = Above.object (interface_over p q f g to.alike c i) (to.alike.prelude _ s o)

  pub subtype_over : (a b : RowType) → Subtype p t a b → Subtype q u (moved_type f a) (moved_type f b)
  subtype_over a _ Subtype.same = Subtype.same
  subtype_over _ _ (Subtype.primitive {a = a} {b = b} h) = Subtype.primitive (widens_over f a b h)
  subtype_over _ b (Subtype.null h) = Subtype.null (reference_over f b h)
  subtype_over _ _ (Subtype.class {c = c} {s = s} h) = Subtype.class (above_wide c s h)
  subtype_over _ _ (Subtype.array_object {s = s} o) = Subtype.array_object (to.alike.prelude _ s o)
  subtype_over _ _ (Subtype.array_array {a = a} {b = b} {m = m} {n = n} i j h) =
      Subtype.array_array (reference_over f (array a m) i) (reference_over f (array b n) j) (subtype_over (array a m) (array b n) h)

  pub all_subtypes_over : (as' bs : List RowType) → AllSubtypes p t as' bs → AllSubtypes q u (moved_types f as') (moved_types f bs)
  all_subtypes_over _ _ AllSubtypes.none = AllSubtypes.none
  all_subtypes_over _ _ (AllSubtypes.more {a = a} {b = b} {as' = as'} {bs = bs} h rest) = AllSubtypes.more (subtype_over a b h) (all_subtypes_over as' bs rest)
