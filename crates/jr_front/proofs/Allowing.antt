-- The tests of modifiers tell what the definitions say.
use Rattle.std.proofs.Common.{◌≡◌, ◌⊎◌, inl, inr, ⊎_elim, ℕ, ◌<◌, Bool, true, length, Decides}
use Rattle.jr_tree.specs.declared.label.Modifiers.{Modifiers}
use Rattle.jr_tree.specs.declared.label.Role.{Role}
use Rattle.jr_tree.specs.declared.label.Role.TheVariants as role
use Rattle.jr_tree.specs.declared.tree.Modifier.{Modifier}
use Rattle.jr_tree.specs.declared.tree.Modifier.TheVariants as modifier
use Rattle.jr_tree.specs.Labels.{role_of}
use Rattle.jr_tree.specs.Rows.{Rows, label, role_at}
use Rattle.jr_defs.specs.Declarations.{IsType, IsClass}
use Rattle.jr_defs.specs.Enclosing.{IsTopLevel}
use Rattle.jr_defs.specs.Modifiers.{written}
use Rattle.jr_plain.specs.Search.{has}
use Rattle.jr_plain.proofs.Bounds.{bounded}
use Rattle.jr_plain.proofs.Declared.{type_tells, class_tells}
use Rattle.jr_plain.proofs.Enclosed.{top_level_tells}
use Rattle.jr_plain.proofs.Modified.{in_interface_tells}
use Rattle.jr_plain.proofs.Same.{role_tells}
use Rattle.jr_plain.proofs.Tests.{itself, always, never, both, either, opposite, like}
use Rattle.jr_marks.specs.declared.marks.Marks.{Marks}
use Rattle.jr_front.specs.Modifiers as tell
use Rattle.jr_front.specs.Modifiers.{HasModifiers, IsOfClass, IsMethodOfClass, MayHave, Exclude, HasWrongModifier, BreaksModifiers, has_modifier}
use Rattle.jr_front.proofs.Repeating.{repeats_tells}

modifiers_tell : (r : Role) → Decides (tell.has_modifiers r) (HasModifiers r)
modifiers_tell role.Type = always
modifiers_tell role.Field = always
modifiers_tell role.Method = always
modifiers_tell role.Constructor = always
modifiers_tell _ = never

module _ (p : Rows) (d : ℕ) where
  of_class_tells : Decides (tell.is_of_class p d) (IsOfClass p d)
  of_class_tells = both (opposite (top_level_tells p d)) (opposite (in_interface_tells p d))

  method_tells : Decides (tell.is_method p d) (role_at p d ≡ role.Method)
  method_tells = role_tells (role_at p d) role.Method

  field_tells : Decides (tell.is_field p d) (role_at p d ≡ role.Field)
  field_tells = role_tells (role_at p d) role.Field

  method_of_class_tells : Decides (tell.is_method_of_class p d) (IsMethodOfClass p d)
  method_of_class_tells = both method_tells (opposite (in_interface_tells p d))

  -- ---- which a declaration may have

  protected_out : MayHave p d modifier.Protected → IsOfClass p d
  protected_out (MayHave.protected h) = h

  private_out : MayHave p d modifier.Private → IsOfClass p d
  private_out (MayHave.private h) = h

  abstract_out : MayHave p d modifier.Abstract → IsType p d ⊎ (role_at p d ≡ role.Method)
  abstract_out (MayHave.abstract_type h) = inl h
  abstract_out (MayHave.abstract_method h) = inr h

  static_out : MayHave p d modifier.Static → ((IsType p d × (IsTopLevel p d → ⊥)) ⊎ (role_at p d ≡ role.Field)) ⊎ IsMethodOfClass p d
  static_out (MayHave.static_type h k) = inl (inl (h, k))
  static_out (MayHave.static_field h) = inl (inr h)
  static_out (MayHave.static_method h) = inr h

  final_out : MayHave p d modifier.Final → (IsClass p d ⊎ (role_at p d ≡ role.Field)) ⊎ IsMethodOfClass p d
  final_out (MayHave.final_class h) = inl (inl h)
  final_out (MayHave.final_field h) = inl (inr h)
  final_out (MayHave.final_method h) = inr h

  native_out : MayHave p d modifier.Native → IsMethodOfClass p d
  native_out (MayHave.native_method h) = h

  abstract_tells : Decides (tell.may_be_abstract p d) (MayHave p d modifier.Abstract)
  abstract_tells = like (either (type_tells p d) method_tells) (λ h. ⊎_elim (λ k. MayHave.abstract_type k) (λ k. MayHave.abstract_method k) h) abstract_out

  static_tells : Decides (tell.may_be_static p d) (MayHave p d modifier.Static)
  static_tells = like (either (either (both (type_tells p d) (opposite (top_level_tells p d))) field_tells) method_of_class_tells)
      (λ h. ⊎_elim (λ k. ⊎_elim (λ f. MayHave.static_type f.0 f.1) (λ f. MayHave.static_field f) k) (λ f. MayHave.static_method f) h) static_out

  final_tells : Decides (tell.may_be_final p d) (MayHave p d modifier.Final)
  final_tells = like (either (either (class_tells p d) field_tells) method_of_class_tells)
      (λ h. ⊎_elim (λ k. ⊎_elim (λ f. MayHave.final_class f) (λ f. MayHave.final_field f) k) (λ f. MayHave.final_method f) h) final_out

  native_tells : Decides (tell.is_method_of_class p d) (MayHave p d modifier.Native)
  native_tells = like method_of_class_tells (λ h. MayHave.native_method h) native_out

  module _ (all : Modifiers) where
    -- one that it may not have
    abbrev Forbidden : Type 0
    Forbidden = (m : Modifier) × ((has_modifier all m ≡ true) × (MayHave p d m → ⊥))

    abbrev Lacks : Bool → Modifier → Type 0
    Lacks has m = (has ≡ true) × (MayHave p d m → ⊥)

    abbrev Ways : Type 0
    Ways = ((((((all.is_protected ≡ true) ⊎ (all.is_private ≡ true)) × (IsOfClass p d → ⊥)) ⊎ Lacks all.is_abstract modifier.Abstract) ⊎ Lacks all.is_static modifier.Static) ⊎ Lacks all.is_final modifier.Final) ⊎ Lacks all.is_native modifier.Native

    forbidden_in : Ways → Forbidden
    forbidden_in (inl (inl (inl (inl (inl e, no'))))) = (modifier.Protected, (e, λ h. no' (protected_out h)))
    forbidden_in (inl (inl (inl (inl (inr e, no'))))) = (modifier.Private, (e, λ h. no' (private_out h)))
    forbidden_in (inl (inl (inl (inr h)))) = (modifier.Abstract, (h.0, h.1))
    forbidden_in (inl (inl (inr h))) = (modifier.Static, (h.0, h.1))
    forbidden_in (inl (inr h)) = (modifier.Final, (h.0, h.1))
    forbidden_in (inr h) = (modifier.Native, (h.0, h.1))

    forbidden_by : (m : Modifier) → has_modifier all m ≡ true → (MayHave p d m → ⊥) → Ways
    forbidden_by modifier.Public e no' = absurd (no' MayHave.public)
    forbidden_by modifier.Protected e no' = inl (inl (inl (inl (inl e, λ h. no' (MayHave.protected h)))))
    forbidden_by modifier.Private e no' = inl (inl (inl (inl (inr e, λ h. no' (MayHave.private h)))))
    forbidden_by modifier.Abstract e no' = inl (inl (inl (inr (e, no'))))
    forbidden_by modifier.Static e no' = inl (inl (inr (e, no')))
    forbidden_by modifier.Final e no' = inl (inr (e, no'))
    forbidden_by modifier.Native e no' = inr (e, no')

    forbidden_tells : Decides (tell.has_forbidden p d all) Forbidden
    forbidden_tells = like
        (either (either (either (either (both (either (itself all.is_protected) (itself all.is_private)) (opposite of_class_tells)) (both (itself all.is_abstract) (opposite abstract_tells))) (both (itself all.is_static) (opposite static_tells)))
        (both (itself all.is_final) (opposite final_tells))) (both (itself all.is_native) (opposite native_tells)))
        forbidden_in (λ h. forbidden_by h.0 h.1.0 h.1.1)

    -- two that exclude each other
    abbrev Excluded : Type 0
    Excluded = (m : Modifier) × ((k : Modifier) × ((has_modifier all m ≡ true) × ((has_modifier all k ≡ true) × Exclude p d m k)))

    abbrev Pairs : Type 0
    Pairs = (((all.is_public ≡ true) × ((all.is_protected ≡ true) ⊎ (all.is_private ≡ true))) ⊎ ((all.is_protected ≡ true) × (all.is_private ≡ true)))
        ⊎ ((all.is_abstract ≡ true) × ((all.is_final ≡ true) ⊎ ((role_at p d ≡ role.Method) × (((all.is_private ≡ true) ⊎ (all.is_static ≡ true)) ⊎ (all.is_native ≡ true)))))

    excluded_in : Pairs → Excluded
    excluded_in (inl (inl (e, inl f))) = (modifier.Public, (modifier.Protected, (e, (f, Exclude.public_protected))))
    excluded_in (inl (inl (e, inr f))) = (modifier.Public, (modifier.Private, (e, (f, Exclude.public_private))))
    excluded_in (inl (inr (e, f))) = (modifier.Protected, (modifier.Private, (e, (f, Exclude.protected_private))))
    excluded_in (inr (e, inl f)) = (modifier.Abstract, (modifier.Final, (e, (f, Exclude.abstract_final))))
    excluded_in (inr (e, inr (r, inl (inl f)))) = (modifier.Abstract, (modifier.Private, (e, (f, Exclude.abstract_private r))))
    excluded_in (inr (e, inr (r, inl (inr f)))) = (modifier.Abstract, (modifier.Static, (e, (f, Exclude.abstract_static r))))
    excluded_in (inr (e, inr (r, inr f))) = (modifier.Abstract, (modifier.Native, (e, (f, Exclude.abstract_native r))))

    excluded_by : (m k : Modifier) → has_modifier all m ≡ true → has_modifier all k ≡ true → Exclude p d m k → Pairs
    excluded_by m k e f Exclude.public_protected = inl (inl (e, inl f))
    excluded_by m k e f Exclude.public_private = inl (inl (e, inr f))
    excluded_by m k e f Exclude.protected_private = inl (inr (e, f))
    excluded_by m k e f Exclude.abstract_final = inr (e, inl f)
    excluded_by m k e f (Exclude.abstract_private r) = inr (e, inr (r, inl (inl f)))
    excluded_by m k e f (Exclude.abstract_static r) = inr (e, inr (r, inl (inr f)))
    excluded_by m k e f (Exclude.abstract_native r) = inr (e, inr (r, inr f))

    excluded_tells : Decides (tell.has_excluded p d all) Excluded
    excluded_tells = like
        (either (either (both (itself all.is_public) (either (itself all.is_protected) (itself all.is_private))) (both (itself all.is_protected) (itself all.is_private)))
        (both (itself all.is_abstract) (either (itself all.is_final) (both method_tells (either (either (itself all.is_private) (itself all.is_static)) (itself all.is_native))))))
        excluded_in (λ h. excluded_by h.0 h.1.0 h.1.1.0 h.1.1.1.0 h.1.1.1.1)

  wrong_out : HasWrongModifier p d → Forbidden (written (label p d)) ⊎ Excluded (written (label p d))
  wrong_out (HasWrongModifier.not_allowed m h no') = inl (m, (h, no'))
  wrong_out (HasWrongModifier.excluded m k h i x) = inr (m, (k, (h, (i, x))))

  pub wrong_tells : Decides (tell.has_wrong_modifier p d) (HasWrongModifier p d)
  wrong_tells = like (either (forbidden_tells (written (label p d))) (excluded_tells (written (label p d))))
      (λ h. ⊎_elim (λ k. HasWrongModifier.not_allowed k.0 k.1.0 k.1.1) (λ k. HasWrongModifier.excluded k.0 k.1.0 k.1.1.0 k.1.1.1.0 k.1.1.1.1) h) wrong_out

pub modifiers_told : (m : Marks) (d : ℕ) → Decides (tell.breaks_modifiers m d) (BreaksModifiers m d)
modifiers_told m d = like (both (modifiers_tell (role_at m.rows.now d)) (either (wrong_tells m.rows.now d) (repeats_tells m d))) (λ h. record { modified = h.0; wrong = h.1 }) (λ h. (h.modified, h.wrong))

-- what breaks the rule is a row
pub modified_row : (m : Marks) (d : ℕ) → BreaksModifiers m d → d < length m.rows.now
modified_row m d h = bounded (λ l. HasModifiers (role_of l)) (λ h. h) m.rows.now d h.modified
