-- Declarations, variables and initial values under a renaming.
use Rattle.std.proofs.Common.{◌≡◌, refl, sym, ap, ◌∙◌, subst, ℕ, Bool, true, false, ◌&&◌, ◌||◌, ◌==◌, cond, List, [], ◌∷◌, map}
use Rattle.std.specs.Cmp.Derive.{both_true}
use Rattle.std.proofs.lemmas.Bool.{eqb-true, eq-eqb, and_parts}
use Rattle.jr_base.specs.declared.ids.DeclId.{DeclId}
use Rattle.jr_base.specs.declared.ids.TypeId.{TypeId}
use Rattle.jr_base.specs.Mirror as t
use Rattle.jr_machine_defs.specs.declared.value.Value.{Value}
use Rattle.jr_machine_defs.specs.declared.slots.Slot.{Slot}
use Rattle.jr_machine_defs.specs.Values.{same_decl, same_type, value_of, assigned, slot_of, default_of}
use Rattle.jr_machine_defs.specs.Renamed.{IsRenaming, renamed_type, renamed_ty, renamed_slot}

-- ---- tests

pub cond_same : {X : Type 0} {b c : Bool} {x y z u : X} → b ≡ c → x ≡ y → z ≡ u → cond b x z ≡ cond c y u
cond_same {X} {b} {c} {x} {y} {z} {u} e h k = ap (λ t. cond t x z) e ∙ (ap (λ t. cond c t z) h ∙ ap (λ t. cond c y t) k)

pub image_on : {X Y : Type 0} (g : X → Y) (c : Bool) (x z : X) {u v : Y} → u ≡ g x → v ≡ g z → cond c u v ≡ g (cond c x z)
image_on g true x z h k = h
image_on g false x z h k = k

-- what a function gives of one of two
pub cond_image : {X Y : Type 0} (g : X → Y) {b c : Bool} (x z : X) {u v : Y} → b ≡ c → u ≡ g x → v ≡ g z → cond b u v ≡ g (cond c x z)
cond_image g {b} {c} x z {u} {v} e h k = ap (λ t. cond t u v) e ∙ image_on g c x z h k

pub or_same : {a b c d : Bool} → a ≡ b → c ≡ d → (a || c) ≡ (b || d)
or_same {a} {b} {c} {d} e h = ap (λ t. t || c) e ∙ ap (λ t. b || t) h

true_alike : (a b : Bool) → (a ≡ true → b ≡ true) → (b ≡ true → a ≡ true) → a ≡ b
true_alike true true there back = refl
true_alike true false there back = sym (there refl)
true_alike false true there back = back refl
true_alike false false there back = refl

-- ---- declarations

abbrev pub decl_of : ℕ → ℕ → ℕ → DeclId
decl_of a b c = record { at = record { cu = record { 0 = a }; node = record { 0 = b } }; part = c }

pub same_parts : (a b : DeclId) → a.at.cu.0 ≡ b.at.cu.0 → a.at.node.0 ≡ b.at.node.0 → a.part ≡ b.part → a ≡ b
same_parts a b x y z =
    ap (λ n. decl_of n a.at.node.0 a.part) x ∙ (ap (λ n. decl_of b.at.cu.0 n a.part) y ∙ ap (λ n. decl_of b.at.cu.0 b.at.node.0 n) z)

pub decl_from_same : (a b : DeclId) → same_decl a b ≡ true → a ≡ b
decl_from_same a b h =
    let h1 = and_parts ((a.at.cu.0 == b.at.cu.0) && (a.at.node.0 == b.at.node.0)) (a.part == b.part) h in
    let h2 = and_parts (a.at.cu.0 == b.at.cu.0) (a.at.node.0 == b.at.node.0) h1.0 in
    same_parts a b (eqb-true a.at.cu.0 b.at.cu.0 h2.0) (eqb-true a.at.node.0 b.at.node.0 h2.1) (eqb-true a.part b.part h1.1)

same_itself : (a : DeclId) → same_decl a a ≡ true
same_itself a = both_true (both_true (eq-eqb a.at.cu.0 a.at.cu.0 refl) (eq-eqb a.at.node.0 a.at.node.0 refl)) (eq-eqb a.part a.part refl)

pub same_from_decl : (a b : DeclId) → a ≡ b → same_decl a b ≡ true
same_from_decl a b e = subst (λ x. same_decl a x ≡ true) e (same_itself a)

module _ (f : DeclId → DeclId) (p : IsRenaming f) where
  pub same_renamed : (a b : DeclId) → same_decl (f a) (f b) ≡ same_decl a b
  same_renamed a b = true_alike (same_decl (f a) (f b)) (same_decl a b)
      (λ h. same_from_decl a b (p.one_to_one a b (decl_from_same (f a) (f b) h)))
      (λ h. same_from_decl (f a) (f b) (ap f (decl_from_same a b h)))

  -- the test for a declaration that stays
  pub same_kept : (a kept : DeclId) → f kept ≡ kept → same_decl (f a) kept ≡ same_decl a kept
  same_kept a kept e = subst (λ x. same_decl (f a) x ≡ same_decl a kept) e (same_renamed a kept)

  pub same_type_renamed : (a b : TypeId) → same_type (renamed_type f a) (renamed_type f b) ≡ same_type a b
  same_type_renamed a b = same_renamed a.0 b.0

  pub same_type_kept : (a kept : TypeId) → f kept.0 ≡ kept.0 → same_type (renamed_type f a) kept ≡ same_type a kept
  same_type_kept a kept e = same_kept a.0 kept.0 e

  -- ---- variables

  pub value_of_renamed : (slots : List Slot) (key : DeclId) → value_of (map (renamed_slot f) slots) (f key) ≡ value_of slots key
  value_of_renamed [] key = refl
  value_of_renamed (slot ∷ all) key = cond_same (same_renamed slot.key key) refl (value_of_renamed all key)

  pub assigned_renamed : (slots : List Slot) (key : DeclId) (value : Value) → assigned (map (renamed_slot f) slots) (f key) value ≡ map (renamed_slot f) (assigned slots key value)
  assigned_renamed [] key value = refl
  assigned_renamed (slot ∷ all) key value =
      cond_image (map (renamed_slot f)) (slot_of key value ∷ all) (slot ∷ assigned all key value) (same_renamed slot.key key) refl
      (ap (λ x. renamed_slot f slot ∷ x) (assigned_renamed all key value))

  pub default_renamed : (ty : t.Ty) → default_of (renamed_ty f ty) ≡ default_of ty
  default_renamed t.Boolean = refl
  default_renamed t.Byte = refl
  default_renamed t.Short = refl
  default_renamed t.Char = refl
  default_renamed t.Int = refl
  default_renamed t.Long = refl
  default_renamed t.Null = refl
  default_renamed t.Void = refl
  default_renamed (t.Class class) = refl
  default_renamed (t.Array item) = refl
