-- The test of objects that are wanted and not there tells what it is to tell.
use Rattle.std.proofs.Common.{◌≡◌, ◌⊎◌, refl, sym, ap, subst, inl, inr, ℕ, true, false, not, Option, Some, Decides}
use Rattle.std.proofs.lemmas.Bool.{false≢true}
use Rattle.std.proofs.lemmas.Option.{none-some, same_Some}
use Rattle.jr_tree.specs.declared.label.Label.{Label}
use Rattle.jr_tree.specs.declared.label.Label.TheVariants as is
use Rattle.jr_tree.specs.declared.label.ReceiverKind.TheVariants as on
use Rattle.jr_tree.specs.declared.label.Role.{Role}
use Rattle.jr_tree.specs.declared.label.Role.TheVariants as role
use Rattle.jr_tree.specs.declared.label.Sought.{Sought}
use Rattle.jr_tree.specs.declared.label.Sought.TheVariants as sought
use Rattle.jr_tree.specs.Rows.{Rows, label, role_at, sought_at}
use Rattle.jr_defs.specs.declared.referent.Referent.{Referent}
use Rattle.jr_defs.specs.declared.referent.Referent.TheVariants.{Declared}
use Rattle.jr_defs.specs.Referents.{Table}
use Rattle.jr_defs.specs.Enclosing.{Innermost}
use Rattle.jr_defs.specs.Types.{NamesType}
use Rattle.jr_defs.specs.Rules.{IsBehindDot}
use Rattle.jr_plain.specs.Search.{Finds}
use Rattle.jr_plain.specs.Types.{named_type}
use Rattle.jr_plain.proofs.Tests.{always, never, both, either, opposite, like}
use Rattle.jr_plain.proofs.Enclosed.{innermost_finds}
use Rattle.jr_plain.proofs.Modified.{found_tells, some_tells, static_tells}
use Rattle.jr_plain.proofs.Instanced.{constructor_call_tells, innermost_tells, instance_tells}
use Rattle.jr_plain.proofs.Typed.{named_finds}
use Rattle.jr_plain.proofs.Finding.{some_finds, none_finds, guard_finds, like_finds}
use Rattle.jr_rules.specs.Objects.{IsFieldOrMethod, IsInstanceMember, IsBySuper, NeedsObject, MayUse, LacksObject}
use Rattle.jr_rules.specs.TypedTests.{declared_row}
use Rattle.jr_rules.specs.ObjectTests as plain
use Rattle.jr_rules.proofs.Kids.{declared_finds}

field_or_method_tells : (r : Role) → Decides (plain.is_field_or_method r) (IsFieldOrMethod r)
field_or_method_tells role.Field = always
field_or_method_tells role.Method = always
field_or_method_tells _ = never

pub instance_member_tells : (p : Rows) (d : ℕ) → Decides (plain.is_instance_member p d) (IsInstanceMember p d)
instance_member_tells p d = like (both (field_or_method_tells (role_at p d)) (opposite (static_tells p d))) (λ h. record { kind = h.0; instance = h.1 }) (λ h. (h.kind, h.instance))

pub behind_dot_tells : (s : Sought) → Decides (plain.is_behind_dot s) (IsBehindDot s)
behind_dot_tells (sought.Qualified kind) = always
behind_dot_tells sought.FieldOf = always
behind_dot_tells sought.MethodOf = always
behind_dot_tells _ = never

pub new_tells : (l : Label) → Decides (plain.is_new l) (l ≡ is.New)
new_tells is.New = (λ h. refl, λ e. refl)
new_tells _ = (λ h. absurd (false≢true h), λ e. absurd (cc))

pub may_use_tells : (p : Rows) (o c : ℕ) → Decides (plain.may_use p o c) (MayUse p o c)
may_use_tells p o c = like (both (instance_tells p o c) (opposite (both (constructor_call_tells p o) (innermost_tells p o c))))
    (λ h. record { there = h.0; complete = λ i k. h.1 (i, k) }) (λ h. (h.there, λ k. h.complete k.0 k.1))

may_not_tells : (p : Rows) (o : ℕ) (P : ℕ → Type 0) (needed : Option ℕ) → Finds needed P → Decides (plain.may_not_use p o needed) ((c : ℕ) × P c × (MayUse p o c → ⊥))
may_not_tells p o P needed finds = found_tells P (λ c. not (plain.may_use p o c)) (λ c. MayUse p o c → ⊥) (λ c. opposite (may_use_tells p o c)) needed finds

-- a level, and the member that has it
same_row : {d e : ℕ} {l m : Option ℕ} → Declared d l ≡ Declared e m → d ≡ e
same_row e = cc

same_level : {d e c x : ℕ} → Declared d (Some c) ≡ Declared e (Some x) → c ≡ x
same_level e = cc

member_object_finds : (p : Rows) (a : Referent) → Finds (plain.object_of_member p a) (λ c. (d : ℕ) × (a ≡ Declared d (Some c)) × IsInstanceMember p d)
member_object_finds p (Declared d (Some c)) = like_finds (plain.object_of_member p (Declared d (Some c)))
    (guard_finds (plain.is_instance_member p d) (Some c) (instance_member_tells p d) (some_finds c))
    (λ x h. (d, ap (λ k. Declared d (Some k)) h.1, h.0)) (λ x h. (subst (λ k. IsInstanceMember p k) (sym (same_row h.1)) h.2, same_level h.1))
member_object_finds p _ = λ x. (λ e. absurd (none-some x e), λ h. let e = h.1 in absurd (cc))

round_object_finds : (a : Referent) → Finds (plain.object_round a) (λ c. (k : ℕ) × (a ≡ Declared k (Some c)))
round_object_finds (Declared k (Some c)) = λ x. (λ e. (k, ap (λ z. Declared k (Some z)) (same_Some c x e)), λ h. ap Some (same_level h.1))
round_object_finds _ = λ x. (λ e. absurd (none-some x e), λ h. let e = h.1 in absurd (cc))

module _ (p : Rows) (t : Table) (o : ℕ) where
  abbrev ObjectOf : Label → ℕ → Type 0
  ObjectOf (is.This false) c = Innermost p o c
  ObjectOf (is.This true) c = NamesType p t o c
  ObjectOf is.SuperSelect c = Innermost p o c
  ObjectOf (is.Call on.Super) c = Innermost p o c
  ObjectOf _ c = ⊥

  object_finds : (l : Label) → Finds (plain.object_of p t o l) (λ c. ObjectOf l c)
  object_finds (is.This false) = innermost_finds p o
  object_finds (is.This true) = named_finds p t o
  object_finds is.SuperSelect = innermost_finds p o
  object_finds (is.Call on.Super) = innermost_finds p o
  object_finds _ = none_finds

  object_out : (l : Label) (c : ℕ) → label p o ≡ l → ObjectOf l c → NeedsObject p t o c
  object_out (is.This false) c at h = NeedsObject.as_this at h
  object_out (is.This true) c at h = NeedsObject.as_this_of at h
  object_out is.SuperSelect c at h = NeedsObject.by_super (subst IsBySuper (sym at) tt) h
  object_out (is.Call on.Super) c at h = NeedsObject.by_super (subst IsBySuper (sym at) tt) h
  object_out _ c at h = absurd h

  super_in : (l : Label) (c : ℕ) → IsBySuper l → Innermost p o c → ObjectOf l c
  super_in is.SuperSelect c b h = h
  super_in (is.Call on.Super) c b h = h
  super_in _ c b h = absurd b

  abbrev Lacks : (ℕ → Type 0) → Type 0
  Lacks P = (c : ℕ) × P c × (MayUse p o c → ⊥)

  abbrev BehindType : Type 0
  BehindType = (IsBehindDot (sought_at p o) × ((c : ℕ) × NamesType p t o c)) × ((d : ℕ) × ((level : Option ℕ) × (t o ≡ Declared d level)) × IsInstanceMember p d)

  behind_type_tells : Decides (plain.is_behind_type p t o) BehindType
  behind_type_tells = both (both (behind_dot_tells (sought_at p o)) (some_tells (λ c. NamesType p t o c) (named_type p t o) (named_finds p t o)))
      (found_tells (λ d. (level : Option ℕ) × (t o ≡ Declared d level)) (λ d. plain.is_instance_member p d) (λ d. IsInstanceMember p d) (instance_member_tells p) (declared_row (t o)) (declared_finds (t o)))

  abbrev Ways : Type 0
  Ways = Lacks (λ c. ObjectOf (label p o) c) ⊎ (Lacks (λ c. (d : ℕ) × (t o ≡ Declared d (Some c)) × IsInstanceMember p d)
      ⊎ (((label p o ≡ is.New) × Lacks (λ c. (k : ℕ) × (t o ≡ Declared k (Some c)))) ⊎ BehindType))

  ways_tell : Decides (plain.lacks_object p t o) Ways
  ways_tell = either (may_not_tells p o (λ c. ObjectOf (label p o) c) (plain.object_of p t o (label p o)) (object_finds (label p o)))
      (either (may_not_tells p o (λ c. (d : ℕ) × (t o ≡ Declared d (Some c)) × IsInstanceMember p d) (plain.object_of_member p (t o)) (member_object_finds p (t o)))
      (either (both (new_tells (label p o)) (may_not_tells p o (λ c. (k : ℕ) × (t o ≡ Declared k (Some c))) (plain.object_round (t o)) (round_object_finds (t o)))) behind_type_tells))

  ways_out : Ways → LacksObject p t o
  ways_out (inl h) = LacksObject.not_there (object_out (label p o) h.0 refl h.1) h.2
  ways_out (inr (inl h)) = LacksObject.not_there (NeedsObject.of_member h.1.1 h.1.2) h.2
  ways_out (inr (inr (inl h))) = LacksObject.not_there (NeedsObject.round_new h.0 h.1.1.1) h.1.2
  ways_out (inr (inr (inr h))) = LacksObject.behind_type h.0.0 h.0.1.1 h.1.1.1 h.1.2

  needs_in : {c : ℕ} → NeedsObject p t o c → (MayUse p o c → ⊥) → Ways
  needs_in {c} (NeedsObject.as_this at h) out = inl (c, subst (λ l. ObjectOf l c) (sym at) h, out)
  needs_in {c} (NeedsObject.as_this_of at h) out = inl (c, subst (λ l. ObjectOf l c) (sym at) h, out)
  needs_in {c} (NeedsObject.by_super b h) out = inl (c, super_in (label p o) c b h, out)
  needs_in {c} (NeedsObject.of_member {d = d} e h) out = inr (inl (c, (d, e, h), out))
  needs_in {c} (NeedsObject.round_new {k = k} at e) out = inr (inr (inl (at, (c, (k, e), out))))

  ways_in : LacksObject p t o → Ways
  ways_in (LacksObject.not_there h out) = needs_in h out
  ways_in (LacksObject.behind_type {c = c} {d = d} {level = level} b n e h) = inr (inr (inr ((b, (c, n)), (d, (level, e), h))))

  pub lacks_object_tells : Decides (plain.lacks_object p t o) (LacksObject p t o)
  lacks_object_tells = like ways_tell ways_out ways_in
