-- Rule 11: an instance member, `this`, `super` or an inner class where there is no object (JLS 6.5.6, 8.8.7.1, 15.8.3, 15.8.4, 15.9.2, 15.11.2, 15.12.3).
use Rattle.std.specs.Prelude.{◌≡◌, ℕ, true, false, Option, Some}
use Rattle.jr_tree.specs.declared.label.Label.{Label}
use Rattle.jr_tree.specs.declared.label.Label.TheVariants as is
use Rattle.jr_tree.specs.declared.label.ReceiverKind.TheVariants as on
use Rattle.jr_tree.specs.declared.label.Role.{Role}
use Rattle.jr_tree.specs.declared.label.Role.TheVariants as role
use Rattle.jr_tree.specs.Rows.{Rows, label, role_at, sought_at}
use Rattle.jr_defs.specs.declared.referent.Referent.TheVariants.{Declared}
use Rattle.jr_defs.specs.Referents.{Table}
use Rattle.jr_defs.specs.Enclosing.{Innermost}
use Rattle.jr_defs.specs.Modifiers.{IsStatic}
use Rattle.jr_defs.specs.Types.{NamesType}
use Rattle.jr_defs.specs.Instances.{InConstructorCall, HasInstance}
use Rattle.jr_defs.specs.Rules.{IsBehindDot}

-- a field or method
abbrev pub IsFieldOrMethod : Role → Type 0
IsFieldOrMethod role.Field = Unit {0}
IsFieldOrMethod role.Method = Unit {0}
IsFieldOrMethod _ = ⊥

-- a field or method of objects
pub record IsInstanceMember (p : Rows) (d : ℕ) : Type 0 where
  pub kind : IsFieldOrMethod (role_at p d)
  pub instance : IsStatic p d → ⊥

-- `super.x` or `super.m(..)`
abbrev pub IsBySuper : Label → Type 0
IsBySuper is.SuperSelect = Unit {0}
IsBySuper (is.Call on.Super) = Unit {0}
IsBySuper _ = ⊥

-- the place needs an object of the class c: as `this` or `T.this`, for `super`, for an instance member that it names without a receiver, or round the object of an inner class that it creates
pub data NeedsObject (p : Rows) (t : Table) (o : ℕ) : ℕ → Type 0 where
  as_this : {c : ℕ} → label p o ≡ is.This false → Innermost p o c → NeedsObject p t o c
  as_this_of : {c : ℕ} → label p o ≡ is.This true → NamesType p t o c → NeedsObject p t o c
  by_super : {c : ℕ} → IsBySuper (label p o) → Innermost p o c → NeedsObject p t o c
  of_member : {c d : ℕ} → t o ≡ Declared d (Some c) → IsInstanceMember p d → NeedsObject p t o c
  round_new : {c k : ℕ} → label p o ≡ is.New → t o ≡ Declared k (Some c) → NeedsObject p t o c

-- the place may use an object of the class c: there is one, and it is not the one whose constructor is being called
pub record MayUse (p : Rows) (o c : ℕ) : Type 0 where
  pub there : HasInstance p o c
  pub complete : InConstructorCall p o → Innermost p o c → ⊥

-- rule 11: the object that the place needs may not be used, or an instance member stands behind the name of a type
pub data LacksObject (p : Rows) (t : Table) (o : ℕ) : Type 0 where
  not_there : {c : ℕ} → NeedsObject p t o c → (MayUse p o c → ⊥) → LacksObject p t o
  behind_type : {c d : ℕ} {level : Option ℕ} → IsBehindDot (sought_at p o) → NamesType p t o c → t o ≡ Declared d level → IsInstanceMember p d → LacksObject p t o
