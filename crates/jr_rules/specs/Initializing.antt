-- Rule 12: a field that an initializer reads too early (JLS 8.3.2.3).
use Rattle.std.specs.Prelude.{◌≡◌, ◌⊎◌, ℕ, ◌+◌, ◌<◌, Option}
use Rattle.jr_base.specs.declared.kind.Symbol.TheVariants as y
use Rattle.jr_tree.specs.declared.label.Label.{Label}
use Rattle.jr_tree.specs.declared.label.Label.TheVariants as is
use Rattle.jr_tree.specs.declared.label.Role.TheVariants as role
use Rattle.jr_tree.specs.declared.label.Sought.{Sought}
use Rattle.jr_tree.specs.declared.label.Sought.TheVariants as sought
use Rattle.jr_tree.specs.Rows.{Rows, label, parent, end, role_at, sought_at}
use Rattle.jr_defs.specs.declared.referent.Referent.TheVariants.{Declared}
use Rattle.jr_defs.specs.Referents.{Table}
use Rattle.jr_defs.specs.Enclosing.{DeclaredIn}
use Rattle.jr_defs.specs.Modifiers.{IsStatic}
use Rattle.jr_defs.specs.Instances.{InStaticContext}
use Rattle.jr_rules.specs.Typed.{InMember}

-- a name without a dot, or the first identifier of one with dots
abbrev pub IsSimple : Sought → Type 0
IsSimple (sought.Simple kind) = Unit {0}
IsSimple _ = ⊥

-- a declaration of fields, or an initializer
abbrev pub IsInitializing : Label → Type 0
IsInitializing (is.Fields modifiers) = Unit {0}
IsInitializing (is.Initializer is_static) = Unit {0}
IsInitializing _ = ⊥

-- the place is an initializer of the type c, for one of its fields or of its own
pub record InInitializer (p : Rows) (o c : ℕ) : Type 0 where
  pub member : ℕ
  pub inside : InMember p o c member
  pub initializing : IsInitializing (label p member)

-- the left side of a plain assignment
pub record IsAssignedTo (p : Rows) (o : ℕ) : Type 0 where
  pub assigns : label p (parent p o) ≡ is.Assign y.Assign
  pub left : o ≡ parent p o + 1

-- both the place and the field are static, or neither is
abbrev pub AreAlike : Rows → ℕ → ℕ → Type 0
AreAlike p o d = (InStaticContext p o × IsStatic p d) ⊎ ((InStaticContext p o → ⊥) × (IsStatic p d → ⊥))

-- a field of the innermost class that is declared later or is being initialized
pub record IsEarly (p : Rows) (o d : ℕ) : Type 0 where
  pub field : role_at p d ≡ role.Field
  pub unfinished : o < end p d
  pub alike : AreAlike p o d
  pub class : ℕ
  pub declared : DeclaredIn p class d
  pub initializer : InInitializer p o class

-- rule 12: in an initializer, such a field by its simple name, other than as the left side of a plain assignment
pub record IsUsedTooEarly (p : Rows) (t : Table) (o : ℕ) : Type 0 where
  pub simple : IsSimple (sought_at p o)
  pub read : IsAssignedTo p o → ⊥
  pub field : ℕ
  pub level : Option ℕ
  pub refers : t o ≡ Declared field level
  pub early : IsEarly p o field
