-- Declarations, their kinds, and the rows that refer (JLS 6.1, 6.5).
use Rattle.std.specs.Prelude.{◌≡◌, ◌⊎◌, ℕ, ◌+◌, codes, Option}
use Rattle.jr_base.specs.declared.text.Text.{Text}
use Rattle.jr_tree.specs.declared.label.Label.{Label}
use Rattle.jr_tree.specs.declared.label.Label.TheVariants as is
use Rattle.jr_tree.specs.declared.label.NamePlace.TheVariants as place
use Rattle.jr_tree.specs.declared.label.Role.{Role}
use Rattle.jr_tree.specs.declared.label.Role.TheVariants as role
use Rattle.jr_tree.specs.declared.label.Sought.TheVariants as sought
use Rattle.jr_tree.specs.Rows.{Rows, label, name, parent, role_at, sought_at}
use Rattle.jr_defs.specs.declared.referent.Space.{Space}
use Rattle.jr_defs.specs.declared.referent.Space.TheVariants as space
use Rattle.jr_defs.specs.declared.referent.Referent.TheVariants.{Package, Declared}
use Rattle.jr_defs.specs.Referents.{Table}

-- which declarations have names of this kind
abbrev pub IsOf : Space → Role → Type 0
IsOf space.Type role.Type = Unit {0}
IsOf space.Variable role.Field = Unit {0}
IsOf space.Variable role.Parameter = Unit {0}
IsOf space.Variable role.Local = Unit {0}
IsOf space.Method role.Method = Unit {0}
IsOf space.Label role.Label = Unit {0}
IsOf _ _ = ⊥

-- the row declares this name, of this kind
pub record Declares (p : Rows) (kind : Space) (x : Text) (d : ℕ) : Type 0 where
  pub of_kind : IsOf kind (role_at p d)
  pub named : name p d ≡ x

abbrev pub IsType : Rows → ℕ → Type 0
IsType p c = role_at p c ≡ role.Type

abbrev pub IsClassLabel : Label → Type 0
IsClassLabel (is.Class modifiers is_member) = Unit {0}
IsClassLabel _ = ⊥

abbrev pub IsInterfaceLabel : Label → Type 0
IsInterfaceLabel (is.Interface modifiers is_member) = Unit {0}
IsInterfaceLabel _ = ⊥

abbrev pub IsClass : Rows → ℕ → Type 0
IsClass p c = IsClassLabel (label p c)

abbrev pub IsInterface : Rows → ℕ → Type 0
IsInterface p c = IsInterfaceLabel (label p c)

abbrev pub IsVariable : Rows → ℕ → Type 0
IsVariable p d = IsOf space.Variable (role_at p d)

-- a type of java.lang that the first unit of the prelude declares; that unit is row 1
pub record IsPrelude (p : Rows) (x : Text) (c : ℕ) : Type 0 where
  pub type : IsType p c
  pub inside : parent p c ≡ 1
  pub named : name p c ≡ x

abbrev pub IsObject : Rows → ℕ → Type 0
IsObject p c = IsPrelude p (codes "Object") c

abbrev pub IsString : Rows → ℕ → Type 0
IsString p c = IsPrelude p (codes "String") c

-- a row that refers: it looks for something, and is not the call of super() that Object does without
pub record IsOccurrence (p : Rows) (o : ℕ) : Type 0 where
  pub seeks : sought_at p o ≡ sought.Nothing → ⊥
  pub above : label p o ≡ is.ImplicitCall → IsObject p (parent p (parent p (parent p o))) → ⊥

-- an identifier before a dot of a name, or the last one before the dot of a call
abbrev pub IsBeforeDotLabel : Label → Type 0
IsBeforeDotLabel (is.Name kind place.Qualifier is_qualified) = Unit {0}
IsBeforeDotLabel (is.Name kind place.Receiver is_qualified) = Unit {0}
IsBeforeDotLabel _ = ⊥

-- what stands before a dot and is a package or a type is part of a longer reference
pub data IsPart (p : Rows) (t : Table) : ℕ → Type 0 where
  of_package : {o : ℕ} → IsBeforeDotLabel (label p o) → t o ≡ Package → IsPart p t o
  of_type : {o d : ℕ} {level : Option ℕ} → IsBeforeDotLabel (label p o) → t o ≡ Declared d level → IsType p d → IsPart p t o

-- a reference, by its last identifier: an occurrence that is no part of a longer one
pub record IsReference (p : Rows) (t : Table) (o : ℕ) : Type 0 where
  pub occurs : IsOccurrence p o
  pub whole : IsPart p t o → ⊥
