-- Where members that are not public are accessible (JLS 6.6.1, 6.6.2).
use Rattle.std.specs.Prelude.{ℕ, zero, suc, Bool, if◌then◌else◌, Option, Some, None}
use Rattle.jr_tree.specs.Rows.{Rows}
use Rattle.jr_defs.specs.declared.referent.Element.{Element}
use Rattle.jr_defs.specs.declared.referent.Element.TheVariants as element
use Rattle.jr_defs.specs.declared.referent.RowType.{RowType}
use Rattle.jr_defs.specs.Referents.{Table}
use Rattle.jr_defs.specs.Enclosing.{InBody}
use Rattle.jr_defs.specs.Supertypes.{AtOrAbove}
use Rattle.jr_defs.specs.Access.{IsThrough}
use Rattle.jr_plain.specs.Enclosing.{is_same_top_level}
use Rattle.jr_plain.specs.Modifiers.{is_private}
use Rattle.jr_plain.specs.Packages.{is_same_package}

-- the class s is at or below the one that declares the member d, which is reached through it
pub record IsSubclass (p : Rows) (t : Table) (holder d : ℕ) (receiver : Option RowType) (s : ℕ) : Type 0 where
  pub above : AtOrAbove p t s holder
  pub through : IsThrough p t s d receiver

-- the place o stands in the body of such a class
pub record IsInSubclass (p : Rows) (t : Table) (holder d o : ℕ) (receiver : Option RowType) : Type 0 where
  pub subclass : ℕ
  pub body : InBody p subclass o
  pub is : IsSubclass p t holder d receiver subclass

-- a private member is accessible inside its top-level type, another one inside its package
abbrev pub is_near : Rows → ℕ → ℕ → Bool
is_near p d o = if is_private p d then is_same_top_level p d o else is_same_package p d o

-- the class of a type that is no array
abbrev pub class_by : ℕ → Element → Option ℕ
class_by zero (element.Class c) = Some c
class_by zero _ = None
class_by (suc dims) _ = None
