-- Scope and shadowing (JLS 6.3, 6.3.1, 8.4.1, 14.4.2, 14.7, 14.14.1, 14.20).
use Rattle.std.specs.Prelude.{◌≡◌, ◌⊎◌, ℕ, ◌+◌, ◌<◌, ◌≤◌}
use Rattle.jr_base.specs.declared.text.Text.{Text}
use Rattle.jr_tree.specs.declared.label.Label.{Label}
use Rattle.jr_tree.specs.declared.label.Label.TheVariants as is
use Rattle.jr_tree.specs.declared.label.Role.TheVariants as role
use Rattle.jr_tree.specs.Rows.{Rows, label, parent, end, role_at}
use Rattle.jr_defs.specs.declared.referent.Space.{Space}
use Rattle.jr_defs.specs.declared.referent.Space.TheVariants as space
use Rattle.jr_defs.specs.Referents.{Table}
use Rattle.jr_defs.specs.Declarations.{Declares, IsType}
use Rattle.jr_defs.specs.Enclosing.{InBody, IsTopLevel}
use Rattle.jr_defs.specs.Packages.{InUnit, SamePackage}
use Rattle.jr_defs.specs.Members.{MemberOf}
use Rattle.jr_defs.specs.Imports.{SingleImport, StaticImport, OnDemandImport, ImportsHold}

-- where the block of a declaration of locals ends, whose parent is the row b: all groups of a switch are one block (JLS 14.11)
abbrev pub block_end_by : Label → Rows → ℕ → ℕ
block_end_by is.Group p b = end p (parent p b)
block_end_by _ p b = end p b

abbrev pub block_end : Rows → ℕ → ℕ
block_end p b = block_end_by (label p b) p b

-- the scope of a local holds the place: its own initializer, later declarators and the rest of its block; in the header of a `for` also
-- the condition, the update and the body (JLS 14.4.2, 14.14.1)
pub record InLocalScope (p : Rows) (d o : ℕ) : Type 0 where
  pub local : role_at p d ≡ role.Local
  pub after : d < o
  pub before : o < block_end p (parent p (parent p d))

-- the scope of a parameter holds the place: the whole body of its method, constructor or catch (JLS 6.3, 14.20)
pub record InParameterScope (p : Rows) (d o : ℕ) : Type 0 where
  pub parameter : role_at p d ≡ role.Parameter
  pub body : ℕ
  pub block : label p body ≡ is.Block
  pub beside : parent p body ≡ parent p d
  pub from : body ≤ o
  pub before : o < end p body

-- the scope of a label is its statement (JLS 14.7)
pub record InLabelScope (p : Rows) (d o : ℕ) : Type 0 where
  pub labeled : role_at p d ≡ role.Label
  pub after : d < o
  pub before : o < end p d

-- how far in a declaration is in scope
pub data Depth : Type 0 where
  on_demand : Depth
  of_package : Depth
  of_unit : Depth
  imported : Depth
  within : ℕ → Depth

-- what is further in shadows: imports on demand shadow nothing, types of the package shadow them, what is imported by name shadows both,
-- and all else goes by the row that it is declared in, or through (JLS 6.3.1, 7.5.1, 7.5.2)
abbrev pub rank : Depth → ℕ
rank on_demand = 0
rank of_package = 1
rank of_unit = 2
rank imported = 2
rank (within s) = 3 + s

-- what is in so far as q does not shadow what is in so far as r: of the top-level types of one package none shadows another
pub data IsNoFurther : Depth → Depth → Type 0 where
  by_rank : {q r : Depth} → rank q ≤ rank r → IsNoFurther q r
  of_one_package : IsNoFurther of_unit of_package

-- a top-level type of the same package, and of the same unit or another
pub record TypeOfUnit (p : Rows) (o d : ℕ) : Type 0 where
  pub top : IsTopLevel p d
  pub unit : ℕ
  pub first : InUnit p unit o
  pub second : InUnit p unit d

pub record TypeOfOther (p : Rows) (o d : ℕ) : Type 0 where
  pub top : IsTopLevel p d
  pub same : SamePackage p o d
  pub elsewhere : TypeOfUnit p o d → ⊥

-- an import of the unit round the place holds there
pub record Imported (p : Rows) (B : ℕ → ℕ → Type 0) (o d : ℕ) : Type 0 where
  pub unit : ℕ
  pub holds : ImportsHold p unit o
  pub brings : B unit d

-- the scope of the declaration d holds the place o, so far in (JLS 6.3)
pub data HasScope (p : Rows) (t : Table) (o : ℕ) : ℕ → Depth → Type 0 where
  local : {d : ℕ} → InLocalScope p d o → HasScope p t o d (within d)
  parameter : {d : ℕ} → InParameterScope p d o → HasScope p t o d (within d)
  labeled : {d : ℕ} → InLabelScope p d o → HasScope p t o d (within d)
  member : {c d : ℕ} → InBody p c o → MemberOf p t c d → HasScope p t o d (within c)
  of_same_unit : {d : ℕ} → TypeOfUnit p o d → HasScope p t o d of_unit
  of_same_package : {d : ℕ} → TypeOfOther p o d → HasScope p t o d of_package
  single : {d : ℕ} → Imported p (SingleImport p t) o d → HasScope p t o d imported
  static : {d : ℕ} → Imported p (StaticImport p t) o d → HasScope p t o d imported
  demanded : {d : ℕ} → Imported p (OnDemandImport p t) o d → HasScope p t o d on_demand

-- in scope at the place, under the name
pub record InScope (p : Rows) (t : Table) (kind : Space) (x : Text) (o d : ℕ) (r : Depth) : Type 0 where
  pub scope : HasScope p t o d r
  pub declares : Declares p kind x d

-- two parameters of one list: neither stands in the scope of the other, so neither shadows it (JLS 8.4.1)
pub record InOneList (p : Rows) (d e : ℕ) : Type 0 where
  pub first : role_at p d ≡ role.Parameter
  pub second : role_at p e ≡ role.Parameter
  pub beside : parent p d ≡ parent p e

-- the one declaration shadows the other where the scope of both holds the place; labels shadow nothing (JLS 6.3.1, 14.7)
pub record Shadows (p : Rows) (t : Table) (o d e : ℕ) : Type 0 where
  pub kind : Space
  pub x : Text
  pub inner : Depth
  pub outer : Depth
  pub first : InScope p t kind x o d inner
  pub second : InScope p t kind x o e outer
  pub further : IsNoFurther inner outer → ⊥
  pub no_label : kind ≡ space.Label → ⊥
  pub apart : InOneList p d e → ⊥

-- in scope, and not shadowed by another such
pub record Visible (p : Rows) (t : Table) (kind : Space) (x : Text) (o d : ℕ) (r : Depth) : Type 0 where
  pub in_scope : InScope p t kind x o d r
  pub innermost : (e : ℕ) (q : Depth) → InScope p t kind x o e q → IsNoFurther q r ⊎ InOneList p e d
