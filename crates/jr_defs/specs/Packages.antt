-- Units, packages and the types that they declare (JLS 7.3, 7.4, 7.6).
use Rattle.std.specs.Prelude.{◌≡◌, ℕ, zero, suc, ◌+◌, ◌-◌, ◌<◌, ◌≤◌, List, [], ◌∷◌, ◌++◌}
use Rattle.jr_base.specs.declared.text.Text.{Text}
use Rattle.jr_tree.specs.declared.label.Label.{Label}
use Rattle.jr_tree.specs.declared.label.Label.TheVariants as is
use Rattle.jr_tree.specs.Rows.{Rows, label, name, parent, end}
use Rattle.jr_defs.specs.Enclosing.{IsTopLevel}

-- the identifiers of a name with so many qualifiers, whose last one is the row n
abbrev pub identifiers : Rows → ℕ → ℕ → List Text
identifiers p n zero = name p n ∷ []
identifiers p n (suc more) = identifiers p (n + 1) more ++ name p n ∷ []

-- the identifiers of the name whose last one is the row n; only its qualifiers stand below it
abbrev pub spelled : Rows → ℕ → List Text
spelled p n = identifiers p n (end p n - (n + 1))

-- the unit that holds the place
pub record InUnit (p : Rows) (u o : ℕ) : Type 0 where
  pub unit : label p u ≡ is.Unit
  pub from : u ≤ o
  pub before : o < end p u

-- the package of a unit: what its package declaration names, or the unnamed one (JLS 7.4.1, 7.4.2)
abbrev pub package_by : Label → Rows → ℕ → List Text
package_by is.Package p u = spelled p (u + 2)
package_by _ p u = []

abbrev pub package_of : Rows → ℕ → List Text
package_of p u = package_by (label p (u + 1)) p u

-- the place stands in a unit of the package
pub record InPackage (p : Rows) (path : List Text) (o : ℕ) : Type 0 where
  pub unit : ℕ
  pub holds : InUnit p unit o
  pub has_path : package_of p unit ≡ path

pub record SamePackage (p : Rows) (m n : ℕ) : Type 0 where
  pub path : List Text
  pub first : InPackage p path m
  pub second : InPackage p path n

-- a top-level type of the package
pub record TypeOfPackage (p : Rows) (path : List Text) (d : ℕ) : Type 0 where
  pub top : IsTopLevel p d
  pub inside : InPackage p path d
