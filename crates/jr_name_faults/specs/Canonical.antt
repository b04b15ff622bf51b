-- A name, identifier by identifier from its last, beside the types round the one that it names (JLS 6.7).
use Rattle.std.specs.Prelude.{◌≡◌, ℕ, zero, suc, ◌+◌, ◌-◌, ◌<◌, ◌≤◌, List, [], ◌∷◌, ◌++◌}
use Rattle.jr_base.specs.declared.text.Text.{Text}
use Rattle.jr_tree.specs.declared.label.Label.{Label}
use Rattle.jr_tree.specs.declared.label.Label.TheVariants as is
use Rattle.jr_tree.specs.Rows.{Rows, label, name, end}
use Rattle.jr_defs.specs.Declarations.{IsType}
use Rattle.jr_defs.specs.Enclosing.{IsTopLevel}
use Rattle.jr_defs.specs.Packages.{InPackage, spelled}
use Rattle.jr_defs.specs.Rules.{CanonicalName}

-- a top-level type of the package that is spelled at the row n, where the name does not end there
pub record IsTopOf (p : Rows) (d n stop : ℕ) : Type 0 where
  pub more : n < stop
  pub top : IsTopLevel p d
  pub inside : InPackage p (spelled p n) d

-- the identifiers of so many rows from n on, from the last back
abbrev pub parts_to : Rows → ℕ → ℕ → List Text
parts_to p n zero = []
parts_to p n (suc k) = parts_to p (n + 1) k ++ name p n ∷ []

abbrev pub IsNameLabel : Label → Type 0
IsNameLabel (is.Name k at b) = Unit {0}
IsNameLabel _ = ⊥

-- the name at o is the canonical one of c exactly where what is left of it from n on is that of d
pub record IsReadTo (p : Rows) (c o stop d n : ℕ) : Type 0 where
  pub le : n ≤ stop
  pub type : IsType p d
  pub named : n < stop → IsNameLabel (label p n)
  pub ends : n < stop → end p n ≡ stop
  pub out : CanonicalName p c (spelled p o) → CanonicalName p d (parts_to p n (stop - n))
  pub into : CanonicalName p d (parts_to p n (stop - n)) → CanonicalName p c (spelled p o)
