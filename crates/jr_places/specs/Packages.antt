-- The package of each row, by numbers of names (JLS 7.4).
use Rattle.std.specs.Prelude.{◌≡◌, ℕ, zero, suc, ◌+◌, ◌-◌, ◌<◌, Bool, true, false, List, [], ◌∷◌, length, Option, Some, None, nat_eq, slice_index_or, if◌then◌else◌}
use Rattle.jr_tree.specs.declared.label.Label.{Label}
use Rattle.jr_tree.specs.declared.label.Label.TheVariants as is
use Rattle.jr_tree.specs.Rows.{Rows, label, end}
use Rattle.jr_tree.specs.Local.{IsLocal}
use Rattle.jr_defs.specs.Packages.{InUnit}
use Rattle.jr_places.specs.declared.numbering.Numbering.{Numbering}
use Rattle.jr_places.specs.Numbers.{number_in, IsOneToOne, IsNumbering, Keeps, IsNumberOf}
use Rattle.jr_places.specs.declared.units.Packages as code
use Rattle.jr_places.specs.Names.{name_row}

-- a package declaration has a name
abbrev pub PackagesAreNamed : Rows → Type 0
PackagesAreNamed p = (n : ℕ) → label p n ≡ is.Package → n + 1 < length p

abbrev pub is_package : Label → Bool
is_package is.Package = true
is_package _ = false

-- the names of so many rows from n on, from the last back
abbrev pub names_to : Rows → ℕ → ℕ → List ℕ
names_to p n zero = []
names_to p n (suc k) = name_row p (n + k) ∷ names_to p n k

-- those of the package of a unit
abbrev pub path_of : Rows → ℕ → List ℕ
path_of p u = if is_package (label p (u + 1)) then names_to p (u + 2) (end p (u + 2) - (u + 2)) else []

-- the list has this number now, and all that had one keep it
pub record Numbered (old new : Numbering) (n : ℕ) (xs : List ℕ) : Type 0 where
  pub is : IsNumberOf (number_in new) n xs
  pub kept : Keeps old new
  pub counted : IsNumbering new

-- the number of the package of the row o, if it stands in a unit
abbrev pub IsPackageOf : Rows → (ℕ → ℕ → Option ℕ) → ℕ → Option ℕ → Type 0
IsPackageOf p numbers o None = (u : ℕ) → InUnit p u o → ⊥
IsPackageOf p numbers o (Some n) = (u : ℕ) × InUnit p u o × IsNumberOf numbers n (path_of p u)

-- those of the first n rows
pub record ArePackagesTo (p : Rows) (paths : Numbering) (of_rows : List (Option ℕ)) (n : ℕ) : Type 0 where
  pub counted : IsNumbering paths
  pub size : length of_rows ≡ n
  pub each : (k : ℕ) → k < n → IsPackageOf p (number_in paths) k (slice_index_or of_rows k None)

pub record PackageAt (p : Rows) (old new : Numbering) (n : ℕ) (found : Option ℕ) : Type 0 where
  pub is : IsPackageOf p (number_in new) n found
  pub kept : Keeps old new
  pub counted : IsNumbering new

pub record ArePackages (p : Rows) (packages : code.Packages) : Type 0 where
  pub counted : IsNumbering packages.paths
  pub each : (o : ℕ) → IsPackageOf p (number_in packages.paths) o (slice_index_or packages.of_rows.items o None)

-- the number of the package whose name is spelled at the row n, if one that begins so has units
abbrev pub IsSpelled : Rows → code.Packages → ℕ → ℕ → Type 0
IsSpelled p packages n number = IsNumberOf (number_in packages.paths) number (names_to p n (end p n - n))

abbrev pub same_some : Option ℕ → Option ℕ → Bool
same_some (Some a) (Some b) = nat_eq a b
same_some _ _ = false
