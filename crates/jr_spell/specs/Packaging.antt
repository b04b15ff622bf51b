-- The packages of a program, each by a row that spells its name.
use Rattle.std.specs.Prelude.{◌≡◌, ◌⊎◌, ℕ, zero, suc, ◌+◌, ◌-◌, ◌<◌, Bool, true, nat_eq, if◌then◌else◌, List, [], ◌∷◌, ◌++◌, length, get_or, Option, Some, None}
use Rattle.std.specs.HashMap.{get}
use Rattle.jr_base.specs.declared.text.Text.{Text}
use Rattle.jr_tree.specs.declared.label.Label.TheVariants as is
use Rattle.jr_tree.specs.Rows.{Rows, label, name, parent, end}
use Rattle.jr_defs.specs.Packages.{package_of, spelled}
use Rattle.jr_places.specs.Chains.{same_pair}
use Rattle.jr_places.specs.Names.{name_row}
use Rattle.jr_places.specs.Packages.{is_package}
use Rattle.jr_spell.specs.declared.paths.Chain.{Chain}
use Rattle.jr_spell.specs.declared.paths.Paths.{Paths}

-- the number of a name: the first row that has it
pub record IsNumber (p : Rows) (n : ℕ) : Type 0 where
  pub first : name_row p n ≡ n
  pub there : n < length p

pub record AreNumbers (p : Rows) (names : List ℕ) : Type 0 where
  pub each : (i d : ℕ) → i < length names → IsNumber p (get_or names i d)

-- ---- what units declare

-- the package declaration of a unit, if it has one, holds its name
abbrev pub HoldsName : Rows → ℕ → Type 0
HoldsName p u = label p (u + 1) ≡ is.Package → parent p (u + 2) ≡ u + 1

abbrev pub holds_name : Rows → ℕ → Bool
holds_name p u = if is_package (label p (u + 1)) then nat_eq (parent p (u + 2)) (u + 1) else true

-- the name in the package declaration of a unit
abbrev pub chain_of : Rows → ℕ → Chain
chain_of p u = record { first = u + 2; end = if is_package (label p (u + 1)) then end p (u + 2) else u + 2 }

-- no unit is in a package whose name begins so
abbrev pub NoneBegins : Rows → List Text → Type 0
NoneBegins p path = (u : ℕ) (rest : List Text) → label p u ≡ is.Unit → package_of p u ≡ path ++ rest → ⊥

-- ---- what is known of packages

-- the package of this name in one that is known, or in none, which stands at 0
abbrev pub package_in : Paths → ℕ → ℕ → Option ℕ
package_in paths over n = get same_pair paths.rows (over, n)

abbrev pub inside : Paths → Option ℕ → ℕ → Option ℕ
inside paths (Some over) n = package_in paths over n
inside paths None n = None

-- the identifiers lead to the package there, one after another
pub data Reaches (p : Rows) (paths : Paths) : ℕ → List Text → Type 0 where
  start : Reaches p paths 0 []
  onward : {over n r : ℕ} {path : List Text} → Reaches p paths over path → IsNumber p n → package_in paths over n ≡ Some r → Reaches p paths r (path ++ name p n ∷ [])

-- the package has this name, which the row spells; it has no row where no unit's begins so
pub data IsPath (p : Rows) (paths : Paths) : Option ℕ → List Text → Type 0 where
  known : {r : ℕ} {path : List Text} → Reaches p paths r path → r < length p → spelled p r ≡ path → IsPath p paths (Some r) path
  unknown : {path : List Text} → NoneBegins p path → IsPath p paths None path

-- so it is with the packages in none, and with those in one
pub record ArePaths (p : Rows) (paths : Paths) : Type 0 where
  pub first : (n : ℕ) → IsNumber p n → IsPath p paths (package_in paths 0 n) (name p n ∷ [])
  pub next : (at : Option ℕ) (path : List Text) (n : ℕ) → IsPath p paths at path → IsNumber p n → IsPath p paths (inside paths at n) (path ++ name p n ∷ [])

-- ---- one package more

-- what a row spells that stands for a package, or for none
abbrev pub spelled_before : Rows → ℕ → List Text
spelled_before p zero = []
spelled_before p (suc n) = spelled p (suc n)

-- the row spells the name of the package over it, and one identifier more
pub record IsEntry (p : Rows) (over n r : ℕ) : Type 0 where
  pub positive : 0 < r
  pub there : r < length p
  pub spells : spelled p r ≡ spelled_before p over ++ name p n ∷ []

abbrev pub AreEntries : Rows → Paths → Type 0
AreEntries p paths = (over n r : ℕ) → package_in paths over n ≡ Some r → IsEntry p over n r

-- no package is known
abbrev pub KnowNone : Paths → Type 0
KnowNone paths = (over n : ℕ) → package_in paths over n ≡ None

-- each package keeps its row
abbrev pub KeepsPaths : Paths → Paths → Type 0
KeepsPaths old new = (over n r : ℕ) → package_in old over n ≡ Some r → package_in new over n ≡ Some r

-- the package has this row now; none other is new, and it is new at the row that is given alone
pub record Enters (old new : Paths) (over n row r : ℕ) : Type 0 where
  pub has : package_in new over n ≡ Some r
  pub kept : KeepsPaths old new
  pub was : (o m q : ℕ) → package_in new o m ≡ Some q → ((o ≡ over) × (m ≡ n) × (q ≡ row)) ⊎ (package_in old o m ≡ Some q)

-- the package of the unit is reached
pub record AddsPackage (p : Rows) (old new : Paths) (u : ℕ) : Type 0 where
  pub entries : AreEntries p new
  pub kept : KeepsPaths old new
  pub row : ℕ
  pub reached : Reaches p new row (package_of p u)

-- the identifiers of so many rows from one on, from the last row back
abbrev pub texts_from : Rows → ℕ → ℕ → List Text
texts_from p n zero = []
texts_from p n (suc k) = texts_from p (n + 1) k ++ name p n ∷ []

-- so many identifiers of the name are entered
pub record EntersTo (p : Rows) (old new : Paths) (chain : Chain) (nth over : ℕ) : Type 0 where
  pub entries : AreEntries p new
  pub kept : KeepsPaths old new
  pub reached : Reaches p new over (texts_from p (chain.end - nth) nth)

-- the packages of the units before a row are reached
pub record ArePathsTo (p : Rows) (paths : Paths) (n : ℕ) : Type 0 where
  pub entries : AreEntries p paths
  pub reached : (u : ℕ) → u < n → label p u ≡ is.Unit → (r : ℕ) × Reaches p paths r (package_of p u)
