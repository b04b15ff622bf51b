-- Types outside any other, and units, under packages and names (JLS 7.1, 7.6).
use Rattle.std.specs.Prelude.{◌≡◌, ℕ, ◌+◌, ◌<◌, Bool, ◌&&◌, ◌||◌, if◌then◌else◌, List, length, Option, Some, None, option_map, Decides}
use Rattle.jr_tree.specs.Rows.{Rows, label, end}
use Rattle.jr_defs.specs.Enclosing.{IsTopLevel}
use Rattle.jr_plain.specs.Search.{Finds}
use Rattle.jr_plain.specs.Enclosing.{is_unit}
use Rattle.jr_places.specs.declared.chains.Entry.{Entry}
use Rattle.jr_places.specs.declared.places.Places.{Places}
use Rattle.jr_places.specs.Names.{name_row}
use Rattle.jr_places.specs.Packages.{is_package, IsSpelled}
use Rattle.jr_places.specs.Places.{package_number}
use Rattle.jr_members.specs.Keys.{entry_for}
use Rattle.jr_name_rules.specs.DeclarationTests.{is_second_top_type, is_named_as_package}
use Rattle.jr_member_faults.specs.Headers.{is_listed}

-- rule 2 outside types: a package declares two types of one name, or a type has the name of a subpackage
abbrev pub has_top_type_clash : Rows → ℕ → Bool
has_top_type_clash p n = is_second_top_type p n || is_named_as_package p n

-- ---- tables

-- under each key stand the rows before n of which it is told
abbrev pub AreKeysTo : (ℕ → ℕ → ℕ → Type 0) → ℕ → List Entry → Type 0
AreKeysTo IsUnder n all = (c x : ℕ) → Decides (is_listed all c x) ((d : ℕ) × (d < n) × IsUnder c x d)

-- a type outside any other, of the package of this number and the name of the row x
pub record IsTopUnder (p : Rows) (places : Places) (c x d : ℕ) : Type 0 where
  pub top : IsTopLevel p d
  pub of : package_number places d ≡ Some c
  pub named : name_row p d ≡ x

-- ---- units

-- the last identifier of the name of the package that a unit declares
abbrev pub package_name : Rows → ℕ → Option ℕ
package_name p u = if is_unit (label p u) && is_package (label p (u + 1)) then Some (u + 2) else None

-- the package of this number has the name that stands before the last identifier n
pub record IsAbove (p : Rows) (places : Places) (n c : ℕ) : Type 0 where
  pub more : n + 1 < end p n
  pub spelled : IsSpelled p places.packages (n + 1) c

-- what stands before the last identifier ends with the name, and the number of its package is found
pub record FindsAbove (p : Rows) (places : Places) (n : ℕ) (above : Option ℕ) : Type 0 where
  pub ended : n + 1 < end p n → end p (n + 1) ≡ end p n
  pub finds : Finds above (IsAbove p places n)

abbrev pub entry_above : Rows → ℕ → ℕ → Option ℕ → Option Entry
entry_above p u n above = option_map (λ c. entry_for c (name_row p n) u) above

-- what a row adds
abbrev pub IsUnitEntry : Rows → Places → ℕ → Option ℕ → Option Entry → Type 0
IsUnitEntry p places u None entry = entry ≡ None
IsUnitEntry p places u (Some n) entry = (above : Option ℕ) × FindsAbove p places n above × (entry ≡ entry_above p u n above)

-- a unit of a package whose last identifier is that of the row x, in the package of this number
pub record IsUnitUnder (p : Rows) (places : Places) (c x u : ℕ) : Type 0 where
  pub last : ℕ
  pub of : package_name p u ≡ Some last
  pub above : IsAbove p places last c
  pub named : name_row p last ≡ x

pub record AreUnitsTo (p : Rows) (places : Places) (n : ℕ) (units : List Entry) : Type 0 where
  pub each : (u last : ℕ) → u < n → package_name p u ≡ Some last → (above : Option ℕ) × FindsAbove p places last above
  pub keys : AreKeysTo (IsUnitUnder p places) n units

abbrev pub AreUnits : Rows → Places → List Entry → Type 0
AreUnits p places units = AreUnitsTo p places (length p) units
