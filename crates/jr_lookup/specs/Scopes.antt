-- What is in scope by rows alone, as tables under keys, in which each row stands once (JLS 6.3, 7.5, 7.6, 8.4.1, 14.4.2).
use Rattle.std.specs.Prelude.{◌≡◌, ℕ, ◌+◌, Bool, ◌&&◌, List, [], ◌∷◌, length, Option, Some, None, option_map, nat_eq, nat_lt, if◌then◌else◌}
use Rattle.jr_tree.specs.declared.label.ImportKind.TheVariants as importing
use Rattle.jr_tree.specs.declared.label.Role.TheVariants as role
use Rattle.jr_tree.specs.Rows.{Rows, label, parent, role_at}
use Rattle.jr_plain.specs.Same.{same_role}
use Rattle.jr_plain.specs.Enclosing.{is_top_level}
use Rattle.jr_plain.specs.Imports.{is_import_label, is_import_of}
use Rattle.jr_places.specs.declared.chains.Entry.{Entry}
use Rattle.jr_places.specs.declared.places.Places.{Places}
use Rattle.jr_places.specs.Above.{block_of}
use Rattle.jr_places.specs.Names.{name_row}
use Rattle.jr_places.specs.Packages.{same_some}
use Rattle.jr_places.specs.Places.{package_number}
use Rattle.jr_members.specs.Keys.{entry_for, entries_of}
use Rattle.jr_lookup.specs.declared.scopes.Scopes as code

-- ---- what a row adds, where x is the number of its name

-- a row under a key, where it is such
abbrev pub entry_if : Bool → ℕ → ℕ → ℕ → Option Entry
entry_if b c x d = if b then Some (entry_for c x d) else None

-- a local, under the row that ends where its block does
abbrev pub local_entry : Rows → ℕ → ℕ → Option Entry
local_entry p x d = entry_if (same_role (role_at p d) role.Local) (block_of p d) x d

-- a parameter, under its method, constructor or catch
abbrev pub parameter_entry : Rows → ℕ → ℕ → Option Entry
parameter_entry p x d = entry_if (same_role (role_at p d) role.Parameter) (parent p d) x d

-- a top-level type, under the number of its package if there is one
abbrev pub top_entry : Rows → Option ℕ → ℕ → ℕ → Option Entry
top_entry p number x d = if is_top_level p d then option_map (λ n. entry_for n x d) number else None

-- an import, under its unit; x is the number of the name that it brings
abbrev pub single_entry : Rows → ℕ → ℕ → Option Entry
single_entry p x i = entry_if (is_import_label importing.Single (label p i)) (parent p i) x i

abbrev pub static_entry : Rows → ℕ → ℕ → Option Entry
static_entry p x i = entry_if (is_import_label importing.StaticSingle (label p i)) (parent p i) x i

abbrev pub demand_entry : Rows → ℕ → Option Entry
demand_entry p i = entry_if (is_import_label importing.OnDemand (label p i)) (parent p i) 0 i

-- ---- the tables

-- what the first n rows add
pub record AreScopesTo (p : Rows) (n : ℕ) (scopes : code.Scopes) : Type 0 where
  pub locals : scopes.locals ≡ entries_of (λ d. local_entry p (name_row p d) d) n
  pub parameters : scopes.parameters ≡ entries_of (λ d. parameter_entry p (name_row p d) d) n
  pub singles : scopes.singles ≡ entries_of (λ i. single_entry p (name_row p (i + 1)) i) n
  pub statics : scopes.statics ≡ entries_of (λ i. static_entry p (name_row p i) i) n
  pub demanded : scopes.on_demand ≡ entries_of (demand_entry p) n

abbrev pub AreScopes : Rows → code.Scopes → Type 0
AreScopes p scopes = AreScopesTo p (length p) scopes

-- the top-level types of the first n rows, under the numbers of their packages (JLS 7.4, 7.6)
pub record AreTopsTo (p : Rows) (places : Places) (n : ℕ) (scopes : code.Scopes) : Type 0 where
  pub are : scopes.tops ≡ entries_of (λ d. top_entry p (package_number places d) (name_row p d) d) n

abbrev pub AreTops : Rows → Places → code.Scopes → Type 0
AreTops p places scopes = AreTopsTo p places (length p) scopes

-- ---- what is asked of them

-- a local of the name, whose block ends with the row
abbrev pub is_local_of : Rows → ℕ → ℕ → ℕ → Bool
is_local_of p block x d = same_role (role_at p d) role.Local && (nat_eq (block_of p d) block && nat_eq (name_row p d) x)

-- such a local that is declared before the place
abbrev pub is_local_before : Rows → ℕ → ℕ → ℕ → ℕ → Bool
is_local_before p block x o d = is_local_of p block x d && nat_lt d o

-- a parameter of the name, of this method, constructor or catch
abbrev pub is_parameter_of : Rows → ℕ → ℕ → ℕ → Bool
is_parameter_of p over x d = same_role (role_at p d) role.Parameter && (nat_eq (parent p d) over && nat_eq (name_row p d) x)

-- an import in the unit, of a type with the name
abbrev pub is_single_of : Rows → ℕ → ℕ → ℕ → Bool
is_single_of p u x i = is_import_of p u importing.Single i && nat_eq (name_row p (i + 1)) x

-- an import in the unit, of static members with the name
abbrev pub is_static_of : Rows → ℕ → ℕ → ℕ → Bool
is_static_of p u x i = is_import_of p u importing.StaticSingle i && nat_eq (name_row p i) x

-- a top-level type of the name, in the package with the number
abbrev pub is_top_of : Rows → Places → ℕ → ℕ → ℕ → Bool
is_top_of p places number x d = is_top_level p d && (same_some (package_number places d) (Some number) && nat_eq (name_row p d) x)

-- the first of some rows that stands before the place
abbrev pub first_before : ℕ → List ℕ → Option ℕ
first_before o [] = None
first_before o (d ∷ more) = if nat_lt d o then Some d else first_before o more
