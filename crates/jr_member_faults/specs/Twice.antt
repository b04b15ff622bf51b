-- What bodies declare, under the type that declares it and its name or the number of its signature (JLS 8.3, 8.4.2, 8.5).
use Rattle.std.specs.Prelude.{◌≡◌, ℕ, ◌<◌, Bool, false, if◌then◌else◌, List, [], ◌∷◌, ◌++◌, length, Option, Some, None, option_map}
use Rattle.jr_tree.specs.declared.label.Role.{Role}
use Rattle.jr_tree.specs.declared.label.Role.TheVariants as role
use Rattle.jr_tree.specs.Rows.{Rows, role_at}
use Rattle.jr_defs.specs.declared.referent.RowType.{RowType}
use Rattle.jr_defs.specs.Referents.{Table}
use Rattle.jr_plain.specs.Same.{same_role}
use Rattle.jr_plain.specs.Enclosing.{declaring_type, constructed_class}
use Rattle.jr_plain.specs.Overriding.{is_method}
use Rattle.jr_plain.specs.Types.{parameters}
use Rattle.jr_places.specs.declared.chains.Entry.{Entry}
use Rattle.jr_places.specs.declared.numbering.Numbering.{Numbering}
use Rattle.jr_places.specs.Names.{name_row}
use Rattle.jr_places.specs.Numbers.{number_in, IsNumbering, Keeps, IsNumberOf}
use Rattle.jr_supers.specs.declared.signatures.Signatures.{Signatures}
use Rattle.jr_supers.specs.Signatures.{with_types}
use Rattle.jr_members.specs.declared.members.World.{World}
use Rattle.jr_members.specs.Keys.{entries_of, entry_of, signature_number}
use Rattle.jr_member_faults.specs.declared.twice.Declared as code
use Rattle.jr_member_faults.specs.Headers.{is_listed}
use Rattle.jr_member_faults.specs.Views.{rows_of, table_of, IsNamedWorld, IsSignedWorld}

-- a method goes by the number of its signature, all else by its name
abbrev pub member_number : Rows → Signatures → ℕ → Option ℕ
member_number p s n = if is_method p n then signature_number s n else Some (name_row p n)

abbrev pub member_entry : Rows → Signatures → ℕ → Option Entry
member_entry p s n = entry_of n (declaring_type p n) (member_number p s n)

-- what a row adds, where it declares a member of the role
abbrev pub entry_as : Rows → Role → Signatures → ℕ → Option Entry
entry_as p kind s n = if same_role (role_at p n) kind then member_entry p s n else None

-- the table of a role
abbrev pub entries_for : code.Declared → Role → List Entry
entries_for declared role.Type = declared.types
entries_for declared role.Field = declared.fields
entries_for declared role.Method = declared.methods
entries_for declared role.Constructor = declared.constructors
entries_for declared _ = []

-- something stands under the key of the entry
abbrev pub has_entry : List Entry → Option Entry → Bool
has_entry all None = false
has_entry all (Some entry) = is_listed all entry.first entry.second

-- the table with one entry more, where it goes there
abbrev pub with_entry : Bool → List Entry → Option Entry → List Entry
with_entry is_such all None = all
with_entry is_such all (Some entry) = if is_such then all ++ entry ∷ [] else all

-- all tables have what they had
pub record AreSameTables (old new : code.Declared) : Type 0 where
  pub types : new.types ≡ old.types
  pub fields : new.fields ≡ old.fields
  pub methods : new.methods ≡ old.methods
  pub constructors : new.constructors ≡ old.constructors

-- ---- constructors, by the numbers of their lists of parameter types (JLS 8.8.2)

abbrev pub size_of : Option (List RowType) → Option ℕ
size_of types = option_map (λ all. length all) types

-- the number of the list, where the types are found
abbrev pub IsListNumber : (ℕ → ℕ → Option ℕ) → Option (List RowType) → Option ℕ → Type 0
IsListNumber numbers None number = number ≡ None
IsListNumber numbers (Some types) number = (n : ℕ) × (number ≡ Some n) × IsNumberOf numbers n (with_types types [])

-- the list has the number, and all that had one keep it
pub record NumbersList (old new : Numbering) (types : Option (List RowType)) (number : Option ℕ) : Type 0 where
  pub is : IsListNumber (number_in new) types number
  pub kept : Keeps old new
  pub counted : IsNumbering new

-- what a row adds, where it is a constructor whose list has the number
pub record NumbersConstructor (p : Rows) (t : Table) (old new : Numbering) (n : ℕ) (entry : Option Entry) : Type 0 where
  pub number : Option ℕ
  pub numbers : NumbersList old new (parameters p t n) number
  pub entry_is : entry ≡ entry_of n (constructed_class p n) number

-- what a row adds, where the numbers of the lists are known
abbrev pub list_entry : Rows → (ℕ → Option ℕ) → ℕ → Option Entry
list_entry p number n = entry_of n (constructed_class p n) (number n)

-- the table has the constructors of the first n rows
pub record AreConstructorsTo (p : Rows) (t : Table) (n : ℕ) (lists : Numbering) (constructors : List Entry) : Type 0 where
  pub number : ℕ → Option ℕ
  pub counted : IsNumbering lists
  pub each : (k : ℕ) → k < n → role_at p k ≡ role.Constructor → IsListNumber (number_in lists) (parameters p t k) (number k)
  pub constructors_are : constructors ≡ entries_of (list_entry p number) n

-- ---- all of them

-- the tables have what the first n rows declare
pub record AreDeclaredTo (world : World) (n : ℕ) (declared : code.Declared) : Type 0 where
  pub types : IsNamedWorld world → declared.types ≡ entries_of (entry_as (rows_of world) role.Type world.members.now.callables.signatures) n
  pub fields : IsNamedWorld world → declared.fields ≡ entries_of (entry_as (rows_of world) role.Field world.members.now.callables.signatures) n
  pub methods : IsNamedWorld world → declared.methods ≡ entries_of (entry_as (rows_of world) role.Method world.members.now.callables.signatures) n
  pub constructors : IsSignedWorld world → AreConstructorsTo (rows_of world) (table_of world) n declared.lists declared.constructors
