-- What a copy of an old row is.
use Rattle.std.specs.Prelude.{◌≡◌, ◌≢◌, ℕ, ◌-◌, ◌<◌, Bool, false, ◌||◌, List, [], ◌∷◌, length, Option, Some, None, if◌then◌else◌, nat_eq, slice_get, slice_index_or, slice_set, drop}
use Rattle.jr_base.specs.declared.text.Text.{Text}
use Rattle.jr_tree.specs.declared.row.Row.{Row}
use Rattle.jr_tree.specs.Rows.{Rows, row, label, name}
use Rattle.jr_change.specs.declared.change.Naming.{Naming}
use Rattle.jr_locks.specs.Origins.{no_row, origin_of}
use Rattle.jr_locks.specs.Ending.{size_at, rest_at, takes_declarations, IsAsLong}

abbrev pub has_row : List ℕ → ℕ → Bool
has_row [] d = false
has_row (row ∷ rest) d = nat_eq row d || has_row rest d

-- the identifier of copies of the old row d: that of the last naming that has it, and else its own
abbrev pub name_by : List Naming → ℕ → Text → Text
name_by [] d own = own
name_by (naming ∷ rest) d own = name_by rest d (if has_row naming.rows.items d then naming.name else own)

-- whether a row has another label than its origin
abbrev pub turned_at : List Bool → ℕ → Bool
turned_at is_turned n = slice_index_or is_turned n false

-- The row of number n is a copy of the old row d, where copies of rows have these identifiers, and so many rows of its run stand from it on: it has the label of that, unless
-- it is turned, and ends where that does.
pub record IsCopy (old : Rows) (named : ℕ → Text → Text) (d : ℕ) (is_turned : Bool) (rest n : ℕ) (new : Row) : Type 0 where
  pub stood : d < length old
  pub label_is : is_turned ≡ false → new.label ≡ label old d
  pub name_is : new.name ≡ named d (name old d)
  pub end_is : IsAsLong (takes_declarations (label old d)) rest (size_at old d) (new.end - n)

-- each of the first so many rows that comes from an old row is a copy of it
pub record AllCopies (old : Rows) (named : ℕ → Text → Text) (origin : List ℕ) (is_turned : List Bool) (rests : List ℕ) (rows : Rows) (count : ℕ) : Type 0 where
  pub each : (n : ℕ) → n < count → origin_of origin n ≢ no_row → IsCopy old named (origin_of origin n) (turned_at is_turned n) (rest_at rests n) n (row rows n)

-- ---- as the code finds identifiers

abbrev pub name_or : Option Naming → Text → Text
name_or (Some naming) own = naming.name
name_or None own = own

-- the identifier of copies of an old row whose naming has this number
abbrev pub name_at : List Naming → ℕ → Text → Text
name_at namings number own = name_or (slice_get namings number) own

abbrev pub name_of : List Naming → Option ℕ → Text → Text
name_of namings (Some number) own = name_at namings number own
name_of namings None own = own

-- the identifier of copies of the old row d, by the numbers of namings
abbrev pub name_in : List Naming → List ℕ → ℕ → Text → Text
name_in namings numbers d own = name_of namings (slice_get numbers d) own

-- with the number for these rows
abbrev pub with_number : List ℕ → List ℕ → ℕ → List ℕ
with_number all [] number = all
with_number all (row ∷ rest) number = with_number (slice_set all row number) rest number

-- the numbers are those of the namings of so many old rows
pub record AreNumbered (namings : List Naming) (old : ℕ) (numbers : List ℕ) : Type 0 where
  pub each : (d : ℕ) (own : Text) → d < old → name_in namings numbers d own ≡ name_by namings d own

-- the same of the first so many namings
pub record AreNumberedTo (namings : List Naming) (old : ℕ) (numbers : List ℕ) (at : ℕ) : Type 0 where
  pub few : length namings < no_row
  pub count : length numbers ≡ old
  pub each : (d : ℕ) (own : Text) → d < old → name_by (drop at namings) d (name_in namings numbers d own) ≡ name_by namings d own
