-- What a speller reads, and what is known of it: the program under its locks, with supertypes, members and imports as the locks say.
use Rattle.std.specs.Prelude.{◌≡◌, ℕ, ◌+◌, ◌<◌, ◌^◌, Bool, false, if◌then◌else◌, Option, Some, None, is_some, length, slice_index_or}
use Rattle.jr_tree.specs.Rows.{Rows, sought_at}
use Rattle.jr_defs.specs.declared.referent.Referent.{Referent}
use Rattle.jr_defs.specs.Referents.{Table, entries}
use Rattle.jr_plain.specs.Overloads.{Types}
use Rattle.jr_members.specs.Sources.{AreSeen}
use Rattle.jr_lookup.specs.Answers.{CanChoose}
use Rattle.jr_lookup.specs.Locals.{AreLocalsPlaced}
use Rattle.jr_lookup.specs.Sights.{IsSight}
use Rattle.jr_places.specs.Names.{name_row}
use Rattle.jr_shapes.specs.declared.spelling.Shape.{Shape}
use Rattle.jr_shapes.specs.Names.{named_by}
use Rattle.jr_spelling_rules.specs.Candidates.{level_of, target}
use Rattle.jr_spelling_rules.specs.Fitting.{fits_so}
use Rattle.jr_spell.specs.declared.fitting.Fit.{Fit}
use Rattle.jr_spell.specs.declared.fitting.Looked.{Looked}
use Rattle.jr_spell.specs.declared.reference.Reference.{Reference}
use Rattle.jr_spell.specs.declared.speller.Speller.{Speller}
use Rattle.jr_spell.specs.Forming.{is_names, has_parts, form_at}
use Rattle.jr_spell.specs.Packaging.{ArePaths}

abbrev pub rows_of : Speller → Rows
rows_of s = s.view.now.sight.world.under.rows.now

abbrev pub table_of : Speller → Table
table_of s = entries s.view.now.sight.world.under.table.now

abbrev pub types_of : Speller → Types
types_of s n = slice_index_or s.view.now.types.now n None

-- the reference at the row was a constant expression
abbrev pub was_constant : Speller → ℕ → Bool
was_constant s n = slice_index_or s.constant.now n false

-- the variable is constant
abbrev pub is_constant_variable : Speller → ℕ → Bool
is_constant_variable s d = is_some (slice_index_or s.view.now.constants.now.variables.items d None)

-- rows of a program with their places, and the supertypes that the locks give
pub record IsSeenSpeller (s : Speller) : Type 0 where
  pub few : length (rows_of s) < 2 ^ 32
  pub seen : AreSeen (rows_of s) (table_of s) s.view.now.sight.world.under.places.now s.view.now.sight.world.supers.now

-- with all that lookup reads
pub record IsWholeSpeller (s : Speller) : Type 0 where
  pub sight_is : IsSight (table_of s) s.view.now.sight
  pub placed : AreLocalsPlaced (rows_of s)
  pub can : CanChoose (table_of s) s.view.now.sight.world
  pub paths : ArePaths (rows_of s) s.paths.now
  pub few : length (rows_of s) + 3 < 2 ^ 32

-- the reference has the lock of its row, and what is sought there
pub record IsAtRow (s : Speller) (r : Reference) : Type 0 where
  pub lock_is : r.lock ≡ table_of s r.row
  pub sought_is : r.sought ≡ sought_at (rows_of s) r.row

-- what is referred to is a row
abbrev pub HasTarget : Rows → Referent → Type 0
HasTarget p lock = (d : ℕ) → target lock ≡ Some d → d < length p

-- so is the type whose object it is reached through
abbrev pub HasLevel : Rows → Referent → Type 0
HasLevel p lock = (l : ℕ) → level_of lock ≡ Some l → l < length p

pub record IsKnown (p : Rows) (lock : Referent) : Type 0 where
  pub target : HasTarget p lock
  pub level : HasLevel p lock

-- the number of the name that a reference at the row gets
abbrev pub number_by : Rows → ℕ → Referent → ℕ
number_by p n lock = name_row p (named_by p n lock)

-- so is a reference at a row of the program, which must refer to a row, reached through one, or to no declaration
pub record IsSought (s : Speller) (r : Reference) : Type 0 where
  pub at_row : IsAtRow s r
  pub there : r.row < length (rows_of s)
  pub target_there : HasTarget (rows_of s) r.lock
  pub level_there : HasLevel (rows_of s) r.lock
  pub name_is : r.name ≡ number_by (rows_of s) r.row r.lock
  pub dot_is : is_names r.dot ≡ has_parts (rows_of s) (table_of s) r.row
  pub form_is : r.form ≡ form_at (rows_of s) (table_of s) r.row

-- ---- spellings that fit

-- what is found in this way fits
abbrev pub fits_looked : Speller → Reference → Looked → Bool
fits_looked s r looked =
    fits_so (rows_of s) (table_of s) (is_constant_variable s) (was_constant s) r.row looked.found looked.way.receiver looked.way.level looked.way.is_constant_form

-- the spelling of the shape, where it does
abbrev pub fit_by : Bool → Shape → Looked → Option Fit
fit_by is_fit shape looked = if is_fit then Some (record { shape = shape; found = looked.found; trace = looked.trace }) else None
