-- The grammar of the journal, in its two versions.
use Rattle.std.specs.Prelude.{◌≡◌, ◌≢◌, ℕ, ◌≤◌, List, [], ◌∷◌, ◌++◌, length, flat_map, Some, None, IsSome, IsTrue}
use Rattle.std.specs.List.{AllByRecursion}
use Rattle.std.specs.Int.{w32, to_be_bytes}
use Rattle.std.specs.Ordering.{nat_cmp}
use Rattle.std.specs.declared.cmp.Ordering.TheVariants.{Less}
use Rattle.std.specs.Cmp.Lexicographic.{slice_cmp}
use Rattle.jr_base.specs.Paths.{IsPath, is_java}
use Rattle.jr_commit.specs.SidesAt.{SideAt}
use Rattle.jr_commit.specs.Entries.{Known, PlainEntry, names_of}
use Rattle.jr_commit.specs.declared.entry.Version.{Version}
use Rattle.jr_commit.specs.declared.entry.Version.TheVariants.{One, Two}

-- four bytes, highest first
abbrev pub number : ℕ → List ℕ
number n = to_be_bytes w32 n

-- the length, and that many bytes
abbrev pub string : List ℕ → List ℕ
string bytes = number (length bytes) ++ bytes

-- `A` for an absent file; `F` and the bytes of a file
abbrev pub side_text : Known → List ℕ
side_text None = []
side_text (Some None) = 65 ∷ []
side_text (Some (Some bytes)) = 70 ∷ string bytes

-- version 1: the letter, the path, and for `F` the old bytes
abbrev pub tagged_text : List ℕ → Known → List ℕ
tagged_text path None = []
tagged_text path (Some None) = 65 ∷ string path
tagged_text path (Some (Some bytes)) = 70 ∷ (string path ++ string bytes)

-- version 2: the path, the old side and the new side
abbrev pub entry_text : Version → PlainEntry → List ℕ
entry_text One e = tagged_text e.0 e.1
entry_text Two e = string e.0 ++ (side_text e.1 ++ side_text e.2)

abbrev pub entries_text : Version → List PlainEntry → List ℕ
entries_text v es = flat_map (entry_text v) es

-- `JRJ1` or `JRJ2`, and LF
abbrev pub magic : Version → List ℕ
magic One = 74 ∷ 82 ∷ 74 ∷ 49 ∷ 10 ∷ []
magic Two = 74 ∷ 82 ∷ 74 ∷ 50 ∷ 10 ∷ []

-- `END` and LF
abbrev pub ending : List ℕ
ending = 69 ∷ 78 ∷ 68 ∷ 10 ∷ []

-- the head, the number of entries, the entries, and the end
abbrev pub spelling : Version → List PlainEntry → List ℕ
spelling v es = magic v ++ (number (length es) ++ (entries_text v es ++ ending))

-- the most bytes of a journal
abbrev pub most_bytes : Version → ℕ
most_bytes One = 33554432
most_bytes Two = 50331648

-- the fewest entries of a journal
abbrev pub fewest : Version → ℕ
fewest One = 0
fewest Two = 1

abbrev pub version_number : Version → ℕ
version_number One = 1
version_number Two = 2

-- version 1 keeps no new side
abbrev pub HasNewSide : Version → Known → Type 0
HasNewSide One new = new ≡ None
HasNewSide Two new = IsSome new

-- the sides that an entry of the version keeps
pub record IsShaped (v : Version) (e : PlainEntry) : Type 0 where
  pub old : IsSome e.1
  pub new : HasNewSide v e.2

-- a path of a Java file, with two sides that differ
pub record IsChange (e : PlainEntry) : Type 0 where
  pub path : IsPath e.0
  pub java : IsTrue (is_java e.0)
  pub differ : e.1 ≢ e.2

abbrev pub IsRising : List (List ℕ) → Type 0
IsRising [] = Unit {0}
IsRising (p ∷ []) = Unit {0}
IsRising (p ∷ q ∷ ps) = (slice_cmp nat_cmp p q ≡ Less) × IsRising (q ∷ ps)

-- the bytes are the journal of these entries in this version
pub record IsIn (v : Version) (bytes : List ℕ) (es : List PlainEntry) : Type 0 where
  pub spelled : bytes ≡ spelling v es
  pub shaped : AllByRecursion (IsShaped v) es
  pub changes : AllByRecursion IsChange es
  pub rising : IsRising (names_of es)
  pub enough : fewest v ≤ length es
  pub short : length bytes ≤ most_bytes v

-- the bytes are a journal of the version with this number
abbrev pub IsJournal : ℕ → List ℕ → List PlainEntry → Type 0
IsJournal n bytes es = (v : Version) × (n ≡ version_number v) × IsIn v bytes es

-- what stood at the paths
abbrev pub old_sides : List PlainEntry → List SideAt
old_sides [] = []
old_sides ((path, None, new) ∷ es) = old_sides es
old_sides ((path, Some old, new) ∷ es) = (path, old) ∷ old_sides es

-- what stands at the paths after the change
abbrev pub new_sides : List PlainEntry → List SideAt
new_sides [] = []
new_sides ((path, old, None) ∷ es) = new_sides es
new_sides ((path, old, Some new) ∷ es) = (path, new) ∷ new_sides es

-- the bytes are a journal, of version 1 or 2, whose entries have these old sides
pub record PutsBack (bytes : List ℕ) (olds : List SideAt) : Type 0 where
  pub version : Version
  pub entries : List PlainEntry
  pub journal : IsIn version bytes entries
  pub sides : olds ≡ old_sides entries
