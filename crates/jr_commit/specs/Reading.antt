-- Reading a journal from left to right.
use Rattle.std.specs.Prelude.{◌≡◌, ℕ, zero, suc, List, [], ◌∷◌, length, take, drop, Option, Some, None, Result, Ok, Err, nat_lt, ◌==◌, if◌then◌else◌, bytes_eq}
use Rattle.std.specs.Int.{w32, from_be_bytes}
use Rattle.jr_commit.specs.Entries.{Known, PlainEntry}
use Rattle.jr_commit.specs.Journal.{magic, ending}
use Rattle.jr_commit.specs.declared.entry.Version.{Version}
use Rattle.jr_commit.specs.declared.entry.Version.TheVariants.{One, Two}
use Rattle.jr_commit.specs.declared.reading.ReadFault.{ReadFault}
use Rattle.jr_commit.specs.declared.reading.ReadFault.TheVariants.{Memory, Bad}

infixl 10 ◌>>=◌
abbrev pub ◌>>=◌ : {A B : Type 0} → Option A → (A → Option B) → Option B
(Some x) >>= f = f x
None >>= f = None

-- what a function returned, seen by view, is what reading gives, unless memory ran out
abbrev pub Fails : {Y : Type 0} → ReadFault → Option Y → Type 0
Fails Memory read = Unit {0}
Fails Bad read = read ≡ None

abbrev pub Gives : {X Y : Type 0} → (X → Y) → Result X ReadFault → Option Y → Type 0
Gives view (Ok x) read = read ≡ Some (view x)
Gives view (Err e) read = Fails e read

-- a field is a value and the bytes after it
abbrev pub number_at : List ℕ → Option (ℕ × List ℕ)
number_at bytes = if nat_lt (length bytes) 4 then None else Some (from_be_bytes w32 (take 4 bytes), drop 4 bytes)

unfoldable pub string_at : List ℕ → Option (List ℕ × List ℕ)
string_at bytes = do
  n ← number_at bytes
  if nat_lt (length n.1) n.0 then None else Some (take n.0 n.1, drop n.0 n.1)

unfoldable pub side_at : List ℕ → Option (Known × List ℕ)
side_at [] = None
side_at (tag ∷ rest) = if tag == 70 then (do
  bytes ← string_at rest
  Some (Some (Some bytes.0), bytes.1)) else if tag == 65 then Some (Some None, rest) else None

unfoldable pub tagged_at : List ℕ → Option (PlainEntry × List ℕ)
tagged_at [] = None
tagged_at (tag ∷ rest) = if tag == 70 then (do
  path ← string_at rest
  old ← string_at path.1
  Some ((path.0, Some (Some old.0), None), old.1)) else if tag == 65 then (do
    path ← string_at rest
    Some ((path.0, Some None, None), path.1)) else None

unfoldable pub sided_at : List ℕ → Option (PlainEntry × List ℕ)
sided_at bytes = do
  path ← string_at bytes
  old ← side_at path.1
  new ← side_at old.1
  Some ((path.0, old.0, new.0), new.1)

abbrev pub entry_at : Version → List ℕ → Option (PlainEntry × List ℕ)
entry_at One bytes = tagged_at bytes
entry_at Two bytes = sided_at bytes

unfoldable pub entries_at : Version → ℕ → List ℕ → Option (List PlainEntry × List ℕ)
entries_at v zero bytes = Some ([], bytes)
entries_at v (suc n) bytes = do
  first ← entry_at v bytes
  others ← entries_at v n first.1
  Some (first.0 ∷ others.0, others.1)

unfoldable pub version_at : List ℕ → Option (Version × List ℕ)
version_at bytes = if nat_lt (length bytes) 5 then None else if bytes_eq (take 5 bytes) (magic One) then Some (One, drop 5 bytes) else if bytes_eq (take 5 bytes) (magic Two) then Some (Two, drop 5 bytes) else None

-- all of the bytes
unfoldable pub journal_at : List ℕ → Option (Version × List PlainEntry)
journal_at bytes = do
  v ← version_at bytes
  n ← number_at v.1
  es ← entries_at v.0 n.0 n.1
  if bytes_eq es.1 ending then Some (v.0, es.0) else None
