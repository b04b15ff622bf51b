-- The entries of a journal, without where they lie in memory.
use Rattle.std.specs.Prelude.{List, ℕ, map, Option, Some, None}
use Rattle.jr_commit.specs.declared.entry.Side.{Side}
use Rattle.jr_commit.specs.declared.entry.Side.TheVariants.{Absent, Holds, Unknown}
use Rattle.jr_commit.specs.declared.entry.Entry.{Entry}
use Rattle.jr_commit.specs.declared.entry.RawEntry.{RawEntry}

-- what a journal says of a path: `Some` of the file's bytes or of its absence, `None` where it says nothing
abbrev pub Known : Type 0
Known = Option (Option (List ℕ))

abbrev pub known_of : Side → Known
known_of Absent = Some None
known_of (Holds bytes) = Some (Some bytes.items)
known_of Unknown = None

-- a path, what stood there, and what stands there after the change
abbrev pub PlainEntry : Type 0
PlainEntry = List ℕ × Known × Known

abbrev pub plain_of : Entry → PlainEntry
plain_of e = (e.path, known_of e.old, known_of e.new)

abbrev pub plain : List Entry → List PlainEntry
plain es = map plain_of es

abbrev pub raw_of : RawEntry → PlainEntry
raw_of e = (e.path.items, known_of e.old, known_of e.new)

abbrev pub raw : List RawEntry → List PlainEntry
raw es = map raw_of es

-- the paths of the entries
abbrev pub names_of : List PlainEntry → List (List ℕ)
names_of es = map (λ e. e.0) es
