-- The one answer to a rename of the file that is held.
use Rattle.std.specs.Prelude.{◌≡◌, ◌≢◌, ℕ, List, length, nat_lt, bytes_eq, if◌then◌else◌, Option, Some, None, IsTrue}
use Rattle.jr_base.specs.Paths.{is_java}
use Rattle.jr_base.specs.declared.limits.Size.TheVariants.{File, Path}
use Rattle.jr_base.specs.declared.token.Place.{Place}
use Rattle.jr_rule.specs.declared.Rule.TheVariants.{LocalNames}
use Rattle.jr_store.specs.Image.{Image, Tells}
use Rattle.jr_thin.specs.declared.answers.Renaming.{Renaming}
use Rattle.jr_thin.specs.declared.answers.Renaming.TheVariants as renaming
use Rattle.jr_top.specs.declared.status.Report.TheVariants.{Changed}
use Rattle.jr_top.specs.declared.status.Status.{Status}
use Rattle.jr_top.specs.declared.status.Status.TheVariants.{Done, NoSpelling, BrokenRule, TooLarge}

-- a place of the file, which is unit 2
abbrev pub place_of : ℕ → Place
place_of at = record { cu = record { 0 = 2 }; at = at }

-- what is answered to a rename that comes to these new bytes
abbrev pub renamed_answer : List ℕ → List ℕ → Status
renamed_answer bytes new = if bytes_eq new bytes then Done (Changed 0) else (if nat_lt 1048576 (length new) then TooLarge File 0 else Done (Changed 1))

-- what is answered where a rename of these bytes comes to this, and None where it is left to the engine
abbrev pub answer_of : List ℕ → Renaming → Option Status
answer_of bytes renaming.NotServed = None
answer_of bytes (renaming.NoSpelling occ at lock) = Some (NoSpelling 0 occ (place_of at) lock)
answer_of bytes (renaming.BrokenRule at) = Some (BrokenRule 0 LocalNames (place_of at))
answer_of bytes (renaming.Renamed new) = Some (renamed_answer bytes new.items)

-- a path of more than 1,024 bytes is refused first
abbrev pub answer_at : List ℕ → List ℕ → Renaming → Option Status
answer_at file bytes comes_to = if nat_lt 1024 (length file) then Some (TooLarge Path 0) else answer_of bytes comes_to

-- what the file holds after the answer: the new bytes where the rename is done, and else the old ones
abbrev pub bytes_after : List ℕ → Status → Renaming → List ℕ
bytes_after bytes (Done report) (renaming.Renamed new) = new.items
bytes_after bytes status comes_to = bytes

-- the file holds these bytes, and every other `.java` file is as it was
abbrev pub KeepsOtherFiles : List ℕ → List ℕ → Image → Image → Type 0
KeepsOtherFiles file bytes old new = (new file ≡ Some bytes) × ((q : List ℕ) → IsTrue (is_java q) → q ≢ file → new q ≡ old q)

-- The answer is that of the rename, and the files left are those found with the bytes that it says.
pub record IsAnswered (found : Image) (file bytes : List ℕ) (comes_to : Renaming) (left : Option Image) (status : Status) : Type 0 where
  pub answer : Some status ≡ answer_at file bytes comes_to
  pub files : Tells (Some found) left (KeepsOtherFiles file (bytes_after bytes status comes_to))
