-- The recovery that every command but `demo` begins with.
use Rattle.std.specs.Prelude.{◌≡◌, ℕ, List, Option, Some}
use Rattle.jr_commit.specs.Restoring.{IsOpen, KeepsOthers, Restored, SameFiles}
use Rattle.jr_request.specs.Words.{command_of}
use Rattle.jr_request.specs.declared.command.Command.{Command}
use Rattle.jr_request.specs.declared.command.Command.TheVariants.{Demo}
use Rattle.jr_store.specs.Image.{Image, Tells}

-- a command of the grammar, other than `demo`
abbrev pub NeedsFiles : Command → Type 0
NeedsFiles (Demo number) = ⊥
NeedsFiles other = Unit {0}

abbrev pub AsksRecovery : List (List ℕ) → Type 0
AsksRecovery words = (command : Command) × (command_of words ≡ Some command) × NeedsFiles command

-- The image stood for files; the files found are those, the gate is closed, and nothing else has changed.
pub record IsRecovered (old new : Image) : Type 0 where
  pub stood : (restored : Image) × Restored old restored
  pub shut : IsOpen new → ⊥
  pub files : (restored : Image) → Restored old restored → SameFiles new restored
  pub others : KeepsOthers old new

-- the files that recovery has found
abbrev pub Recovers : Option Image → Option Image → Type 0
Recovers told found = Tells told found IsRecovered
