-- What the answers of a recovery say.
use Rattle.std.specs.Prelude.{◌≡◌, ℕ, List, length, Option, Some, None}
use Rattle.jr_store.specs.Image.{Image}
use Rattle.jr_commit.specs.Entries.{PlainEntry}
use Rattle.jr_commit.specs.Journal.{IsIn}
use Rattle.jr_commit.specs.Restoring.{IsOpen, journal_path}
use Rattle.jr_commit.specs.declared.entry.Version.{Version}
use Rattle.jr_commit.specs.declared.recovery.Recovered.{Recovered}
use Rattle.jr_commit.specs.declared.recovery.Recovered.TheVariants.{Clean, RolledBack}

-- `Clean` where the gate read as closed, else the journal's number of entries
abbrev pub Answers : Recovered → Option Image → Type 0
Answers answer None = Unit {0}
Answers Clean (Some f) = IsOpen f → ⊥
Answers (RolledBack n) (Some f) = IsOpen f × (bytes : List ℕ) × (v : Version) × (es : List PlainEntry) × (f journal_path ≡ Some bytes) × IsIn v bytes es × (n ≡ length es)
