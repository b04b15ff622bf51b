-- A law of renames.
use Rattle.std.specs.Prelude.{◌≡◌, ℕ, List}
use Rattle.jr_thin.specs.declared.answers.Renaming.{Renaming}
use Rattle.jr_thin.specs.declared.answers.Renaming.TheVariants.{NotServed, NoSpelling, BrokenRule, Renamed}
use Rattle.jr_thin.specs.Renaming.{IsRenaming}

-- two answers that say the same
abbrev pub IsSame : Renaming → Renaming → Type 0
IsSame NotServed NotServed = Unit {0}
IsSame (NoSpelling occ place lock) (NoSpelling occurrence at declaration) = (occ ≡ occurrence) × (place ≡ at) × (lock ≡ declaration)
IsSame (BrokenRule place) (BrokenRule at) = place ≡ at
IsSame (Renamed new) (Renamed bytes) = new.items ≡ bytes.items
IsSame _ _ = ⊥

-- a rename has one answer
abbrev pub OneAnswer : Type 0
OneAnswer = (old : List ℕ) (at : ℕ) (name : List ℕ) (r s : Renaming) → IsRenaming old at name r → IsRenaming old at name s → IsSame r s
