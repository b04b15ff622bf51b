-- The gate, and the files that an image stands for.
use Rattle.std.specs.Prelude.{◌≡◌, ◌⊎◌, ◌↔◌, Bool, ℕ, List, [], ◌∷◌, codes, Option, Some, None, IsTrue}
use Rattle.jr_base.specs.Paths.{is_java}
use Rattle.jr_store.specs.Image.{Image}
use Rattle.jr_commit.specs.SidesAt.{SideAt, with_sides, IsOff}
use Rattle.jr_commit.specs.Journal.{PutsBack}

abbrev pub journal_path : List ℕ
journal_path = codes ".refactor-journal"

abbrev pub gate_path : List ℕ
gate_path = codes ".refactor-gate"

-- the gate stands open: its file is the one byte `1`
abbrev pub IsOpen : Image → Type 0
IsOpen image = image gate_path ≡ Some (49 ∷ [])

-- The files that an image stands for: itself where the gate is closed; where it is open over a journal, the image with
-- the old side of each entry put back.
abbrev pub Restored : Image → Image → Type 0
Restored image files = ((IsOpen image → ⊥) × (files ≡ image))
    ⊎ (IsOpen image × (bytes : List ℕ) × (olds : List SideAt) × (image journal_path ≡ Some bytes) × PutsBack bytes olds × (files ≡ with_sides olds image))

-- the same at each path that ends in `.java`
abbrev pub SameFiles : Image → Image → Type 0
SameFiles a b = (q : List ℕ) → IsTrue (is_java q) → a q ≡ b q

-- the image stands for these files
abbrev pub RestoresTo : Image → Image → Type 0
RestoresTo image files = (r : Image) × Restored image r × SameFiles r files

-- What a crash may leave when recovery begins: the gate is sure. Where it is open, so is the journal, and each file
-- without an entry; where it is closed, each file.
pub record StartsRecover (f : Image) (outcomes : Image → Type 0) : Type 0 where
  pub gate : (c : Image) → outcomes c → c gate_path ≡ f gate_path
  pub shut : (IsOpen f → ⊥) → (c : Image) → outcomes c → SameFiles c f
  pub journal : IsOpen f → (c : Image) → outcomes c → c journal_path ≡ f journal_path
  pub files : (bytes : List ℕ) (olds : List SideAt) → IsOpen f → f journal_path ≡ Some bytes → PutsBack bytes olds → (c : Image) → outcomes c → (q : List ℕ) → IsTrue (is_java q) → IsOff olds q → c q ≡ f q

-- a call may begin: what a crash may leave is what recovery can begin with, so nothing is pending at the gate
abbrev pub MayBegin : Option Image → (Image → Type 0) → Type 0
MayBegin None outcomes = Unit {0}
MayBegin (Some f) outcomes = StartsRecover f outcomes

-- old and new differ at `.java` paths and at the gate at most
abbrev pub KeepsOthers : Image → Image → Type 0
KeepsOthers old new = (q : List ℕ) → (IsTrue (is_java q) → ⊥) → (q ≡ gate_path → ⊥) → new q ≡ old q

-- the journal at this path has these old sides, and no others
abbrev pub FindsOlds : Option Image → List ℕ → List SideAt → Type 0
FindsOlds None path olds = Unit {0}
FindsOlds (Some f) path olds = (bytes : List ℕ) × (f path ≡ Some bytes) × PutsBack bytes olds × ((others : List SideAt) → PutsBack bytes others → others ≡ olds)

-- no journal stands at this path
abbrev pub HasNoJournal : Option Image → List ℕ → Type 0
HasNoJournal None path = Unit {0}
HasNoJournal (Some f) path = (bytes : List ℕ) (olds : List SideAt) → f path ≡ Some bytes → PutsBack bytes olds → ⊥

-- a file is the one byte `1`
abbrev pub SaysOpen : Bool → Option Image → List ℕ → Type 0
SaysOpen says None path = Unit {0}
SaysOpen says (Some f) path = IsTrue says ↔ (f path ≡ Some (49 ∷ []))
