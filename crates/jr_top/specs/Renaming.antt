-- The rename that the words ask for, and the file that it is asked of.
use Rattle.std.specs.Prelude.{◌≡◌, ℕ, ◌≤◌, List, [], ◌∷◌, length, Option, Some, None, IsSome, IsTrue}
use Rattle.jr_base.specs.Paths.{is_java}
use Rattle.jr_base.specs.declared.request.Request.TheVariants.{Rename}
use Rattle.jr_request.specs.Words.{command_of}
use Rattle.jr_request.specs.declared.command.Command.{Command}
use Rattle.jr_request.specs.declared.command.Command.TheVariants.{One}
use Rattle.jr_store.specs.Image.{Image}
use Rattle.jr_thin.specs.Renaming.{Serves}

-- the words ask for the rename of what stands at the offset of the file
abbrev pub AsksRename : List (List ℕ) → List ℕ → ℕ → List ℕ → Type 0
AsksRename words file at name = command_of words ≡ Some (One (Rename file at name))

-- the words ask for some rename
abbrev pub AsksSomeRename : List (List ℕ) → Type 0
AsksSomeRename words = (file : List ℕ) × (at : ℕ) × (name : List ℕ) × AsksRename words file at name

-- the files that a command names
abbrev pub files_named : Option Command → List (List ℕ)
files_named (Some (One (Rename file at name))) = file ∷ []
files_named other = []

-- the file is the only one whose path ends in `.java`
abbrev pub IsOnly : Image → List ℕ → Type 0
IsOnly files file = IsTrue (is_java file) × ((path : List ℕ) → IsTrue (is_java path) → IsSome (files path) → path ≡ file)

-- the file is the only one, holds these bytes, and is not large
pub record Holds (files : Image) (file bytes : List ℕ) : Type 0 where
  pub only : IsOnly files file
  pub there : files file ≡ Some bytes
  pub small : length bytes ≤ 65536

-- the rename is not served, and that is not for the length of the path
abbrev pub IsUnserved : List ℕ → List ℕ → ℕ → List ℕ → Type 0
IsUnserved file bytes at name = (length file ≤ 1024) × (Serves bytes at name → ⊥)

-- where a store tells its files, they have the property
abbrev pub ForTold : Option Image → (Image → Type 0) → Type 0
ForTold None P = Unit {0}
ForTold (Some files) P = P files
