-- Listings of paths that end in `.java`.
use Rattle.std.specs.Prelude.{◌≡◌, ℕ, ◌≤◌, List, [], ◌∷◌, length, bytes_eq, if◌then◌else◌}
use Rattle.std.specs.List.{IsDistinct, list_any}
use Rattle.std.specs.HashSet.{contains_text}
use Rattle.jr_base.specs.Paths.{is_java}
use Rattle.jr_store.specs.Image.{AreJava}
use Rattle.jr_store.specs.declared.folder_list.Listed.{Listed}

-- those of a list of files, in its order
abbrev pub java_paths : List (List ℕ × List ℕ) → List (List ℕ)
java_paths [] = []
java_paths (e ∷ es) = if is_java e.0 then e.0 ∷ java_paths es else java_paths es

-- distinct paths that end in `.java`, at most this many
pub record IsListing (most : ℕ) (paths : List (List ℕ)) : Type 0 where
  pub distinct : IsDistinct bytes_eq paths
  pub java : AreJava paths
  pub at_most : length paths ≤ most

-- the paths are such, and the texts beside them are these
pub record IsListed (most : ℕ) (all : Listed) : Type 0 where
  pub listing : IsListing most all.paths.items
  pub names : (name : List ℕ) → contains_text all.names name ≡ list_any (bytes_eq name) all.paths.items
