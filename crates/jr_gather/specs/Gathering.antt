-- All `.java` files of a store.
use Rattle.std.specs.Prelude.{◌≡◌, ℕ, ◌+◌, ◌<◌, ◌≤◌, List, [], ◌∷◌, length, Contains, Option, Some, None, IsSome, IsTrue, bytes_eq}
use Rattle.std.specs.List.{IsDistinct}
use Rattle.std.specs.FinMap as map
use Rattle.jr_base.specs.Files.{FileMap}
use Rattle.jr_base.specs.Paths.{is_java}
use Rattle.jr_base.specs.declared.limits.Size.{Size}
use Rattle.jr_base.specs.declared.limits.Size.TheVariants as size
use Rattle.jr_base.specs.declared.limits.TheConstants.Limits as limits
use Rattle.jr_store.specs.Image.{Image, AreJava}
use Rattle.jr_gather.specs.declared.collect.Gathered.{Gathered}
use Rattle.jr_gather.specs.declared.collect.Gathered.TheVariants as gathered

-- the map has just the `.java` files of the image
pub record HoldsFiles (f : Image) (found : FileMap) : Type 0 where
  pub java : (path : List ℕ) → IsSome (map.get found path) → IsTrue (is_java path)
  pub each : (path : List ℕ) → IsTrue (is_java path) → f path ≡ map.get found path

-- distinct paths of `.java` files of the image
pub record AreFiles (f : Image) (paths : List (List ℕ)) : Type 0 where
  pub distinct : IsDistinct bytes_eq paths
  pub java : AreJava paths
  pub there : (path : List ℕ) → Contains paths path → IsSome (f path)

abbrev pub size_of : Option (List ℕ) → ℕ
size_of None = 0
size_of (Some bytes) = length bytes

-- the bytes of the files at these paths
abbrev pub sizes : Image → List (List ℕ) → ℕ
sizes f [] = 0
sizes f (path ∷ paths) = size_of (f path) + sizes f paths

-- a size of the `.java` files of the image passes its limit
pub data IsTooLarge (f : Image) : Size → Type 0 where
  many_files : (paths : List (List ℕ)) → AreFiles f paths → limits.FILES < length paths → IsTooLarge f size.Files
  long_path : (path : List ℕ) → IsTrue (is_java path) → IsSome (f path) → limits.PATH < length path → IsTooLarge f size.Path
  large_file : (path bytes : List ℕ) → IsTrue (is_java path) → f path ≡ Some bytes → limits.FILE < length bytes → IsTooLarge f size.File
  much_in_all : (paths : List (List ℕ)) → AreFiles f paths → limits.TOTAL < sizes f paths → IsTooLarge f size.Total

-- sizes in the order in which they are tested
abbrev pub rank : Size → ℕ
rank size.Files = 0
rank size.Path = 1
rank size.File = 2
rank other = 3

-- a size of the `.java` files of the image passes its limit, and none before it does
pub record IsFirstTooLarge (f : Image) (what : Size) : Type 0 where
  pub passes : IsTooLarge f what
  pub first : (other : Size) → IsTooLarge f other → rank what ≤ rank other

-- what the files of an image come to
abbrev pub IsGathered : Image → Gathered → Type 0
IsGathered f (gathered.Files found) = HoldsFiles f found
IsGathered f (gathered.TooLarge what) = IsFirstTooLarge f what
