-- Files within limits, and how long their journal is at most.
use Rattle.std.specs.Prelude.{◌≡◌, ℕ, ◌≤◌, List, [], ◌∷◌, length, sum_by}
use Rattle.std.specs.List.{AllByRecursion}
use Rattle.std.specs.FinMap as finite
use Rattle.jr_base.specs.Files.{FileMap}
use Rattle.jr_commit.specs.declared.entry.Version.TheVariants.{Two}
use Rattle.jr_commit.specs.Journal.{spelling}
use Rattle.jr_commit.specs.Differences.{File, differences}

-- the bytes of all contents
abbrev pub content_bytes : List File → ℕ
content_bytes files = sum_by (λ f. length f.1) files

-- at most so many files, bytes of a path, and bytes of all contents
pub record IsWithin (most longest largest : ℕ) (files : FileMap) : Type 0 where
  pub count : length (finite.entries files) ≤ most
  pub paths : AllByRecursion (λ p. length p ≤ longest) (finite.keys files)
  pub contents : content_bytes (finite.entries files) ≤ largest

-- what the limits allow of a project's files: 4,096 of them, paths of 1,024 bytes, and 16 MiB in all
abbrev pub IsWithinLimits : FileMap → Type 0
IsWithinLimits files = IsWithin 4096 1024 16777216 files

-- the journal of their differences is short enough for a plan
abbrev pub JournalFits : FileMap → FileMap → Type 0
JournalFits old new = length (spelling Two (differences old new)) ≤ 50331648

-- one file, with a path and contents within the limits
pub record IsSmallFile (files : FileMap) : Type 0 where
  pub path : List ℕ
  pub bytes : List ℕ
  pub file : finite.entries files ≡ (path, bytes) ∷ []
  pub short : length path ≤ 1024
  pub small : length bytes ≤ 16777216
