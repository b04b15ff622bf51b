-- The differences of two lists of files, each in the order of its paths.
use Rattle.std.specs.Prelude.{◌≡◌, ◌≢◌, ℕ, List, [], ◌∷◌, map, filter, not, bytes_eq, Bool, true, false, Option, Some, None}
use Rattle.std.specs.List.{AllByRecursion}
use Rattle.std.specs.Ordering.{nat_cmp}
use Rattle.std.specs.Cmp.Lexicographic.{slice_cmp}
use Rattle.std.specs.FinMap as finite
use Rattle.std.specs.FinMap.Entries.{by_order}
use Rattle.jr_base.specs.Files.{FileMap}
use Rattle.jr_store.specs.Sides.{IsNoneOf}
use Rattle.jr_commit.specs.Entries.{PlainEntry, names_of}
use Rattle.jr_commit.specs.Journal.{IsRising}

abbrev pub File : Type 0
File = List ℕ × List ℕ

-- a path of either list, and what stands there in each
abbrev pub Pair : Type 0
Pair = List ℕ × Option (List ℕ) × Option (List ℕ)

-- the pairs from an old file on, where rest has those of the old files after it
abbrev pub beside : File → (List File → List Pair) → List File → List Pair
beside old rest [] = (old.0, Some old.1, None) ∷ rest []
beside old rest (new ∷ news) = by_order (slice_cmp nat_cmp old.0 new.0) ((old.0, Some old.1, None) ∷ rest (new ∷ news)) ((old.0, Some old.1, Some new.1) ∷ rest news) ((new.0, None, Some new.1) ∷ beside old rest news)

-- each path of either list, in order
abbrev pub pairs : List File → List File → List Pair
pairs [] news = map (λ n. (n.0, None, Some n.1)) news
pairs (old ∷ olds) news = beside old (pairs olds) news

abbrev pub same_side : Option (List ℕ) → Option (List ℕ) → Bool
same_side None None = true
same_side None (Some b) = false
same_side (Some a) None = false
same_side (Some a) (Some b) = bytes_eq a b

-- the entry of a pair
abbrev pub entry_of : Pair → PlainEntry
entry_of p = (p.0, Some p.1, Some p.2)

-- the entries of the pairs whose sides differ
abbrev pub changes : List Pair → List PlainEntry
changes ps = map entry_of (filter (λ p. not (same_side p.1 p.2)) ps)

abbrev pub differences : FileMap → FileMap → List PlainEntry
differences old new = changes (pairs (finite.entries old) (finite.entries new))

-- One entry for each path at which the files differ, in path order, with both sides.
pub record IsDifference (old new : FileMap) (es : List PlainEntry) : Type 0 where
  pub rising : IsRising (names_of es)
  pub sides : AllByRecursion (λ e. (e.1 ≡ Some (finite.get old e.0)) × (e.2 ≡ Some (finite.get new e.0)) × (e.1 ≢ e.2)) es
  pub others : (q : List ℕ) → IsNoneOf (names_of es) q → finite.get old q ≡ finite.get new q
