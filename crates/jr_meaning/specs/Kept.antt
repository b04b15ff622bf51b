-- Bodies that mean what they meant.
use Rattle.std.specs.Prelude.{◌≡◌, ℕ, ◌+◌, ◌-◌, ◌<◌, ◌≤◌, true, false, List, length}
use Rattle.jr_tree.specs.Rows.{Rows, label, end}
use Rattle.jr_flow_defs.specs.Meaning.{Meaning}
use Rattle.jr_flow_laws.specs.Shifted.{declares_code}
use Rattle.jr_change.specs.declared.change.Change.{Change}
use Rattle.jr_change.specs.declared.change.RowRange.{RowRange}
use Rattle.jr_locks.specs.Origins.{no_row, origin_of}
use Rattle.jr_copied_flow.specs.Alone.{IsLeftAlone, KeepsFlowAt}
use Rattle.jr_meaning.specs.Meaning.{is_alike}
use Rattle.jr_meaning.specs.Whole.{nears, is_whole_at}

-- Each body that the change leaves alone keeps its edges of control and those from definitions to uses.
pub record KeepsBodies (p q : Rows) (m w : Meaning) (change : Change) : Type 0 where
  pub keeps : (body at : ℕ) → body < length p → declares_code (label p body) ≡ true → IsLeftAlone p change body at → KeepsFlowAt p q m w change body at

-- ---- as the code finds it

-- the rows have copies, one behind the other
abbrev pub IsRun : List ℕ → RowRange → Type 0
IsRun copy range = (n : ℕ) → range.first ≤ n → n < range.end → (origin_of copy n ≡ origin_of copy range.first + (n - range.first)) × (origin_of copy n < no_row)

-- the row n of a range has what a body by itself has, and means what the row k of the other program means
pub record IsKeptRow (p q : Rows) (m w : Meaning) (targets loops : List ℕ) (range : RowRange) (n k : ℕ) : Type 0 where
  pub whole : is_whole_at p m targets loops range n ≡ true
  pub alike : is_alike p q m w n k ≡ true

-- each row of the range before one has, and means what its copy means
abbrev pub AreKept : Rows → Rows → Meaning → Meaning → List ℕ → List ℕ → List ℕ → RowRange → ℕ → Type 0
AreKept p q m w targets loops copy range stop = (n : ℕ) → range.first ≤ n → n < stop → IsKeptRow p q m w targets loops range n (origin_of copy n)

abbrev pub rows_of : Rows → ℕ → RowRange
rows_of p body = record { first = body; end = end p body }

-- where the rows of the body have copies, one behind the other, they do
pub record KeepsBody (p q : Rows) (m w : Meaning) (targets loops copy : List ℕ) (body : ℕ) : Type 0 where
  pub keeps : declares_code (label p body) ≡ true → IsRun copy (rows_of p body) → AreKept p q m w targets loops copy (rows_of p body) (end p body)

abbrev pub KeepBodies : Rows → Rows → Meaning → Meaning → List ℕ → List ℕ → List ℕ → ℕ → Type 0
KeepBodies p q m w targets loops copy count = (body : ℕ) → body < count → KeepsBody p q m w targets loops copy body

-- these are the loops and switches round rows, and the loops
pub record AreNears (p : Rows) (targets loops : List ℕ) : Type 0 where
  pub switched : targets ≡ nears p true (length p)
  pub looped : loops ≡ nears p false (length p)
