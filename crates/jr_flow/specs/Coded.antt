-- The table of the acts of a body, and the rows for which a graph is exact.
use Rattle.std.specs.Prelude.{◌≡◌, ℕ, zero, suc, ◌+◌, ◌-◌, ◌<◌, ◌≤◌, ◌^◌, Bool, true, false, ◌&&◌, not, List, [], ◌∷◌, ◌++◌, length, Option, Some, None, if◌then◌else◌, nat_eq, nat_lt, option_map, option_and_then, slice_get, slice_set}
use Rattle.std.specs.List.{Contains}
use Rattle.jr_tree.specs.declared.label.Label.TheVariants as is
use Rattle.jr_tree.specs.Rows.{Rows, label, parent, end}
use Rattle.jr_tree.specs.Tree.{IsTree}
use Rattle.jr_flow_defs.specs.Meaning.{Meaning}
use Rattle.jr_flow_defs.specs.Acts.{Act, part, acts, last, is_catch}
use Rattle.jr_flow_defs.specs.States.{behind}
use Rattle.jr_flow_defs.specs.Edges.{body_flow, HasMorePoints}
use Rattle.jr_flow.specs.declared.code.Code.{Code}
use Rattle.jr_flow.specs.Seen.{seen}
use Rattle.jr_flow.specs.Bodies.{has_code}

-- ---- what the table has

-- the item of a row, where those of the body begin
abbrev pub item : List ℕ → ℕ → ℕ → Option ℕ
item all body n = if nat_lt n body then None else slice_get all (n - body)

abbrev pub between : Option ℕ → Option ℕ → ℕ
between (Some first) (Some next) = next - first
between _ _ = 0

abbrev pub count_of : List ℕ → ℕ → ℕ → ℕ
count_of firsts body n = between (item firsts body n) (item firsts body (n + 1))

abbrev pub act_between : List Act → Option ℕ → Option ℕ → ℕ → Option Act
act_between all (Some first) (Some next) i = if nat_lt i (next - first) then slice_get all (first + i) else None
act_between all _ _ i = None

abbrev pub act_of : List Act → List ℕ → ℕ → ℕ → ℕ → Option Act
act_of all firsts body n i = act_between all (item firsts body n) (item firsts body (n + 1)) i

abbrev pub count_in : Code → ℕ → ℕ
count_in code n = count_of code.firsts.items code.body n

abbrev pub act_in : Code → ℕ → ℕ → Option Act
act_in code n i = act_of (seen code.acts) code.firsts.items code.body n i

-- the table has the acts of each row of the body, what stands behind each, and the last row below it
pub record IsCodeOf (p : Rows) (m : Meaning) (body : ℕ) (code : Code) : Type 0 where
  pub is_of : code.body ≡ body
  pub counts : (n : ℕ) → body ≤ n → n < end p body → count_in code n ≡ length (acts p m n)
  pub acts_are : (n i : ℕ) → body ≤ n → n < end p body → act_in code n i ≡ slice_get (acts p m n) i
  pub behinds : (n : ℕ) → body < n → n < end p body → item code.behinds.items body n ≡ Some (behind (acts p m (parent p n)) n)
  pub lasts : (n : ℕ) → body ≤ n → n < end p body → item code.lasts.items body n ≡ Some (last p n)

-- the rows are those of a tree, few enough to be counted, and the table is that of one of them
pub record IsCoded (p : Rows) (m : Meaning) (code : Code) : Type 0 where
  pub tree : IsTree p
  pub few : length p + 3 < 2 ^ 32
  pub inside : code.body < length p
  pub table : IsCodeOf p m code.body code

-- ---- how it is written

-- the acts of so many rows, one after the other
abbrev pub written : Rows → Meaning → ℕ → ℕ → List Act
written p m n zero = []
written p m n (suc count) = acts p m n ++ written p m (n + 1) count

-- how many stand before those of each, and before what follows
abbrev pub starts : Rows → Meaning → ℕ → ℕ → ℕ → List ℕ
starts p m before n zero = before ∷ []
starts p m before n (suc count) = before ∷ starts p m (before + length (acts p m n)) (n + 1) count

pub record AreWritten (p : Rows) (m : Meaning) (from count : ℕ) (old new : List Act) (before behind : List ℕ) : Type 0 where
  pub acts_are : new ≡ old ++ written p m from count
  pub firsts_are : behind ≡ before ++ starts p m (length old) from count

-- the acts of so many rows stand in the list, each where the numbers say
pub record AreTold (p : Rows) (m : Meaning) (body count : ℕ) (all : List Act) (firsts : List ℕ) : Type 0 where
  pub counts : (k : ℕ) → k < count → count_of firsts body (body + k) ≡ length (acts p m (body + k))
  pub first : (k : ℕ) → k < count → (first : ℕ) × (item firsts body (body + k) ≡ Some first) × ((i : ℕ) → i < length (acts p m (body + k)) → slice_get all (first + i) ≡ slice_get (acts p m (body + k)) i)

abbrev pub lasts_from : Rows → ℕ → ℕ → List ℕ
lasts_from p n zero = []
lasts_from p n (suc count) = last p n ∷ lasts_from p (n + 1) count

abbrev pub counts_from : Rows → List ℕ → ℕ → ℕ → ℕ → List ℕ
counts_from p firsts body n zero = []
counts_from p firsts body n (suc count) = count_of firsts body (parent p n) ∷ counts_from p firsts body (n + 1) count

-- an act of the row at is a part right below it
abbrev pub placed : Rows → ℕ → ℕ → Option Act → ℕ → List ℕ → List ℕ
placed p body at (Some (part k)) i all = if not (nat_lt k body) && nat_eq (parent p k) at then slice_set all (k - body) (i + 1) else all
placed p body at _ i all = all

-- so with these acts, of which the first has the number i
abbrev pub placed_all : Rows → ℕ → ℕ → List Act → ℕ → List ℕ → List ℕ
placed_all p body at [] i all = all
placed_all p body at (a ∷ rest) i all = placed p body at (Some a) i (placed_all p body at rest (i + 1) all)

abbrev pub placed_rows : Rows → Meaning → ℕ → ℕ → ℕ → List ℕ → List ℕ
placed_rows p m body n zero all = all
placed_rows p m body n (suc count) all = placed_rows p m body (n + 1) count (placed_all p body n (acts p m n) 0 all)

-- nothing is written yet
pub record IsBegun (body : ℕ) (code : Code) : Type 0 where
  pub is_of : code.body ≡ body
  pub acts_are : seen code.acts ≡ []
  pub firsts_are : code.firsts.items ≡ []
  pub behinds_are : code.behinds.items ≡ []
  pub lasts_are : code.lasts.items ≡ []

-- ---- rows for which a graph is exact

-- what is a part of a row stands right below it, and the last part of a `try` with `finally` is no catch; rows of shaped units are so
pub record HasParts (p : Rows) (m : Meaning) : Type 0 where
  pub tree : IsTree p
  pub below : (n k : ℕ) → n < length p → Contains (acts p m n) (part k) → (parent p k ≡ n) × (n < k) × (k < end p n)
  pub blocks : (n : ℕ) → label p n ≡ is.Try true → (n + 1 < last p n) × (is_catch (label p (last p n)) ≡ Bool.false)

-- there is no graph where control comes to more points
abbrev pub IsTooLarge : Rows → Meaning → ℕ → Type 0
IsTooLarge p m body = HasMorePoints (body_flow p m body) 65536
