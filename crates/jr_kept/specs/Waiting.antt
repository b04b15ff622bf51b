-- What waits for the ends of blocks of `finally` where control is, by the rows round it (JLS 14.20.2), and what is tested of these rows.
use Rattle.std.specs.Prelude.{◌≡◌, ⊤, ℕ, zero, suc, ◌+◌, ◌<◌, ◌≤◌, Bool, true, false, [], ◌∷◌, Option, Some, None, nat_eq}
use Rattle.jr_tree.specs.declared.label.Label.{Label}
use Rattle.jr_tree.specs.declared.label.Label.TheVariants as is
use Rattle.jr_tree.specs.Rows.{Rows, label, parent, end}
use Rattle.jr_flow_defs.specs.Acts.{Completion, is_catch}
use Rattle.jr_flow_defs.specs.States.{Pending}

-- ---- blocks of `finally`

abbrev pub try_end_by : Label → ℕ → Option ℕ
try_end_by (is.Try true) e = Some e
try_end_by _ e = None

-- where a `try` with a `finally` ends
abbrev pub try_end : Rows → ℕ → Option ℕ
try_end p n = try_end_by (label p n) (end p n)

abbrev pub ends_at : Option ℕ → ℕ → Bool
ends_at None k = false
ends_at (Some e) k = nat_eq k e

-- the row is the block of `finally` of the `try` above it, which is the last row there
abbrev pub is_finally : Rows → ℕ → Bool
is_finally p k = ends_at (try_end p (parent p k)) (end p k)

-- ---- rows with their parts

-- so many rows stand from k on before the end, each behind the one before
abbrev pub HasRows : Rows → ℕ → ℕ → ℕ → Type 0
HasRows p k stop zero = ⊤
HasRows p k stop (suc count) = (k < stop) × HasRows p (end p k) stop count

abbrev pub for_parts : Bool → Bool → ℕ
for_parts true true = 3
for_parts true false = 2
for_parts false true = 2
for_parts false false = 1

abbrev pub try_parts : Bool → ℕ
try_parts true = 2
try_parts false = 1

-- how many rows stand right below one of the label at least, where its acts go to one of them by its place (JLS 14.9 to 14.14, 14.20, 15.17 to 15.25)
abbrev pub parts_by : Label → ℕ
parts_by is.If = 2
parts_by is.While = 2
parts_by is.Do = 2
parts_by (is.For has_first has_condition) = for_parts has_first has_condition
parts_by is.Switch = 1
parts_by (is.Try has_finally) = try_parts has_finally
parts_by is.Conditional = 3
parts_by (is.Binary op) = 2
parts_by _ = 0

-- the row has the parts to which its acts go, and is no catch in the place of a `finally`
pub record IsShaped (p : Rows) (n : ℕ) : Type 0 where
  pub parts : HasRows p (n + 1) (end p n) (parts_by (label p n))
  pub apart : is_catch (label p n) ≡ true → is_finally p n ≡ false

abbrev pub AreShapedTo : Rows → ℕ → ℕ → Type 0
AreShapedTo p first stop = (n : ℕ) → first ≤ n → n < stop → IsShaped p n

-- each row of the body has
abbrev pub AreShaped : Rows → ℕ → Type 0
AreShaped p body = AreShapedTo p body (end p body)

-- ---- what waits

-- the second row stands right below the first
pub record IsBelow (p : Rows) (n k : ℕ) : Type 0 where
  pub behind : n < k
  pub within : k < end p n
  pub under : parent p k ≡ n

-- what is pending where control is at the row k of the body: one completion for each block of `finally` round it
pub data Waits (p : Rows) (body : ℕ) : ℕ → Pending → Type 0 where
  none : {k : ℕ} {w : Pending} → k ≡ body → w ≡ [] → Waits p body k w
  plainly : {n k : ℕ} {w : Pending} → IsBelow p n k → is_finally p k ≡ false → Waits p body n w → Waits p body k w
  pushed : {n k : ℕ} {w u : Pending} {c : Completion} → IsBelow p n k → is_finally p k ≡ true → w ≡ c ∷ u → Waits p body n u → Waits p body k w

-- nothing is pending where control is at the row
abbrev pub IsFree : Rows → ℕ → ℕ → Type 0
IsFree p body k = (w : Pending) → Waits p body k w → w ≡ []

-- what waits at the row where some wait further down: the same, unless a block of `finally` was passed
pub record WaitsOn (p : Rows) (body at : ℕ) (is_held : Bool) (w : Pending) : Type 0 where
  pub above : Pending
  pub waits : Waits p body at above
  pub same : is_held ≡ false → w ≡ above

-- what waits at the row further down where some wait here: more, if a block of `finally` was passed
pub record WaitsFor (p : Rows) (body row : ℕ) (is_held : Bool) (u : Pending) : Type 0 where
  pub here : Pending
  pub waits : Waits p body row here
  pub held : is_held ≡ true → here ≡ [] → ⊥
  pub longer : here ≡ [] → u ≡ []

-- on the way up from a row of the body, with whether a block of `finally` was passed
pub record IsGoingUp (p : Rows) (body row at : ℕ) (is_held : Bool) : Type 0 where
  pub out : (w : Pending) → Waits p body row w → WaitsOn p body at is_held w
  pub into : (u : Pending) → Waits p body at u → WaitsFor p body row is_held u
