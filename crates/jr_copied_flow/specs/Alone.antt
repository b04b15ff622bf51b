-- A body that a change leaves as it is, and what its copy reads.
use Rattle.std.specs.Prelude.{◌≡◌, ℕ, ◌+◌, ◌-◌, ◌<◌, false, length, Some, None}
use Rattle.jr_tree.specs.declared.label.Label.TheVariants as is
use Rattle.jr_tree.specs.Rows.{Rows, label, role_at}
use Rattle.jr_defs.specs.declared.referent.Referent.TheVariants.{Unbound}
use Rattle.jr_flow_defs.specs.Meaning.{Meaning, is_constant, is_text, is_shown, narrows, declared}
use Rattle.jr_flow_defs.specs.Edges.{body_flow}
use Rattle.jr_flow_defs.specs.Kept.{Origin, KeepsBody}
use Rattle.jr_flow_laws.specs.Shifted.{IsIn}
use Rattle.jr_change.specs.declared.change.Change.{Change}
use Rattle.jr_locks.specs.Origins.{origin_of, row_by}
use Rattle.jr_locks.specs.Ending.{StandsInOne}
use Rattle.jr_locks.specs.Locked.{IsSeenFrom, is_in, is_added}
use Rattle.jr_locks.specs.Changed.{origins_by, rests_by}

-- where the copy of the row n of the body stands that has its copy at a row
abbrev pub copy_in : ℕ → ℕ → ℕ → ℕ
copy_in body at n = at + (n - body)

-- The change leaves the body alone: it has its copy at a row, in one run with all below it. No other row is a copy of one of its rows, all its copy stands on one side of the rows in
-- which what is declared twice is found among themselves, and the change says of none of its rows what that refers to.
pub record IsLeftAlone (p : Rows) (change : Change) (body at : ℕ) : Type 0 where
  pub one : StandsInOne p (origins_by change) (rests_by change) body at
  pub once : (n k : ℕ) → IsIn p body n → origin_of (origins_by change) k ≡ n → k ≡ copy_in body at n
  pub beside : (n : ℕ) → IsIn p body n → is_in change.inner (copy_in body at n) ≡ is_in change.inner at
  pub unsaid : (n : ℕ) → IsIn p body n → is_added change.added.items (copy_in body at n) ≡ false

-- What the copy of the body reads is what the body reads, where `move` tells of each declaration that has a copy which one the copy of the body sees. What the body refers to is a row of
-- the program, and the copy refers to something there that has the role of it; what is constant stays so; strings are strings, what is shown as one is shown (JLS 15.18.1), and casts
-- that can fail can fail (JLS 15.16).
pub record KeepsMeaning (p q : Rows) (m w : Meaning) (change : Change) (body at : ℕ) (move : ℕ → ℕ) : Type 0 where
  pub sees : (d c : ℕ) → d < length p → IsSeenFrom change.inner (origins_by change) (length p) at d c → move d ≡ c
  pub known : (n d : ℕ) → IsIn p body n → declared (m.targets n) ≡ Some d → d < length p
  pub bound : (n d : ℕ) → IsIn p body n → declared (m.targets n) ≡ Some d → w.targets (copy_in body at n) ≡ Unbound → ⊥
  pub roles : (n d c : ℕ) → IsIn p body n → declared (m.targets n) ≡ Some d → declared (w.targets (copy_in body at n)) ≡ Some c → role_at q c ≡ role_at p d
  pub constants : (n : ℕ) → IsIn p body n → is_constant w (copy_in body at n) ≡ is_constant m n
  pub texts : (n : ℕ) → IsIn p body n → is_text q (w.types (copy_in body at n)) ≡ is_text p (m.types n)
  pub shown : (n : ℕ) → IsIn p body n → is_shown q (w.types (copy_in body at n)) ≡ is_shown p (m.types n)
  pub casts : (n : ℕ) → IsIn p body n → label p n ≡ is.Cast → narrows q w (copy_in body at n) ≡ narrows p m n

-- the old row of which a row of the changed program is a copy, if it is one
abbrev pub origin_by : Change → Origin
origin_by change n = row_by (origin_of (origins_by change) n)

-- the body keeps its edges of control and those from definitions to uses in its copy
abbrev pub KeepsFlowAt : Rows → Rows → Meaning → Meaning → Change → ℕ → ℕ → Type 0
KeepsFlowAt p q m w change body at = KeepsBody p q (body_flow p m body) (body_flow q w at) body at None (origin_by change)
