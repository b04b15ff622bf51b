-- How the table of a member is filled: a row and what stands inside it, from child to child, in the order of evaluation.
use Rattle.std.specs.Prelude.{◌≡◌, ◌<◌, ◌≤◌, ℕ, ◌+◌, ◌-◌, Option, Some, None, true, List, length, slice_set}
use Rattle.jr_tree.specs.declared.label.Label.{Label}
use Rattle.jr_tree.specs.declared.label.Label.TheVariants as is
use Rattle.jr_tree.specs.Rows.{Rows, parent, end}
use Rattle.jr_tree.specs.Tree.{IsTree}
use Rattle.jr_assign.specs.declared.course.Course.{Course}
use Rattle.jr_assign.specs.declared.course.Seen as course_seen
use Rattle.jr_assign.specs.declared.run.ForParts.{ForParts}
use Rattle.jr_assign.specs.declared.run.Frame.{Frame}
use Rattle.jr_assign.specs.Changes.{Facts}
use Rattle.jr_assign.specs.Assigned.{Seen, Gain, AreAssigned, before_at, gain_at, met_at, has_last, has_parts, guarded_in, last_part, for_update}
use Rattle.jr_assign.specs.Words.{words, seen_at, seen_in}

-- where the updates and the body of a `for` begin
abbrev pub parts_in : Option ℕ → ℕ → Option ForParts
parts_in None update = None
parts_in (Some body) update = Some (record { update = update; body = body })

abbrev pub for_parts : Label → Rows → Facts → ℕ → Option ForParts
for_parts (is.For has_first has_condition) p f n = parts_in (last_part f n) (for_update p n has_first has_condition)
for_parts _ p f n = None

-- ---- what the equations say by a table

abbrev pub before_by : Frame → (ℕ → Seen ℕ) → ℕ → ℕ
before_by c a n = let s = words c.numbers.now c.from in before_at s c.rows.now c.facts.now a (met_at s c.rows.now c.facts.now c.guarded.now a) n

abbrev pub gain_by : Frame → (ℕ → Seen ℕ) → ℕ → Gain ℕ
gain_by c a n = let s = words c.numbers.now c.from in gain_at s c.rows.now c.facts.now a (met_at s c.rows.now c.facts.now c.guarded.now a) n

abbrev pub frame_of : Course → Frame
frame_of c = record { rows = c.rows; facts = c.facts; numbers = c.numbers; from = c.from; root = c.root; guarded = c.guarded }

abbrev pub Table : Type 0
Table = List course_seen.Seen

-- the row n is entered, and left
abbrev pub with_before : Frame → Table → ℕ → course_seen.Seen
with_before c all n = let x = seen_at all c.root n in record { before = before_by c (seen_in all c.root) n; done = x.done; yes = x.yes; no = x.no }

abbrev pub with_gain : Frame → Table → ℕ → course_seen.Seen
with_gain c all n = let gain = gain_by c (seen_in all c.root) n in record { before = (seen_at all c.root n).before; done = gain.done; yes = gain.yes; no = gain.no }

abbrev pub after_entry : Frame → Table → ℕ → Table
after_entry c all n = slice_set all (n - c.root) (with_before c all n)

abbrev pub after_exit : Frame → Table → ℕ → Table
after_exit c all n = slice_set all (n - c.root) (with_gain c all n)

-- ---- the table that is wanted

pub record IsWanted (c : Frame) (start : ℕ) (b : ℕ → Seen ℕ) : Type 0 where
  pub tree : IsTree c.rows.now
  pub there : c.root < length c.rows.now
  pub lasts : (n : ℕ) → has_last c.rows.now c.facts.now n ≡ true
  pub parts : (n : ℕ) → c.root ≤ n → n < end c.rows.now c.root → has_parts c.rows.now c.facts.now n ≡ true
  pub guarded : c.guarded.now ≡ guarded_in c.rows.now c.root
  pub assigned : AreAssigned (words c.numbers.now c.from) c.rows.now c.facts.now c.root start b

-- the rows of an interval have what is wanted, and the others what they had
pub record IsFilled (c : Frame) (b : ℕ → Seen ℕ) (old new : Table) (low high : ℕ) : Type 0 where
  pub long : length new ≡ length old
  pub below : (m : ℕ) → c.root ≤ m → m < low → seen_in new c.root m ≡ seen_in old c.root m
  pub behind : (m : ℕ) → c.root ≤ m → high ≤ m → seen_in new c.root m ≡ seen_in old c.root m
  pub same : (m : ℕ) → low ≤ m → m < high → seen_in new c.root m ≡ b m

-- so far all is well at the row n of the member
pub record IsBegun (c : Frame) (start : ℕ) (b : ℕ → Seen ℕ) (all : Table) (n room : ℕ) : Type 0 where
  pub wanted : IsWanted c start b
  pub long : length all ≡ end c.rows.now c.root - c.root
  pub low : c.root ≤ n
  pub high : n < end c.rows.now c.root
  pub levels : end c.rows.now n ≤ n + 1 + room
  pub before : (seen_in all c.root n).before ≡ (b n).before

abbrev pub IsBelow : Rows → ℕ → ℕ → Type 0
IsBelow p n k = (n < k) × (parent p k ≡ n)

-- from the child at a number to another: each waits for those before it alone
pub record IsRun (c : Frame) (start : ℕ) (b : ℕ → Seen ℕ) (all : Table) (n from to room : ℕ) : Type 0 where
  pub begun : IsBegun c start b all n room
  pub after : n < from
  pub le : from ≤ to
  pub within : to ≤ end c.rows.now n
  pub starts : from < end c.rows.now n → IsBelow c.rows.now n from
  pub ends : to < end c.rows.now n → IsBelow c.rows.now n to
  pub step : (k : ℕ) → IsBelow c.rows.now n k → from ≤ k → k < to → (now : Table) → IsFilled c b all now from k → before_by c (seen_in now c.root) k ≡ (b k).before

-- what is done about the children, about all that stands inside a row, and about a member
abbrev pub RunsOn : Frame → Table → Table → ℕ → ℕ → ℕ → Type 0
RunsOn c old new from to room = (start : ℕ) (b : ℕ → Seen ℕ) (n : ℕ) → IsRun c start b old n from to room → IsFilled c b old new from to

abbrev pub FillsParts : Frame → Table → Table → ℕ → ℕ → Type 0
FillsParts c old new n room = (start : ℕ) (b : ℕ → Seen ℕ) → IsBegun c start b old n room → IsFilled c b old new (n + 1) (end c.rows.now n)

pub record IsTableOf (c : Frame) (start : ℕ) (all : Table) : Type 0 where
  pub each : (b : ℕ → Seen ℕ) → IsWanted c start b → (n : ℕ) → c.root ≤ n → n < end c.rows.now c.root → seen_in all c.root n ≡ b n
