-- Whether the local that a row reads is assigned there, by the tables of members.
use Rattle.std.specs.Prelude.{◌≡◌, ℕ, ◌+◌, ◌-◌, ◌<◌, ◌≤◌, Bool, true, false, not, ◌&&◌, if◌then◌else◌, List, length, Option, Some, None, Decides, bit_and, nat_eq, slice_index_or, slice_set}
use Rattle.jr_tree.specs.declared.label.Label.{Label}
use Rattle.jr_tree.specs.declared.label.Label.TheVariants as is
use Rattle.jr_tree.specs.Rows.{Rows, label, end}
use Rattle.jr_plain.specs.Search.{all_below, all_such, has}
use Rattle.jr_rule.specs.declared.Fault.{Fault}
use Rattle.jr_rule.specs.declared.Rule.TheVariants as rule
use Rattle.jr_rule.specs.Faults.{AreFaultsOf}
use Rattle.jr_assign.specs.declared.course.Course.{Course}
use Rattle.jr_assign.specs.Sets.{only}
use Rattle.jr_assign.specs.Changes.{Facts, fact, members, member_in}
use Rattle.jr_assign.specs.Assigned.{Seen, AreAssigned, guarded_in, has_parts, is_row}
use Rattle.jr_assign.specs.Words.{mask, seen_by}
use Rattle.jr_assign.specs.Confirmed.{IsWhole}
use Rattle.jr_assign.specs.Walked.{frame_of, IsTableOf}

-- ---- the rule (16)

-- the row n reads a local that is not definitely assigned before it, in the member that holds the row
pub record ReadsUnassigned (p : Rows) (f : Facts) (n : ℕ) : Type 0 where
  pub variable : ℕ
  pub read : (fact f n).read ≡ Some variable
  pub table : ℕ → Seen Bool
  pub assigned : AreAssigned (only variable) p f (member_in (members p (length p)) n) false table
  pub unassigned : (table n).before ≡ false

-- ---- what is found of a row

-- the local that the row n reads is assigned before it, or is not; root is the member that holds it
pub record IsJudged (p : Rows) (f : Facts) (root n : ℕ) (is_assigned : Bool) : Type 0 where
  pub variable : ℕ
  pub read : (fact f n).read ≡ Some variable
  pub table : ℕ → Seen Bool
  pub assigned : AreAssigned (only variable) p f root false table
  pub parts : (m : ℕ) → root ≤ m → m < end p root → has_parts p f m ≡ true
  pub low : root ≤ n
  pub high : n < end p root
  pub is : (table n).before ≡ is_assigned

abbrev pub Verdicts : Type 0
Verdicts = List (Option Bool)

abbrev pub verdict : Verdicts → ℕ → Option Bool
verdict all n = slice_index_or all n None

pub record AreJudged (p : Rows) (f : Facts) (held : List ℕ) (all : Verdicts) : Type 0 where
  pub each : IsWhole p f → (n : ℕ) (b : Bool) → verdict all n ≡ Some b → IsJudged p f (member_in held n) n b

-- ---- in code

abbrev pub number : Course → ℕ → Option ℕ
number c d = slice_index_or c.numbers.now d None

-- no other variable has the number of d
abbrev pub is_owner : List (Option ℕ) → Option ℕ → ℕ → Bool
is_owner owners None d = true
is_owner owners (Some k) d = is_row (slice_index_or owners k None) d

abbrev pub is_owned : Course → List (Option ℕ) → ℕ → Bool
is_owned c owners d = is_owner owners (number c d) d

abbrev pub is_owned_if : Course → List (Option ℕ) → Option ℕ → Bool
is_owned_if c owners None = true
is_owned_if c owners (Some d) = is_owned c owners d

abbrev pub is_declared_owned : Label → Course → List (Option ℕ) → ℕ → Bool
is_declared_owned (is.Local is_final dims) c owners n = is_owned c owners n
is_declared_owned _ c owners n = true

abbrev pub is_owned_at : Course → List (Option ℕ) → ℕ → Bool
is_owned_at c owners n = is_declared_owned (label c.rows.now n) c owners n && is_owned_if c owners (fact c.facts.now n).assigned

abbrev pub are_owned : Course → List (Option ℕ) → Bool
are_owned c owners = all_below (end c.rows.now c.root - c.root) (λ i. is_owned_at c owners (c.root + i))

-- the variable has a bit of the words, it is not assigned before the member, and the member holds the row
abbrev pub is_asked : Course → ℕ → List (Option ℕ) → List ℕ → ℕ → ℕ → Bool
is_asked c start owners held v n = not (nat_eq (mask c.numbers.now c.from v) 0) && (nat_eq (bit_and start (mask c.numbers.now c.from v)) 0 && (is_owned c owners v && nat_eq (member_in held n) c.root))

abbrev pub judged_by : Course → ℕ → List (Option ℕ) → List ℕ → Option ℕ → ℕ → Verdicts → Verdicts
judged_by c start owners held None n all = all
judged_by c start owners held (Some v) n all = if is_asked c start owners held v n then slice_set all n (Some (not (nat_eq (bit_and (seen_by c n).before (mask c.numbers.now c.from v)) 0))) else all

abbrev pub judged_at : Course → ℕ → List (Option ℕ) → List ℕ → ℕ → Verdicts → Verdicts
judged_at c start owners held n all = judged_by c start owners held (fact c.facts.now n).read n all

-- the table is that of the member, and its variables have numbers of their own
pub record IsConfirmed (c : Course) (start : ℕ) (owners : List (Option ℕ)) : Type 0 where
  pub table : IsTableOf (frame_of c) start c.seen.now
  pub owned : are_owned c owners ≡ true
  pub guarded : c.guarded.now ≡ guarded_in c.rows.now c.root

-- ---- the faults

abbrev pub is_lost : Option ℕ → Option Bool → Bool
is_lost (Some v) (Some false) = true
is_lost _ _ = false

abbrev pub lost_rows : Rows → Facts → Verdicts → List ℕ
lost_rows p f all = all_such (length p) (λ n. is_lost (fact f n).read (verdict all n))

-- each read is judged
abbrev pub is_settled : Option ℕ → Option Bool → Bool
is_settled (Some v) None = false
is_settled _ _ = true

abbrev pub are_settled : Rows → Facts → Verdicts → Bool
are_settled p f all = all_below (length p) (λ n. is_settled (fact f n).read (verdict all n))

-- the faults that are added are those of the rule
pub record AreUnassignedReads (p : Rows) (f : Facts) (old new : List Fault) : Type 0 where
  pub rows : List ℕ
  pub are : AreFaultsOf rule.UnassignedLocal rows old new
  pub each : (n : ℕ) → Decides (has rows n) (ReadsUnassigned p f n)
