-- What is known of the rows of a program besides their labels (JLS 14.11, 14.15, 14.16, 14.20, 15.28).
use Rattle.std.specs.Prelude.{◌≡◌, ℕ, ◌+◌, ◌<◌, ◌≤◌, true, false, length, Option, Decides}
use Rattle.jr_base.specs.declared.constant.Const.TheVariants as c
use Rattle.jr_tree.specs.declared.label.Label.{Label}
use Rattle.jr_tree.specs.declared.label.Label.TheVariants as is
use Rattle.jr_tree.specs.Rows.{Rows, label, parent}
use Rattle.jr_defs.specs.declared.referent.Referent.TheVariants.{Declared}
use Rattle.jr_defs.specs.Referents.{Table}
use Rattle.jr_defs.specs.Constants.{Constant}
use Rattle.jr_plain.specs.Search.{Finds}
use Rattle.jr_rules.specs.Statements.{IsLoop, IsLoopOrSwitch, IsRound, LabelsLoop}
use Rattle.jr_reach.specs.declared.fact.Exit.{Exit}
use Rattle.jr_reach.specs.declared.fact.Exit.TheVariants as exit
use Rattle.jr_reach.specs.declared.fact.Fact.{Fact}
use Rattle.jr_reach.specs.Statements.{Facts, fact}

-- ---- where a jump goes to (14.15, 14.16)

-- the innermost statement of such a label that is round the place
pub record IsInnermost (p : Rows) (P : Label → Type 0) (o s : ℕ) : Type 0 where
  pub round : IsRound p P o s
  pub innermost : (e : ℕ) → IsRound p P o e → e ≤ s

-- with a label the statement at it, which a `continue` wants to be a loop; without one the innermost loop, and for a `break` the innermost loop or switch
pub data IsTargetOf (p : Rows) (t : Table) (n : ℕ) : Exit → Type 0 where
  labeled_break : {d : ℕ} {level : Option ℕ} → label p n ≡ is.Break true → t n ≡ Declared d level → IsTargetOf p t n (exit.Break d)
  plain_break : {s : ℕ} → label p n ≡ is.Break false → IsInnermost p IsLoopOrSwitch n s → IsTargetOf p t n (exit.Break s)
  labeled_continue : {d : ℕ} {level : Option ℕ} → label p n ≡ is.Continue true → t n ≡ Declared d level → LabelsLoop p d → IsTargetOf p t n (exit.Continue (d + 1))
  plain_continue : {s : ℕ} → label p n ≡ is.Continue false → IsInnermost p IsLoop n s → IsTargetOf p t n (exit.Continue s)

-- ---- the block of a `finally` (14.20)

-- k is a block of the `try` n, and not its first
pub record IsLaterBlock (p : Rows) (n k : ℕ) : Type 0 where
  pub guarded : label p n ≡ is.Try true
  pub block : label p k ≡ is.Block
  pub inside : parent p k ≡ n
  pub behind : n + 1 < k

-- the last of those
pub record IsLastBlock (p : Rows) (n k : ℕ) : Type 0 where
  pub block : IsLaterBlock p n k
  pub last : (j : ℕ) → IsLaterBlock p n j → j ≤ k

-- ---- a label `default` in a group of the switch n (14.11)

pub record HasDefault (p : Rows) (n : ℕ) : Type 0 where
  pub row : ℕ
  pub default : label p row ≡ is.Default
  pub inside : parent p (parent p row) ≡ n

-- ---- what is known of a row, and of all rows

pub record IsKnownAt (p : Rows) (t : Table) (n : ℕ) (known : Fact) : Type 0 where
  pub truth : Finds known.truth (λ b. Constant p t n (c.Bool b))
  pub exit : Finds known.exit (λ x. IsTargetOf p t n x)
  pub last : Finds known.last (λ k. IsLastBlock p n k)
  pub default : Decides known.has_default (HasDefault p n)

pub record AreKnown (p : Rows) (t : Table) (facts : Facts) : Type 0 where
  pub count : length facts ≡ length p
  pub each : (n : ℕ) → n < length p → IsKnownAt p t n (fact facts n)
