-- What cannot follow a statement, since it would belong to it (JLS 14.5, 14.20), and which trees are read.
use Rattle.std.specs.Prelude.{◌≡◌, ℕ, ◌≤◌, Bool, true, false, ◌||◌, not, IsTrue, Option, ⊤}
use Rattle.jr_base.specs.declared.kind.Kind.{Kind}
use Rattle.jr_base.specs.declared.kind.Kind.TheVariants as kind
use Rattle.jr_base.specs.declared.kind.Keyword.TheVariants as k
use Rattle.jr_tree.specs.Shape.{is_local, IsShapedStmt}
use Rattle.jr_tree.specs.Depth.{stmt_depth}
use Rattle.jr_tree.specs.Mirror.Stmts as s
use Rattle.jr_parse_starts.specs.Starts.{next_is}
use Rattle.jr_parse_defs.specs.Begins.{is_catch}

abbrev pub is_else : Kind → Bool
is_else (kind.Word k.Else) = true
is_else _ = false

abbrev pub is_finally : Kind → Bool
is_finally (kind.Word k.Finally) = true
is_finally _ = false

-- a statement ends before o
abbrev pub StmtEnds : s.Stmt → Option Kind → Type 0
StmtEnds (s.While c body) o = StmtEnds body o
StmtEnds (s.If c a s.no_stmt) o = StmtEnds a o × (next_is is_else o ≡ false)
StmtEnds (s.If c a (s.a_stmt b)) o = StmtEnds b o
StmtEnds (s.For first c update body) o = StmtEnds body o
StmtEnds (s.Labeled label body) o = StmtEnds body o
StmtEnds (s.Try body cs s.no_block) o = (next_is is_catch o ≡ false) × (next_is is_finally o ≡ false)
StmtEnds _ o = ⊤

-- a statement of at most so many levels, which declares variables only where it may
pub record IsStmt (room : ℕ) (declares : Bool) (a : s.Stmt) : Type 0 where
  pub shaped : IsShapedStmt a
  pub allowed : IsTrue (declares || not (is_local a))
  pub low : stmt_depth a ≤ room
