-- In shaped statements locals stand in blocks, groups and `for` statements.
use Rattle.std.proofs.Common.{◌≡◌}
use Rattle.std.specs.Prelude.{Bool, true, false, not, IsTrue, is_some}
use Rattle.jr_tree.specs.declared.tree.Param.{Param}
use Rattle.jr_tree.specs.Shape.{is_local, IsShapedStmt, IsShapedBlock, IsShapedCatch, IsShapedGroup, AreShapedStmts, AreShapedGroups, AreShapedCatches, IsShapedCtorBody}
use Rattle.jr_tree.specs.Mirror.Stmts as s
use Rattle.jr_tree.specs.declared.label.Label.{Label}
use Rattle.jr_tree.specs.declared.label.Label.TheVariants as is
use Rattle.jr_tree.specs.Forest.{Forest, none, if_some, each}
use Rattle.jr_tree.specs.Exprs.{expr_labels, exprs_labels, init_labels}
use Rattle.jr_tree.specs.Stmts.{param_labels, local_labels, for_labels, case_labels, stmt_labels, block_labels, stmts_labels, groups_labels, group_labels, catches_labels, catch_labels}
use Rattle.jr_lookup.specs.Locals.{DeclaresLocals, HasParameters}
use Rattle.jr_local_rows.proofs.Standing.{HasStatements, IsFor, IsSwitch, HasFirst, ParametersFirst, Placed, any_placed, all_placed}
use Rattle.jr_local_rows.proofs.StandingExprs.{type_placed, expr_placed, exprs_placed, init_placed}

-- ---- parts of statements

pub param_placed : (over : Label) → HasParameters over → (p : Param) (rest : Forest) → Placed over rest → Placed over (param_labels p rest)
param_placed over o p rest r = (o, tt, type_placed p.ty (is.Parameter p.is_final p.dims) none tt, r)

local_placed : (b : Bool) (over : Label) → DeclaresLocals over → (d : s.Declarator) (rest : Forest) → Placed over rest → Placed over (local_labels b d rest)
local_placed b over o (s.DeclaratorOf name dims init) rest r =
    (o, tt, any_placed init_labels (is.Local b dims) (λ i rest r. init_placed i (is.Local b dims) rest r) init none tt, r)

for_placed : (over : Label) → IsFor over → (f : s.ForInit) (rest : Forest) → Placed over rest → Placed over (for_labels f rest)
for_placed over o (s.Locals b ty ds) rest r =
    (o, tt, type_placed ty is.ForLocals (each (local_labels b) ds none) (all_placed (local_labels b) is.ForLocals (local_placed b is.ForLocals tt) ds none tt), r)
for_placed over o (s.Exprs es) rest r = (tt, tt, exprs_placed es is.ForExprs none tt, r)

case_placed : (over : Label) (l : s.SwitchLabel) (rest : Forest) → Placed over rest → Placed over (case_labels l rest)
case_placed over (s.Case value) rest r = (tt, tt, expr_placed value is.Case none tt, r)
case_placed over s.Default rest r = (tt, tt, tt, r)

-- ---- statements

-- a declaration of locals stands in a block or a group
abbrev MayHold : s.Stmt → Label → Type 0
MayHold (s.Local is_final ty ds) over = HasStatements over
MayHold _ over = Unit {0}

held : (a : s.Stmt) (over : Label) → HasStatements over → MayHold a over
held (s.Local is_final ty ds) over o = o
held _ over o = tt

no_local : (a : s.Stmt) (over : Label) → IsTrue (not (is_local a)) → MayHold a over
no_local (s.Local is_final ty ds) over e = absurd (let z : false ≡ true = e in cc)
no_local _ over e = tt

pub block_first : (b : s.Block) → ParametersFirst (block_labels b none)
block_first (s.BlockOf all) = (tt, tt)

block_stands : (b : s.Block) (rest : Forest) → HasFirst (block_labels b rest)
block_stands (s.BlockOf all) rest = tt

mutual
  pub stmt_placed : (a : s.Stmt) (over : Label) (rest : Forest) → MayHold a over → IsShapedStmt a → Placed over rest → Placed over (stmt_labels a rest)
  stmt_placed (s.Nest b) over rest o h r = (tt, tt, block_placed b is.Nest none h tt, r)
  stmt_placed (s.Local b ty ds) over rest o h r =
      (o, tt, type_placed ty is.Locals (each (local_labels b) ds none) (all_placed (local_labels b) is.Locals (local_placed b is.Locals tt) ds none tt), r)
  stmt_placed s.Skip over rest o h r = (tt, tt, tt, r)
  stmt_placed (s.Do body c) over rest o h r = (tt, tt, stmt_placed body is.Do (expr_labels c none) (no_local body is.Do h.0) h.1 (expr_placed c is.Do none tt), r)
  stmt_placed (s.While c body) over rest o h r =
      (tt, tt, expr_placed c is.While (stmt_labels body none) (stmt_placed body is.While none (no_local body is.While h.1) h.2 tt), r)
  stmt_placed (s.If c a s.no_stmt) over rest o h r = (tt, tt, expr_placed c is.If (stmt_labels a none) (stmt_placed a is.If none (no_local a is.If h.1) h.2 tt), r)
  stmt_placed (s.If c a (s.a_stmt b)) over rest o h r = (
    tt,
    tt,
    expr_placed c is.If (stmt_labels a (stmt_labels b none))
        (stmt_placed a is.If (stmt_labels b none) (no_local a is.If h.1) h.2 (stmt_placed b is.If none (no_local b is.If h.3.1) h.3.2 tt)),
    r,
  )
  stmt_placed (s.Eval value) over rest o h r = (tt, tt, expr_placed value is.Eval none tt, r)
  stmt_placed (s.For first c update body) over rest o h r = let l = is.For (is_some first) (is_some c) in (
    tt,
    tt,
    any_placed for_labels l (for_placed l tt) first (if_some expr_labels c (exprs_labels update (stmt_labels body none)))
        (any_placed expr_labels l (λ e rest r. expr_placed e l rest r) c (exprs_labels update (stmt_labels body none))
        (exprs_placed update l (stmt_labels body none) (stmt_placed body l none (no_local body l h.3) h.4 tt))),
    r,
  )
  stmt_placed (s.Switch value gs) over rest o h r = (tt, tt, expr_placed value is.Switch (groups_labels gs none) (groups_placed gs is.Switch none tt h.1 tt), r)
  stmt_placed (s.Labeled label body) over rest o h r = (tt, tt, stmt_placed body is.Labeled none (no_local body is.Labeled h.0) h.1 tt, r)
  stmt_placed (s.Break label) over rest o h r = (tt, tt, tt, r)
  stmt_placed (s.Continue label) over rest o h r = (tt, tt, tt, r)
  stmt_placed (s.Return value) over rest o h r = (tt, tt, any_placed expr_labels is.Return (λ e rest r. expr_placed e is.Return rest r) value none tt, r)
  stmt_placed (s.Throw value) over rest o h r = (tt, tt, expr_placed value is.Throw none tt, r)
  stmt_placed (s.Try body cs s.no_block) over rest o h r =
      (tt, block_stands body (catches_labels cs none), block_placed body (is.Try false) (catches_labels cs none) h.0 (catches_placed cs (is.Try false) none h.1 tt), r)
  stmt_placed (s.Try body cs (s.a_block last)) over rest o h r = (
    tt,
    block_stands body (catches_labels cs (block_labels last none)),
    block_placed body (is.Try true) (catches_labels cs (block_labels last none)) h.0
        (catches_placed cs (is.Try true) (block_labels last none) h.1 (block_placed last (is.Try true) none h.2 tt)),
    r,
  )
  stmt_placed (s.CtorCall which args) over rest o h r = absurd h

  pub block_placed : (b : s.Block) (over : Label) (rest : Forest) → IsShapedBlock b → Placed over rest → Placed over (block_labels b rest)
  block_placed (s.BlockOf all) over rest h r = (tt, tt, stmts_placed all is.Block none tt h tt, r)

  pub stmts_placed : (a : s.Stmts) (over : Label) (rest : Forest) → HasStatements over → AreShapedStmts a → Placed over rest → Placed over (stmts_labels a rest)
  stmts_placed s.no_stmts over rest o h r = r
  stmts_placed (s.more_stmts a all) over rest o h r = stmt_placed a over (stmts_labels all rest) (held a over o) h.0 (stmts_placed all over rest o h.1 r)

  pub groups_placed : (a : s.Groups) (over : Label) (rest : Forest) → IsSwitch over → AreShapedGroups a → Placed over rest → Placed over (groups_labels a rest)
  groups_placed s.no_groups over rest o h r = r
  groups_placed (s.more_groups g all) over rest o h r = group_placed g over (groups_labels all rest) o h.0 (groups_placed all over rest o h.2 r)

  pub group_placed : (a : s.Group) (over : Label) (rest : Forest) → IsSwitch over → IsShapedGroup a → Placed over rest → Placed over (group_labels a rest)
  group_placed (s.GroupOf labels all) over rest o h r =
      (o, tt, all_placed case_labels is.Group (case_placed is.Group) labels (stmts_labels all none) (stmts_placed all is.Group none tt h.2 tt), r)

  pub catches_placed : (a : s.Catches) (over : Label) (rest : Forest) → AreShapedCatches a → Placed over rest → Placed over (catches_labels a rest)
  catches_placed s.no_catches over rest h r = r
  catches_placed (s.more_catches c all) over rest h r = catch_placed c over (catches_labels all rest) h.0 (catches_placed all over rest h.1 r)

  pub catch_placed : (a : s.Catch) (over : Label) (rest : Forest) → IsShapedCatch a → Placed over rest → Placed over (catch_labels a rest)
  catch_placed (s.CatchOf p b) over rest h r =
      (tt, (tt, block_first b), param_placed is.Catch tt p (block_labels b none) (block_placed b is.Catch none h.1 tt), r)

-- the body of a constructor, which may begin by calling another
pub constructor_body_placed : (b : s.Block) (over : Label) (rest : Forest) → IsShapedCtorBody b → Placed over rest → Placed over (block_labels b rest)
constructor_body_placed (s.BlockOf s.no_stmts) over rest h r = (tt, tt, tt, r)
constructor_body_placed (s.BlockOf (s.more_stmts (s.CtorCall which args) all)) over rest h r =
    (tt, tt, (tt, tt, exprs_placed args (is.ConstructorCall which) none tt, stmts_placed all is.Block none tt h.1 tt), r)
constructor_body_placed (s.BlockOf (s.more_stmts a all)) over rest h r = (tt, tt, stmts_placed (s.more_stmts a all) is.Block none tt h tt, r)
