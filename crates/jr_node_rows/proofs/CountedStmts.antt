-- The labels of statements stand for their nodes.
use Rattle.std.proofs.Common.{List, refl}
use Rattle.std.specs.Prelude.{Bool}
use Rattle.jr_tree.specs.declared.tree.TypeUse.{TypeUse}
use Rattle.jr_tree.specs.declared.tree.Param.{Param}
use Rattle.jr_tree.specs.Shape.{IsWholeExpr, AreStatementExprs, IsShapedDeclarator, AreShapedVariables, IsShapedInit, IsShapedForInit, IsShapedLabel, IsShapedParam, IsShapedStmt, IsShapedBlock, IsShapedCatch, IsShapedGroup, AreShapedStmts, AreShapedGroups, AreShapedCatches, IsShapedCtorBody}
use Rattle.jr_tree.specs.Nodes as n
use Rattle.jr_tree.specs.Mirror.Exprs as x
use Rattle.jr_tree.specs.Mirror.Stmts as s
use Rattle.jr_tree.specs.Forest.{Forest, none, if_some, each}
use Rattle.jr_tree.specs.Exprs.{type_labels, expr_labels, exprs_labels, init_labels}
use Rattle.jr_tree.specs.Stmts.{param_labels, local_labels, for_labels, case_labels, stmt_labels, block_labels, stmts_labels, groups_labels, group_labels, catches_labels, catch_labels}
use Rattle.jr_node_rows.proofs.Counting.{Counts, nothing, join, row, row_none, of_some, of_each}
use Rattle.jr_node_rows.proofs.CountedExprs.{type_counts, expr_counts, exprs_counts, init_counts}

-- ---- parts of statements

pub param_counts : (p : Param) (rest : Forest) → IsShapedParam p → Counts (param_labels p rest) (n.param_nodes p) rest
param_counts p rest h = row _ _ _ _ _ _ refl (type_counts p.ty none h)

local_counts : (b : Bool) (v : s.Declarator) (rest : Forest) → IsShapedDeclarator v → Counts (local_labels b v rest) (n.declarator_nodes v) rest
local_counts b (s.DeclaratorOf name dims init) rest h = row _ _ _ _ _ _ refl (of_some IsShapedInit init_labels n.init_nodes init_counts init none h)

-- a type, and then its variables with labels of this kind
pub variables_count : (labels : s.Declarator → Forest → Forest) → ((v : s.Declarator) (rest : Forest) → IsShapedDeclarator v → Counts (labels v rest) (n.declarator_nodes v) rest)
    → (ty : TypeUse) (vs : List s.Declarator) → AreShapedVariables ty vs → Counts (type_labels ty (each labels vs none)) (n.variables_nodes ty vs) none
variables_count labels one ty vs h = join _ _ _ _ _ (type_counts ty (each labels vs none) h.0) (of_each IsShapedDeclarator labels n.declarator_nodes one vs none h.2)

whole_counts : (e : x.Expr) (rest : Forest) → IsWholeExpr e → Counts (expr_labels e rest) (n.expr_nodes e) rest
whole_counts e rest h = expr_counts e rest h.1

statement_exprs_count : (es : x.Exprs) (rest : Forest) → AreStatementExprs es → Counts (exprs_labels es rest) (n.exprs_nodes es) rest
statement_exprs_count x.no_exprs rest h = nothing rest
statement_exprs_count (x.more_exprs e all) rest h = join _ _ _ _ _ (expr_counts e (exprs_labels all rest) h.0.1) (statement_exprs_count all rest h.1)

for_counts : (first : s.ForInit) (rest : Forest) → IsShapedForInit first → Counts (for_labels first rest) (n.for_init_nodes first) rest
for_counts (s.Locals b ty vs) rest h = row _ _ _ _ _ _ refl (variables_count (local_labels b) (local_counts b) ty vs h)
for_counts (s.Exprs es) rest h = row _ _ _ _ _ _ refl (statement_exprs_count es none h.1)

case_counts : (l : s.SwitchLabel) (rest : Forest) → IsShapedLabel l → Counts (case_labels l rest) (n.label_nodes l) rest
case_counts (s.Case value) rest h = row_none _ _ _ _ _ refl (whole_counts value none h)
case_counts s.Default rest h = row_none _ _ _ _ _ refl (nothing none)

-- ---- statements

mutual
  pub stmt_counts : (a : s.Stmt) (rest : Forest) → IsShapedStmt a → Counts (stmt_labels a rest) (n.stmt_nodes a) rest
  stmt_counts (s.Nest b) rest h = row _ _ _ _ _ _ refl (block_counts b none h)
  stmt_counts (s.Local b ty vs) rest h = row _ _ _ _ _ _ refl (variables_count (local_labels b) (local_counts b) ty vs h)
  stmt_counts s.Skip rest h = row _ _ _ _ _ _ refl (nothing none)
  stmt_counts (s.Do body c) rest h = row _ _ _ _ _ _ refl (join _ _ _ _ _ (stmt_counts body (expr_labels c none) h.1) (whole_counts c none h.2))
  stmt_counts (s.While c body) rest h = row _ _ _ _ _ _ refl (join _ _ _ _ _ (whole_counts c (stmt_labels body none) h.0) (stmt_counts body none h.2))
  stmt_counts (s.If c a s.no_stmt) rest h =
      row _ _ _ _ _ _ refl (join _ _ _ _ _ (join _ _ _ _ _ (whole_counts c (stmt_labels a none) h.0) (stmt_counts a none h.2)) (nothing none))
  stmt_counts (s.If c a (s.a_stmt b)) rest h =
      row _ _ _ _ _ _ refl (join _ _ _ _ _ (join _ _ _ _ _ (whole_counts c (stmt_labels a (stmt_labels b none)) h.0) (stmt_counts a (stmt_labels b none) h.2)) (stmt_counts b none h.3.2))
  stmt_counts (s.Eval value) rest h = row _ _ _ _ _ _ refl (expr_counts value none h.1)
  stmt_counts (s.For first c update body) rest h =
      row _ _ _ _ _ _ refl (join _ _ _ _ _ (join _ _ _ _ _ (join _ _ _ _ _
      (of_some IsShapedForInit for_labels n.for_init_nodes for_counts first (if_some expr_labels c (exprs_labels update (stmt_labels body none))) h.0)
      (of_some IsWholeExpr expr_labels n.expr_nodes whole_counts c (exprs_labels update (stmt_labels body none)) h.1))
      (statement_exprs_count update (stmt_labels body none) h.2)) (stmt_counts body none h.4))
  stmt_counts (s.Switch value gs) rest h = row _ _ _ _ _ _ refl (join _ _ _ _ _ (whole_counts value (groups_labels gs none) h.0) (groups_count gs none h.1))
  stmt_counts (s.Labeled label body) rest h = row _ _ _ _ _ _ refl (stmt_counts body none h.1)
  stmt_counts (s.Break label) rest h = row _ _ _ _ _ _ refl (nothing none)
  stmt_counts (s.Continue label) rest h = row _ _ _ _ _ _ refl (nothing none)
  stmt_counts (s.Return value) rest h = row _ _ _ _ _ _ refl (of_some IsWholeExpr expr_labels n.expr_nodes whole_counts value none h)
  stmt_counts (s.Throw value) rest h = row _ _ _ _ _ _ refl (whole_counts value none h)
  stmt_counts (s.Try body cs s.no_block) rest h =
      row _ _ _ _ _ _ refl (join _ _ _ _ _ (join _ _ _ _ _ (block_counts body (catches_labels cs none) h.0) (catches_count cs none h.1)) (nothing none))
  stmt_counts (s.Try body cs (s.a_block last)) rest h =
      row _ _ _ _ _ _ refl (join _ _ _ _ _ (join _ _ _ _ _ (block_counts body (catches_labels cs (block_labels last none)) h.0) (catches_count cs (block_labels last none) h.1)) (block_counts last none h.2))
  stmt_counts (s.CtorCall which args) rest h = absurd h

  pub block_counts : (b : s.Block) (rest : Forest) → IsShapedBlock b → Counts (block_labels b rest) (n.block_nodes b) rest
  block_counts (s.BlockOf all) rest h = row _ _ _ _ _ _ refl (stmts_count all none h)

  pub stmts_count : (all : s.Stmts) (rest : Forest) → AreShapedStmts all → Counts (stmts_labels all rest) (n.stmts_nodes all) rest
  stmts_count s.no_stmts rest h = nothing rest
  stmts_count (s.more_stmts a all) rest h = join _ _ _ _ _ (stmt_counts a (stmts_labels all rest) h.0) (stmts_count all rest h.1)

  pub groups_count : (gs : s.Groups) (rest : Forest) → AreShapedGroups gs → Counts (groups_labels gs rest) (n.groups_nodes gs) rest
  groups_count s.no_groups rest h = nothing rest
  groups_count (s.more_groups g all) rest h = join _ _ _ _ _ (group_counts g (groups_labels all rest) h.0) (groups_count all rest h.2)

  pub group_counts : (g : s.Group) (rest : Forest) → IsShapedGroup g → Counts (group_labels g rest) (n.group_nodes g) rest
  group_counts (s.GroupOf labels all) rest h =
      row _ _ _ _ _ _ refl (join _ _ _ _ _ (of_each IsShapedLabel case_labels n.label_nodes case_counts labels (stmts_labels all none) h.1) (stmts_count all none h.2))

  pub catches_count : (cs : s.Catches) (rest : Forest) → AreShapedCatches cs → Counts (catches_labels cs rest) (n.catches_nodes cs) rest
  catches_count s.no_catches rest h = nothing rest
  catches_count (s.more_catches c all) rest h = join _ _ _ _ _ (catch_counts c (catches_labels all rest) h.0) (catches_count all rest h.1)

  pub catch_counts : (c : s.Catch) (rest : Forest) → IsShapedCatch c → Counts (catch_labels c rest) (n.catch_nodes c) rest
  catch_counts (s.CatchOf p b) rest h = row _ _ _ _ _ _ refl (join _ _ _ _ _ (param_counts p (block_labels b none) h.0) (block_counts b none h.1))

-- the body of a constructor, which may begin by calling another
pub constructor_body_counts : (b : s.Block) (rest : Forest) → IsShapedCtorBody b → Counts (block_labels b rest) (n.block_nodes b) rest
constructor_body_counts (s.BlockOf s.no_stmts) rest h = row _ _ _ _ _ _ refl (nothing none)
constructor_body_counts (s.BlockOf (s.more_stmts (s.CtorCall which args) all)) rest h =
    row _ _ _ _ _ _ refl (join _ _ _ _ _ (row _ _ _ (stmts_labels all none) _ _ refl (exprs_counts args none h.0)) (stmts_count all none h.1))
constructor_body_counts (s.BlockOf (s.more_stmts a all)) rest h = row _ _ _ _ _ _ refl (stmts_count (s.more_stmts a all) none h)
