-- The labels of statements, each before the rest (JLS 14).
use Rattle.std.specs.Prelude.{ℕ, Bool, true, false, List, [], ◌∷◌, Option, Some, None, is_some}
use Rattle.jr_base.specs.declared.text.Text.{Text}
use Rattle.jr_tree.specs.declared.tree.TypeUse.{TypeUse}
use Rattle.jr_tree.specs.declared.tree.Param.{Param}
use Rattle.jr_tree.specs.Mirror.Exprs as x
use Rattle.jr_tree.specs.Mirror.Stmts as s
use Rattle.jr_tree.specs.declared.label.Label.TheVariants as is
use Rattle.jr_tree.specs.Forest.{Forest, none, more, node, leaf, if_some, each}
use Rattle.jr_tree.specs.Exprs.{type_labels, expr_labels, exprs_labels, init_labels}

abbrev pub param_labels : Param → Forest → Forest
param_labels p rest = more (is.Parameter p.is_final p.dims) p.name (type_labels p.ty none) rest

abbrev pub local_labels : Bool → s.Declarator → Forest → Forest
local_labels is_final (s.DeclaratorOf name dims init) rest = more (is.Local is_final dims) name (if_some init_labels init none) rest

abbrev pub for_labels : s.ForInit → Forest → Forest
for_labels (s.Locals is_final ty ds) rest = node is.ForLocals (type_labels ty (each (local_labels is_final) ds none)) rest
for_labels (s.Exprs es) rest = node is.ForExprs (exprs_labels es none) rest

abbrev pub case_labels : s.SwitchLabel → Forest → Forest
case_labels (s.Case value) rest = node is.Case (expr_labels value none) rest
case_labels s.Default rest = leaf is.Default rest

-- a label that is there or not
abbrev pub label_name : Option Text → Text
label_name None = []
label_name (Some name) = name

abbrev mutual
  pub stmt_labels : s.Stmt → Forest → Forest
  stmt_labels (s.Nest b) rest = node is.Nest (block_labels b none) rest
  stmt_labels (s.Local is_final ty ds) rest = node is.Locals (type_labels ty (each (local_labels is_final) ds none)) rest
  stmt_labels s.Skip rest = leaf is.Skip rest
  stmt_labels (s.Do body c) rest = node is.Do (stmt_labels body (expr_labels c none)) rest
  stmt_labels (s.While c body) rest = node is.While (expr_labels c (stmt_labels body none)) rest
  stmt_labels (s.If c a s.no_stmt) rest = node is.If (expr_labels c (stmt_labels a none)) rest
  stmt_labels (s.If c a (s.a_stmt b)) rest = node is.If (expr_labels c (stmt_labels a (stmt_labels b none))) rest
  stmt_labels (s.Eval value) rest = node is.Eval (expr_labels value none) rest
  stmt_labels (s.For first c update body) rest =
      node (is.For (is_some first) (is_some c)) (if_some for_labels first (if_some expr_labels c (exprs_labels update (stmt_labels body none)))) rest
  stmt_labels (s.Switch value gs) rest = node is.Switch (expr_labels value (groups_labels gs none)) rest
  stmt_labels (s.Labeled label body) rest = more is.Labeled label (stmt_labels body none) rest
  stmt_labels (s.Break label) rest = more (is.Break (is_some label)) (label_name label) none rest
  stmt_labels (s.Continue label) rest = more (is.Continue (is_some label)) (label_name label) none rest
  stmt_labels (s.Return value) rest = node is.Return (if_some expr_labels value none) rest
  stmt_labels (s.Throw value) rest = node is.Throw (expr_labels value none) rest
  stmt_labels (s.Try body cs s.no_block) rest = node (is.Try false) (block_labels body (catches_labels cs none)) rest
  stmt_labels (s.Try body cs (s.a_block last)) rest = node (is.Try true) (block_labels body (catches_labels cs (block_labels last none))) rest
  stmt_labels (s.CtorCall which args) rest = node (is.ConstructorCall which) (exprs_labels args none) rest

  pub block_labels : s.Block → Forest → Forest
  block_labels (s.BlockOf all) rest = node is.Block (stmts_labels all none) rest

  pub stmts_labels : s.Stmts → Forest → Forest
  stmts_labels s.no_stmts rest = rest
  stmts_labels (s.more_stmts a all) rest = stmt_labels a (stmts_labels all rest)

  pub groups_labels : s.Groups → Forest → Forest
  groups_labels s.no_groups rest = rest
  groups_labels (s.more_groups g all) rest = group_labels g (groups_labels all rest)

  pub group_labels : s.Group → Forest → Forest
  group_labels (s.GroupOf labels all) rest = node is.Group (each case_labels labels (stmts_labels all none)) rest

  pub catches_labels : s.Catches → Forest → Forest
  catches_labels s.no_catches rest = rest
  catches_labels (s.more_catches c all) rest = catch_labels c (catches_labels all rest)

  pub catch_labels : s.Catch → Forest → Forest
  catch_labels (s.CatchOf p b) rest = node is.Catch (param_labels p (block_labels b none)) rest

-- a body that begins with a call of a constructor (JLS 8.8.7.1)
abbrev pub calls_first : s.Block → Bool
calls_first (s.BlockOf (s.more_stmts (s.CtorCall which args) all)) = true
calls_first _ = false
