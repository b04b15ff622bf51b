-- The labels of names, types and expressions stand for their nodes.
use Rattle.std.proofs.Common.{refl}
use Rattle.std.specs.Prelude.{Some, None}
use Rattle.jr_tree.specs.declared.tree.Name.{Name}
use Rattle.jr_tree.specs.declared.tree.Base.{Base}
use Rattle.jr_tree.specs.declared.tree.Base.TheVariants as base
use Rattle.jr_tree.specs.declared.tree.TypeUse.{TypeUse}
use Rattle.jr_tree.specs.Shape.{IsName, IsBase, IsTypeUse, IsShapedExpr, AreShapedExprs, IsShapedList, IsShapedInit, AreShapedInits}
use Rattle.jr_tree.specs.Nodes as n
use Rattle.jr_tree.specs.Mirror.Exprs as x
use Rattle.jr_tree.specs.declared.label.NameKind.TheVariants as kind
use Rattle.jr_tree.specs.declared.label.NamePlace.TheVariants as place
use Rattle.jr_tree.specs.Forest.{Forest, none}
use Rattle.jr_tree.specs.Exprs.{type_name, base_labels, type_labels, expr_labels, exprs_labels, list_labels, init_labels, inits_labels}
use Rattle.jr_node_rows.proofs.Counting.{Counts, nothing, join, row, row_two, name_counts}

pub type_name_counts : (name : Name) (rest : Forest) → IsName name → Counts (type_name name rest) (n.name_nodes name) rest
type_name_counts name rest h = name_counts kind.Type place.Other name rest (n.name_nodes name) refl h

base_counts : (b : Base) (rest : Forest) → IsBase b → Counts (base_labels b rest) (n.base_nodes b) rest
base_counts (base.Primitive p) rest h = nothing rest
base_counts (base.Named name) rest h = type_name_counts name rest h

pub type_counts : (t : TypeUse) (rest : Forest) → IsTypeUse t → Counts (type_labels t rest) (n.type_nodes t) rest
type_counts t rest h = row _ _ _ _ _ _ refl (base_counts t.base none h)

mutual
  pub expr_counts : (e : x.Expr) (rest : Forest) → IsShapedExpr e → Counts (expr_labels e rest) (n.expr_nodes e) rest
  expr_counts (x.Assign target op value) rest h = row _ _ _ _ _ _ refl (join _ _ _ _ _ (expr_counts target (expr_labels value none) h.2) (expr_counts value none h.4))
  expr_counts (x.Cond c a b) rest h =
      row _ _ _ _ _ _ refl (join _ _ _ _ _ (join _ _ _ _ _ (expr_counts c (expr_labels a (expr_labels b none)) h.1) (expr_counts a (expr_labels b none) h.3)) (expr_counts b none h.5))
  expr_counts (x.Binary left op right) rest h = row _ _ _ _ _ _ refl (join _ _ _ _ _ (expr_counts left (expr_labels right none) h.2) (expr_counts right none h.4))
  expr_counts (x.IsA value ty) rest h = row _ _ _ _ _ _ refl (join _ _ _ _ _ (expr_counts value (type_labels ty none) h.1) (type_counts ty none h.2))
  expr_counts (x.Unary op value) rest h = row _ _ _ _ _ _ refl (expr_counts value none h.3)
  expr_counts (x.Cast ty value) rest h = row _ _ _ _ _ _ refl (join _ _ _ _ _ (type_counts ty (expr_labels value none) h.0) (expr_counts value none h.3))
  expr_counts (x.PreStep op value) rest h = row _ _ _ _ _ _ refl (expr_counts value none h.2)
  expr_counts (x.PostStep value op) rest h = row _ _ _ _ _ _ refl (expr_counts value none h.2)
  expr_counts (x.Lit token) rest h = row _ _ _ _ _ _ refl (nothing none)
  expr_counts (x.This None) rest h = row _ _ _ _ _ _ refl (nothing none)
  expr_counts (x.This (Some class)) rest h = row _ _ _ _ _ _ refl (type_name_counts class none h)
  expr_counts (x.Paren inner) rest h = row _ _ _ _ _ _ refl (expr_counts inner none h.1)
  expr_counts (x.NameExpr name) rest h = name_counts kind.Variable place.Expression name rest (n.expr_nodes (x.NameExpr name)) refl h
  expr_counts (x.Select object name) rest h = row _ _ _ _ _ _ refl (expr_counts object none h.1)
  expr_counts (x.SuperSelect name) rest h = row _ _ _ _ _ _ refl (nothing none)
  expr_counts (x.Index array at) rest h = row _ _ _ _ _ _ refl (join _ _ _ _ _ (expr_counts array (expr_labels at none) h.1) (expr_counts at none h.3))
  expr_counts (x.Call x.no_receiver name args) rest h = row _ _ _ _ _ _ refl (exprs_counts args none h.1)
  expr_counts (x.Call (x.a_receiver (x.Of object)) name args) rest h =
      row_two _ _ _ _ _ _ _ refl (join _ _ _ _ _ (expr_counts object (exprs_labels args none) h.0.1) (exprs_counts args none h.1))
  expr_counts (x.Call (x.a_receiver (x.OfName before)) name args) rest h =
      row _ _ _ _ _ _ refl (join _ _ _ _ _ (name_counts kind.Ambiguous place.Receiver before (exprs_labels args none) (n.receiver_nodes (x.OfName before)) refl h.0) (exprs_counts args none h.1))
  expr_counts (x.Call (x.a_receiver x.Super) name args) rest h = row_two _ _ _ _ _ _ _ refl (exprs_counts args none h.1)
  expr_counts (x.New class args) rest h = row _ _ _ _ _ _ refl (join _ _ _ _ _ (type_name_counts class (exprs_labels args none) h.0) (exprs_counts args none h.1))
  expr_counts (x.NewArray base lengths extra x.no_list) rest h =
      row _ _ _ _ _ _ refl (join _ _ _ _ _ (join _ _ _ _ _ (base_counts base (exprs_labels lengths none) h.0) (exprs_counts lengths none h.1)) (nothing none))
  expr_counts (x.NewArray base lengths extra (x.a_list list)) rest h =
      row _ _ _ _ _ _ refl (join _ _ _ _ _ (join _ _ _ _ _ (base_counts base (exprs_labels lengths (list_labels list none)) h.0)
      (exprs_counts lengths (list_labels list none) h.1)) (list_counts list none h.3))

  pub exprs_counts : (es : x.Exprs) (rest : Forest) → AreShapedExprs es → Counts (exprs_labels es rest) (n.exprs_nodes es) rest
  exprs_counts x.no_exprs rest h = nothing rest
  exprs_counts (x.more_exprs e all) rest h = join _ _ _ _ _ (expr_counts e (exprs_labels all rest) h.1) (exprs_counts all rest h.2)

  pub list_counts : (l : x.InitList) (rest : Forest) → IsShapedList l → Counts (list_labels l rest) (n.list_nodes l) rest
  list_counts (x.ListOf all is_open_ended) rest h = row _ _ _ _ _ _ refl (inits_counts all none h)

  pub init_counts : (i : x.Init) (rest : Forest) → IsShapedInit i → Counts (init_labels i rest) (n.init_nodes i) rest
  init_counts (x.Value value) rest h = row _ _ _ _ _ _ refl (expr_counts value none h.1)
  init_counts (x.Listed list) rest h = list_counts list rest h

  pub inits_counts : (all : x.Inits) (rest : Forest) → AreShapedInits all → Counts (inits_labels all rest) (n.inits_nodes all) rest
  inits_counts x.no_inits rest h = nothing rest
  inits_counts (x.more_inits i all) rest h = join _ _ _ _ _ (init_counts i (inits_labels all rest) h.0) (inits_counts all rest h.1)
