-- Names, types and expressions declare no locals.
use Rattle.std.specs.Prelude.{true, Some, None}
use Rattle.jr_tree.specs.declared.tree.Name.{Name}
use Rattle.jr_tree.specs.declared.tree.Base.{Base}
use Rattle.jr_tree.specs.declared.tree.Base.TheVariants as base
use Rattle.jr_tree.specs.declared.tree.TypeUse.{TypeUse}
use Rattle.jr_tree.specs.Mirror.Exprs as x
use Rattle.jr_tree.specs.declared.label.Label.{Label}
use Rattle.jr_tree.specs.declared.label.Label.TheVariants as is
use Rattle.jr_tree.specs.declared.label.NameKind.TheVariants as kind
use Rattle.jr_tree.specs.declared.label.NamePlace.TheVariants as place
use Rattle.jr_tree.specs.declared.label.ReceiverKind.TheVariants as on
use Rattle.jr_tree.specs.Forest.{Forest, none}
use Rattle.jr_tree.specs.Exprs.{type_name, primitive_of, base_labels, type_labels, count, expr_labels, exprs_labels, list_labels, init_labels, inits_labels}
use Rattle.jr_local_rows.proofs.Standing.{Placed, name_placed}

pub type_name_placed : (n : Name) (over : Label) (rest : Forest) → Placed over rest → Placed over (type_name n rest)
type_name_placed n over rest r = name_placed kind.Type place.Other n over rest r

base_placed : (b : Base) (over : Label) (rest : Forest) → Placed over rest → Placed over (base_labels b rest)
base_placed (base.Primitive p) over rest r = r
base_placed (base.Named n) over rest r = type_name_placed n over rest r

pub type_placed : (t : TypeUse) (over : Label) (rest : Forest) → Placed over rest → Placed over (type_labels t rest)
type_placed t over rest r = (tt, tt, base_placed t.base (is.TypeUse (primitive_of t.base) t.dims) none tt, r)

mutual
  pub expr_placed : (e : x.Expr) (over : Label) (rest : Forest) → Placed over rest → Placed over (expr_labels e rest)
  expr_placed (x.Assign target op value) over rest r = (tt, tt, expr_placed target (is.Assign op) (expr_labels value none) (expr_placed value (is.Assign op) none tt), r)
  expr_placed (x.Cond c a b) over rest r =
      (tt, tt, expr_placed c is.Conditional (expr_labels a (expr_labels b none)) (expr_placed a is.Conditional (expr_labels b none) (expr_placed b is.Conditional none tt)), r)
  expr_placed (x.Binary left op right) over rest r = (tt, tt, expr_placed left (is.Binary op) (expr_labels right none) (expr_placed right (is.Binary op) none tt), r)
  expr_placed (x.IsA value ty) over rest r = (tt, tt, expr_placed value is.IsA (type_labels ty none) (type_placed ty is.IsA none tt), r)
  expr_placed (x.Unary op value) over rest r = (tt, tt, expr_placed value (is.Unary op) none tt, r)
  expr_placed (x.Cast ty value) over rest r = (tt, tt, type_placed ty is.Cast (expr_labels value none) (expr_placed value is.Cast none tt), r)
  expr_placed (x.PreStep op value) over rest r = (tt, tt, expr_placed value (is.PreStep op) none tt, r)
  expr_placed (x.PostStep value op) over rest r = (tt, tt, expr_placed value (is.PostStep op) none tt, r)
  expr_placed (x.Lit token) over rest r = (tt, tt, tt, r)
  expr_placed (x.This None) over rest r = (tt, tt, tt, r)
  expr_placed (x.This (Some class)) over rest r = (tt, tt, type_name_placed class (is.This true) none tt, r)
  expr_placed (x.Paren inner) over rest r = (tt, tt, expr_placed inner is.Paren none tt, r)
  expr_placed (x.NameExpr name) over rest r = name_placed kind.Variable place.Expression name over rest r
  expr_placed (x.Select object name) over rest r = (tt, tt, expr_placed object is.Select none tt, r)
  expr_placed (x.SuperSelect name) over rest r = (tt, tt, tt, r)
  expr_placed (x.Index array at) over rest r = (tt, tt, expr_placed array is.Index (expr_labels at none) (expr_placed at is.Index none tt), r)
  expr_placed (x.Call x.no_receiver name args) over rest r = (tt, tt, exprs_placed args (is.Call on.Absent) none tt, r)
  expr_placed (x.Call (x.a_receiver (x.Of object)) name args) over rest r =
      (tt, tt, expr_placed object (is.Call on.Expression) (exprs_labels args none) (exprs_placed args (is.Call on.Expression) none tt), r)
  expr_placed (x.Call (x.a_receiver (x.OfName before)) name args) over rest r =
      (tt, tt, name_placed kind.Ambiguous place.Receiver before (is.Call on.Name) (exprs_labels args none) (exprs_placed args (is.Call on.Name) none tt), r)
  expr_placed (x.Call (x.a_receiver x.Super) name args) over rest r = (tt, tt, exprs_placed args (is.Call on.Super) none tt, r)
  expr_placed (x.New class args) over rest r = (tt, tt, type_name_placed class is.New (exprs_labels args none) (exprs_placed args is.New none tt), r)
  expr_placed (x.NewArray base lengths extra x.no_list) over rest r = let l = is.NewArray (primitive_of base) (count lengths) extra in
      (tt, tt, base_placed base l (exprs_labels lengths none) (exprs_placed lengths l none tt), r)
  expr_placed (x.NewArray base lengths extra (x.a_list list)) over rest r = let l = is.NewArray (primitive_of base) (count lengths) extra in
      (tt, tt, base_placed base l (exprs_labels lengths (list_labels list none)) (exprs_placed lengths l (list_labels list none) (list_placed list l none tt)), r)

  pub exprs_placed : (e : x.Exprs) (over : Label) (rest : Forest) → Placed over rest → Placed over (exprs_labels e rest)
  exprs_placed x.no_exprs over rest r = r
  exprs_placed (x.more_exprs e all) over rest r = expr_placed e over (exprs_labels all rest) (exprs_placed all over rest r)

  pub list_placed : (e : x.InitList) (over : Label) (rest : Forest) → Placed over rest → Placed over (list_labels e rest)
  list_placed (x.ListOf all is_open_ended) over rest r = (tt, tt, inits_placed all is.List none tt, r)

  pub init_placed : (e : x.Init) (over : Label) (rest : Forest) → Placed over rest → Placed over (init_labels e rest)
  init_placed (x.Value value) over rest r = (tt, tt, expr_placed value is.Value none tt, r)
  init_placed (x.Listed list) over rest r = list_placed list over rest r

  pub inits_placed : (e : x.Inits) (over : Label) (rest : Forest) → Placed over rest → Placed over (inits_labels e rest)
  inits_placed x.no_inits over rest r = r
  inits_placed (x.more_inits i all) over rest r = init_placed i over (inits_labels all rest) (inits_placed all over rest r)
