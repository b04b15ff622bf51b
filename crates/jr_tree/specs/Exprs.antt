-- The labels of names, types and expressions, each before the rest (JLS 6.5.1, 4, 15).
use Rattle.std.specs.Prelude.{ℕ, zero, suc, ◌+◌, Bool, true, false, List, [], ◌∷◌, Option, Some, None}
use Rattle.jr_base.specs.declared.text.Text.{Text}
use Rattle.jr_tree.specs.declared.tree.Name.{Name}
use Rattle.jr_tree.specs.declared.tree.Base.{Base}
use Rattle.jr_tree.specs.declared.tree.Base.TheVariants as base
use Rattle.jr_tree.specs.declared.tree.TypeUse.{TypeUse}
use Rattle.jr_tree.specs.declared.tree.Primitive.{Primitive}
use Rattle.jr_tree.specs.Mirror.Exprs as x
use Rattle.jr_tree.specs.declared.label.Label.TheVariants as is
use Rattle.jr_tree.specs.declared.label.NameKind.{NameKind}
use Rattle.jr_tree.specs.declared.label.NameKind.TheVariants as kind
use Rattle.jr_tree.specs.declared.label.NamePlace.{NamePlace}
use Rattle.jr_tree.specs.declared.label.NamePlace.TheVariants as place
use Rattle.jr_tree.specs.declared.label.ReceiverKind.TheVariants as on
use Rattle.jr_tree.specs.Forest.{Forest, none, more, node, leaf, if_some}

-- ---- names

-- what stands before the dot of a name of this kind (JLS 6.5.1)
abbrev pub left_kind : NameKind → NameKind
left_kind kind.Variable = kind.Ambiguous
left_kind kind.Ambiguous = kind.Ambiguous
left_kind kind.Type = kind.PackageOrType
left_kind kind.PackageOrType = kind.PackageOrType
left_kind kind.Package = kind.Package

-- the last identifier before the one before it, so the list is read from its end: left is the tree of what was read
abbrev pub dotted : NameKind → NamePlace → List Text → Bool → Forest → Forest → Forest
dotted meant at [] is_qualified left rest = rest
dotted meant at (part ∷ []) is_qualified left rest = more (is.Name meant at is_qualified) part left rest
dotted meant at (part ∷ (next ∷ parts)) is_qualified left rest =
    dotted meant at (next ∷ parts) true (more (is.Name (left_kind meant) place.Qualifier is_qualified) part left none) rest

abbrev pub name_labels : NameKind → NamePlace → Name → Forest → Forest
name_labels meant at name rest = dotted meant at name.parts false none rest

-- the name of a type
abbrev pub type_name : Name → Forest → Forest
type_name = name_labels kind.Type place.Other

-- ---- types

abbrev pub primitive_of : Base → Option Primitive
primitive_of (base.Primitive p) = Some p
primitive_of (base.Named name) = None

abbrev pub base_labels : Base → Forest → Forest
base_labels (base.Primitive p) rest = rest
base_labels (base.Named name) rest = type_name name rest

abbrev pub type_labels : TypeUse → Forest → Forest
type_labels ty rest = node (is.TypeUse (primitive_of ty.base) ty.dims) (base_labels ty.base none) rest

-- ---- expressions

abbrev pub count : x.Exprs → ℕ
count x.no_exprs = 0
count (x.more_exprs e all) = 1 + count all

abbrev mutual
  pub expr_labels : x.Expr → Forest → Forest
  expr_labels (x.Assign target op value) rest = node (is.Assign op) (expr_labels target (expr_labels value none)) rest
  expr_labels (x.Cond c a b) rest = node is.Conditional (expr_labels c (expr_labels a (expr_labels b none))) rest
  expr_labels (x.Binary left op right) rest = node (is.Binary op) (expr_labels left (expr_labels right none)) rest
  expr_labels (x.IsA value ty) rest = node is.IsA (expr_labels value (type_labels ty none)) rest
  expr_labels (x.Unary op value) rest = node (is.Unary op) (expr_labels value none) rest
  expr_labels (x.Cast ty value) rest = node is.Cast (type_labels ty (expr_labels value none)) rest
  expr_labels (x.PreStep op value) rest = node (is.PreStep op) (expr_labels value none) rest
  expr_labels (x.PostStep value op) rest = node (is.PostStep op) (expr_labels value none) rest
  expr_labels (x.Lit token) rest = leaf (is.Literal token) rest
  expr_labels (x.This None) rest = leaf (is.This false) rest
  expr_labels (x.This (Some class)) rest = node (is.This true) (type_name class none) rest
  expr_labels (x.Paren inner) rest = node is.Paren (expr_labels inner none) rest
  expr_labels (x.NameExpr name) rest = name_labels kind.Variable place.Expression name rest
  expr_labels (x.Select object name) rest = more is.Select name (expr_labels object none) rest
  expr_labels (x.SuperSelect name) rest = more is.SuperSelect name none rest
  expr_labels (x.Index array at) rest = node is.Index (expr_labels array (expr_labels at none)) rest
  expr_labels (x.Call x.no_receiver name args) rest = more (is.Call on.Absent) name (exprs_labels args none) rest
  expr_labels (x.Call (x.a_receiver (x.Of object)) name args) rest = more (is.Call on.Expression) name (expr_labels object (exprs_labels args none)) rest
  expr_labels (x.Call (x.a_receiver (x.OfName before)) name args) rest =
      more (is.Call on.Name) name (name_labels kind.Ambiguous place.Receiver before (exprs_labels args none)) rest
  expr_labels (x.Call (x.a_receiver x.Super) name args) rest = more (is.Call on.Super) name (exprs_labels args none) rest
  expr_labels (x.New class args) rest = node is.New (type_name class (exprs_labels args none)) rest
  expr_labels (x.NewArray base lengths extra x.no_list) rest =
      node (is.NewArray (primitive_of base) (count lengths) extra) (base_labels base (exprs_labels lengths none)) rest
  expr_labels (x.NewArray base lengths extra (x.a_list list)) rest =
      node (is.NewArray (primitive_of base) (count lengths) extra) (base_labels base (exprs_labels lengths (list_labels list none))) rest

  pub exprs_labels : x.Exprs → Forest → Forest
  exprs_labels x.no_exprs rest = rest
  exprs_labels (x.more_exprs e all) rest = expr_labels e (exprs_labels all rest)

  pub list_labels : x.InitList → Forest → Forest
  list_labels (x.ListOf all is_open_ended) rest = node is.List (inits_labels all none) rest

  pub init_labels : x.Init → Forest → Forest
  init_labels (x.Value value) rest = node is.Value (expr_labels value none) rest
  init_labels (x.Listed list) rest = list_labels list rest

  pub inits_labels : x.Inits → Forest → Forest
  inits_labels x.no_inits rest = rest
  inits_labels (x.more_inits i all) rest = init_labels i (inits_labels all rest)
