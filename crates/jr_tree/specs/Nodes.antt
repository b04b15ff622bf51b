-- The nodes of a tree in preorder: every name, type, parameter, declarator, initializer, expression, receiver, statement, block, group, catch, member, declaration and import is one. A list in braces is one node wherever it stands.
use Rattle.std.specs.Prelude.{ℕ, List, [], ◌∷◌, ◌++◌, length, Option}
use Rattle.std.specs.Option.{option_map_or}
use Rattle.jr_tree.specs.declared.tree.Name.{Name}
use Rattle.jr_tree.specs.declared.tree.Base.{Base}
use Rattle.jr_tree.specs.declared.tree.Base.TheVariants as base
use Rattle.jr_tree.specs.declared.tree.TypeUse.{TypeUse}
use Rattle.jr_tree.specs.declared.tree.Param.{Param}
use Rattle.jr_tree.specs.declared.tree.ResultType.{ResultType}
use Rattle.jr_tree.specs.declared.tree.ResultType.TheVariants as outcome
use Rattle.jr_tree.specs.declared.tree.PackageDecl.{PackageDecl}
use Rattle.jr_tree.specs.declared.tree.Import.{Import}
use Rattle.jr_tree.specs.declared.tree.Import.TheVariants as import
use Rattle.jr_tree.specs.declared.tree.Unit as declared_unit
use Rattle.jr_tree.specs.Mirror.Exprs as x
use Rattle.jr_tree.specs.Mirror.Stmts as s
use Rattle.jr_tree.specs.Mirror.Decls as d

pub data Node : Type 0 where
  OfUnit : d.CompilationUnit → Node
  OfPackage : PackageDecl → Node
  OfImport : Import → Node
  OfName : Name → Node
  OfType : TypeUse → Node
  OfParam : Param → Node
  OfDeclarator : s.Declarator → Node
  OfInit : x.Init → Node
  OfList : x.InitList → Node
  OfExpr : x.Expr → Node
  OfReceiver : x.Receiver → Node
  OfForInit : s.ForInit → Node
  OfStmt : s.Stmt → Node
  OfBlock : s.Block → Node
  OfGroup : s.Group → Node
  OfCatch : s.Catch → Node
  OfMember : d.Member → Node
  OfDecl : d.TypeDecl → Node

abbrev pub Nodes : Type 0
Nodes = List Node

abbrev pub if_some : {A : Type 0} → (A → Nodes) → Option A → Nodes
if_some f o = option_map_or f o []

abbrev pub each : {A : Type 0} → (A → Nodes) → List A → Nodes
each f [] = []
each f (a ∷ all) = f a ++ each f all

-- ---- names and types

abbrev pub name_nodes : Name → Nodes
name_nodes n = OfName n ∷ []

abbrev pub base_nodes : Base → Nodes
base_nodes (base.Primitive p) = []
base_nodes (base.Named n) = name_nodes n

abbrev pub type_nodes : TypeUse → Nodes
type_nodes t = OfType t ∷ base_nodes t.base

abbrev pub param_nodes : Param → Nodes
param_nodes p = OfParam p ∷ type_nodes p.ty

abbrev pub result_nodes : ResultType → Nodes
result_nodes outcome.Void = []
result_nodes (outcome.Of ty) = type_nodes ty

-- ---- expressions

abbrev mutual
  pub expr_nodes : x.Expr → Nodes
  expr_nodes (x.Assign target op value) = OfExpr (x.Assign target op value) ∷ (expr_nodes target ++ expr_nodes value)
  expr_nodes (x.Cond c a b) = OfExpr (x.Cond c a b) ∷ (expr_nodes c ++ expr_nodes a ++ expr_nodes b)
  expr_nodes (x.Binary left op right) = OfExpr (x.Binary left op right) ∷ (expr_nodes left ++ expr_nodes right)
  expr_nodes (x.IsA value ty) = OfExpr (x.IsA value ty) ∷ (expr_nodes value ++ type_nodes ty)
  expr_nodes (x.Unary op value) = OfExpr (x.Unary op value) ∷ expr_nodes value
  expr_nodes (x.Cast ty value) = OfExpr (x.Cast ty value) ∷ (type_nodes ty ++ expr_nodes value)
  expr_nodes (x.PreStep op value) = OfExpr (x.PreStep op value) ∷ expr_nodes value
  expr_nodes (x.PostStep value op) = OfExpr (x.PostStep value op) ∷ expr_nodes value
  expr_nodes (x.Lit token) = OfExpr (x.Lit token) ∷ []
  expr_nodes (x.This class) = OfExpr (x.This class) ∷ if_some name_nodes class
  expr_nodes (x.Paren inner) = OfExpr (x.Paren inner) ∷ expr_nodes inner
  expr_nodes (x.NameExpr name) = OfExpr (x.NameExpr name) ∷ name_nodes name
  expr_nodes (x.Select object name) = OfExpr (x.Select object name) ∷ expr_nodes object
  expr_nodes (x.SuperSelect name) = OfExpr (x.SuperSelect name) ∷ []
  expr_nodes (x.Index array at) = OfExpr (x.Index array at) ∷ (expr_nodes array ++ expr_nodes at)
  expr_nodes (x.Call object name args) = OfExpr (x.Call object name args) ∷ (any_receiver_nodes object ++ exprs_nodes args)
  expr_nodes (x.New class args) = OfExpr (x.New class args) ∷ (name_nodes class ++ exprs_nodes args)
  expr_nodes (x.NewArray base dims more list) = OfExpr (x.NewArray base dims more list) ∷ (base_nodes base ++ exprs_nodes dims ++ any_list_nodes list)

  pub any_receiver_nodes : x.AnyReceiver → Nodes
  any_receiver_nodes x.no_receiver = []
  any_receiver_nodes (x.a_receiver r) = receiver_nodes r

  pub receiver_nodes : x.Receiver → Nodes
  receiver_nodes (x.Of object) = OfReceiver (x.Of object) ∷ expr_nodes object
  receiver_nodes (x.OfName name) = OfReceiver (x.OfName name) ∷ name_nodes name
  receiver_nodes x.Super = OfReceiver x.Super ∷ []

  pub exprs_nodes : x.Exprs → Nodes
  exprs_nodes x.no_exprs = []
  exprs_nodes (x.more_exprs e all) = expr_nodes e ++ exprs_nodes all

  pub any_list_nodes : x.AnyList → Nodes
  any_list_nodes x.no_list = []
  any_list_nodes (x.a_list l) = list_nodes l

  pub list_nodes : x.InitList → Nodes
  list_nodes (x.ListOf all is_open_ended) = OfList (x.ListOf all is_open_ended) ∷ inits_nodes all

  pub init_nodes : x.Init → Nodes
  init_nodes (x.Value value) = OfInit (x.Value value) ∷ expr_nodes value
  init_nodes (x.Listed l) = list_nodes l

  pub inits_nodes : x.Inits → Nodes
  inits_nodes x.no_inits = []
  inits_nodes (x.more_inits i all) = init_nodes i ++ inits_nodes all

-- ---- parts of statements

abbrev pub declarator_nodes : s.Declarator → Nodes
declarator_nodes (s.DeclaratorOf name dims init) = OfDeclarator (s.DeclaratorOf name dims init) ∷ if_some init_nodes init

abbrev pub variables_nodes : TypeUse → List s.Declarator → Nodes
variables_nodes ty ds = type_nodes ty ++ each declarator_nodes ds

abbrev pub for_init_nodes : s.ForInit → Nodes
for_init_nodes (s.Locals is_final ty ds) = OfForInit (s.Locals is_final ty ds) ∷ variables_nodes ty ds
for_init_nodes (s.Exprs es) = OfForInit (s.Exprs es) ∷ exprs_nodes es

abbrev pub label_nodes : s.SwitchLabel → Nodes
label_nodes (s.Case value) = expr_nodes value
label_nodes s.Default = []

-- ---- statements

abbrev mutual
  pub stmt_nodes : s.Stmt → Nodes
  stmt_nodes (s.Nest b) = OfStmt (s.Nest b) ∷ block_nodes b
  stmt_nodes (s.Local is_final ty ds) = OfStmt (s.Local is_final ty ds) ∷ variables_nodes ty ds
  stmt_nodes s.Skip = OfStmt s.Skip ∷ []
  stmt_nodes (s.Do body c) = OfStmt (s.Do body c) ∷ (stmt_nodes body ++ expr_nodes c)
  stmt_nodes (s.While c body) = OfStmt (s.While c body) ∷ (expr_nodes c ++ stmt_nodes body)
  stmt_nodes (s.If c a b) = OfStmt (s.If c a b) ∷ (expr_nodes c ++ stmt_nodes a ++ any_stmt_nodes b)
  stmt_nodes (s.Eval value) = OfStmt (s.Eval value) ∷ expr_nodes value
  stmt_nodes (s.For first c update body) = OfStmt (s.For first c update body) ∷ (if_some for_init_nodes first ++ if_some expr_nodes c ++ exprs_nodes update ++ stmt_nodes body)
  stmt_nodes (s.Switch value gs) = OfStmt (s.Switch value gs) ∷ (expr_nodes value ++ groups_nodes gs)
  stmt_nodes (s.Labeled label body) = OfStmt (s.Labeled label body) ∷ stmt_nodes body
  stmt_nodes (s.Break label) = OfStmt (s.Break label) ∷ []
  stmt_nodes (s.Continue label) = OfStmt (s.Continue label) ∷ []
  stmt_nodes (s.Return value) = OfStmt (s.Return value) ∷ if_some expr_nodes value
  stmt_nodes (s.Throw value) = OfStmt (s.Throw value) ∷ expr_nodes value
  stmt_nodes (s.Try body cs last) = OfStmt (s.Try body cs last) ∷ (block_nodes body ++ catches_nodes cs ++ any_block_nodes last)
  stmt_nodes (s.CtorCall which args) = OfStmt (s.CtorCall which args) ∷ exprs_nodes args

  pub any_stmt_nodes : s.AnyStmt → Nodes
  any_stmt_nodes s.no_stmt = []
  any_stmt_nodes (s.a_stmt b) = stmt_nodes b

  pub any_block_nodes : s.AnyBlock → Nodes
  any_block_nodes s.no_block = []
  any_block_nodes (s.a_block b) = block_nodes b

  pub block_nodes : s.Block → Nodes
  block_nodes (s.BlockOf all) = OfBlock (s.BlockOf all) ∷ stmts_nodes all

  pub catch_nodes : s.Catch → Nodes
  catch_nodes (s.CatchOf p b) = OfCatch (s.CatchOf p b) ∷ (param_nodes p ++ block_nodes b)

  pub group_nodes : s.Group → Nodes
  group_nodes (s.GroupOf labels all) = OfGroup (s.GroupOf labels all) ∷ (each label_nodes labels ++ stmts_nodes all)

  pub stmts_nodes : s.Stmts → Nodes
  stmts_nodes s.no_stmts = []
  stmts_nodes (s.more_stmts a all) = stmt_nodes a ++ stmts_nodes all

  pub groups_nodes : s.Groups → Nodes
  groups_nodes s.no_groups = []
  groups_nodes (s.more_groups g all) = group_nodes g ++ groups_nodes all

  pub catches_nodes : s.Catches → Nodes
  catches_nodes s.no_catches = []
  catches_nodes (s.more_catches c all) = catch_nodes c ++ catches_nodes all

-- ---- declarations

abbrev mutual
  pub decl_nodes : d.TypeDecl → Nodes
  decl_nodes (d.Class mods name parent faces body) = OfDecl (d.Class mods name parent faces body) ∷ (if_some name_nodes parent ++ each name_nodes faces ++ members_nodes body)
  decl_nodes (d.Interface mods name faces body) = OfDecl (d.Interface mods name faces body) ∷ (each name_nodes faces ++ members_nodes body)
  decl_nodes d.Empty = OfDecl d.Empty ∷ []

  pub member_nodes : d.Member → Nodes
  member_nodes (d.Field mods ty ds) = OfMember (d.Field mods ty ds) ∷ variables_nodes ty ds
  member_nodes (d.Method mods gives name params thrown body) =
      OfMember (d.Method mods gives name params thrown body) ∷ (result_nodes gives ++ each param_nodes params ++ each name_nodes thrown ++ if_some block_nodes body)
  member_nodes (d.Constructor mods name params thrown body) =
      OfMember (d.Constructor mods name params thrown body) ∷ (each param_nodes params ++ each name_nodes thrown ++ block_nodes body)
  member_nodes (d.Init is_static body) = OfMember (d.Init is_static body) ∷ block_nodes body
  member_nodes (d.Nested decl) = OfMember (d.Nested decl) ∷ decl_nodes decl

  pub members_nodes : d.Members → Nodes
  members_nodes d.no_members = []
  members_nodes (d.more_members m all) = member_nodes m ++ members_nodes all

-- ---- units

abbrev pub package_nodes : PackageDecl → Nodes
package_nodes p = OfPackage p ∷ name_nodes p.name

abbrev pub import_nodes : Import → Nodes
import_nodes (import.Single n) = OfImport (import.Single n) ∷ name_nodes n
import_nodes (import.OnDemand n) = OfImport (import.OnDemand n) ∷ name_nodes n
import_nodes (import.StaticSingle n member) = OfImport (import.StaticSingle n member) ∷ name_nodes n

abbrev pub unit_nodes : d.CompilationUnit → Nodes
unit_nodes (d.UnitOf package_decl imports types) =
    OfUnit (d.UnitOf package_decl imports types) ∷ (if_some package_nodes package_decl ++ each import_nodes imports ++ each decl_nodes types)

-- the nodes of a unit of the program, each at its number
abbrev pub nodes : declared_unit.Unit → Nodes
nodes u = unit_nodes (d.plain_unit u)
