-- The children of each node, the nodes of its subtree, and where that subtree stands in a list of nodes.
use Rattle.std.specs.Prelude.{◌≡◌, ℕ, List, [], ◌∷◌, ◌++◌, length, map}
use Rattle.std.specs.Option.{option_to_list}
use Rattle.jr_tree.specs.declared.tree.Name.{Name}
use Rattle.jr_tree.specs.declared.tree.Base.{Base}
use Rattle.jr_tree.specs.declared.tree.Base.TheVariants as base
use Rattle.jr_tree.specs.declared.tree.TypeUse.{TypeUse}
use Rattle.jr_tree.specs.declared.tree.ResultType.{ResultType}
use Rattle.jr_tree.specs.declared.tree.ResultType.TheVariants as outcome
use Rattle.jr_tree.specs.declared.tree.Import.{Import}
use Rattle.jr_tree.specs.declared.tree.Import.TheVariants as import
use Rattle.jr_tree.specs.Mirror.Exprs as x
use Rattle.jr_tree.specs.Mirror.Stmts as s
use Rattle.jr_tree.specs.Mirror.Decls as d
use Rattle.jr_tree.specs.Nodes as n

-- ---- children that are names and types

-- an element type that is a name (JLS 4.3)
abbrev pub base_children : Base → n.Nodes
base_children (base.Primitive p) = []
base_children (base.Named name) = n.OfName name ∷ []

-- the type of a method that returns a value (JLS 8.4)
abbrev pub result_children : ResultType → n.Nodes
result_children outcome.Void = []
result_children (outcome.Of ty) = n.OfType ty ∷ []

abbrev pub import_children : Import → n.Nodes
import_children (import.Single name) = n.OfName name ∷ []
import_children (import.OnDemand name) = n.OfName name ∷ []
import_children (import.StaticSingle name member) = n.OfName name ∷ []

abbrev pub names : List Name → n.Nodes
names all = map n.OfName all

-- ---- children of expressions (JLS 15)

abbrev pub any_receiver : x.AnyReceiver → n.Nodes
any_receiver x.no_receiver = []
any_receiver (x.a_receiver r) = n.OfReceiver r ∷ []

abbrev pub any_list : x.AnyList → n.Nodes
any_list x.no_list = []
any_list (x.a_list l) = n.OfList l ∷ []

abbrev pub exprs : x.Exprs → n.Nodes
exprs x.no_exprs = []
exprs (x.more_exprs e all) = n.OfExpr e ∷ exprs all

-- an initializer in braces is the one node of its list (JLS 10.6)
abbrev pub init : x.Init → n.Node
init (x.Value value) = n.OfInit (x.Value value)
init (x.Listed l) = n.OfList l

abbrev pub inits : x.Inits → n.Nodes
inits x.no_inits = []
inits (x.more_inits i all) = init i ∷ inits all

abbrev pub expr_children : x.Expr → n.Nodes
expr_children (x.Assign target op value) = n.OfExpr target ∷ n.OfExpr value ∷ []
expr_children (x.Cond c a b) = n.OfExpr c ∷ n.OfExpr a ∷ n.OfExpr b ∷ []
expr_children (x.Binary left op right) = n.OfExpr left ∷ n.OfExpr right ∷ []
expr_children (x.IsA value ty) = n.OfExpr value ∷ n.OfType ty ∷ []
expr_children (x.Unary op value) = n.OfExpr value ∷ []
expr_children (x.Cast ty value) = n.OfType ty ∷ n.OfExpr value ∷ []
expr_children (x.PreStep op value) = n.OfExpr value ∷ []
expr_children (x.PostStep value op) = n.OfExpr value ∷ []
expr_children (x.Lit token) = []
expr_children (x.This class) = names (option_to_list class)
expr_children (x.Paren inner) = n.OfExpr inner ∷ []
expr_children (x.NameExpr name) = n.OfName name ∷ []
expr_children (x.Select object name) = n.OfExpr object ∷ []
expr_children (x.SuperSelect name) = []
expr_children (x.Index array at) = n.OfExpr array ∷ n.OfExpr at ∷ []
expr_children (x.Call object name args) = any_receiver object ++ exprs args
expr_children (x.New class args) = n.OfName class ∷ exprs args
expr_children (x.NewArray base dims more list) = base_children base ++ exprs dims ++ any_list list

abbrev pub receiver_children : x.Receiver → n.Nodes
receiver_children (x.Of object) = n.OfExpr object ∷ []
receiver_children (x.OfName name) = n.OfName name ∷ []
receiver_children x.Super = []

abbrev pub list_children : x.InitList → n.Nodes
list_children (x.ListOf all is_open_ended) = inits all

abbrev pub init_children : x.Init → n.Nodes
init_children (x.Value value) = n.OfExpr value ∷ []
init_children (x.Listed l) = n.OfList l ∷ []

-- ---- children of statements (JLS 14)

abbrev pub declarator_children : s.Declarator → n.Nodes
declarator_children (s.DeclaratorOf name dims value) = map init (option_to_list value)

abbrev pub variables : TypeUse → List s.Declarator → n.Nodes
variables ty ds = n.OfType ty ∷ map n.OfDeclarator ds

abbrev pub for_init_children : s.ForInit → n.Nodes
for_init_children (s.Locals is_final ty ds) = variables ty ds
for_init_children (s.Exprs es) = exprs es

-- the values of the labels that are no `default` (JLS 14.11)
abbrev pub labels : List s.SwitchLabel → n.Nodes
labels [] = []
labels (s.Case value ∷ all) = n.OfExpr value ∷ labels all
labels (s.Default ∷ all) = labels all

abbrev pub any_stmt : s.AnyStmt → n.Nodes
any_stmt s.no_stmt = []
any_stmt (s.a_stmt a) = n.OfStmt a ∷ []

abbrev pub any_block : s.AnyBlock → n.Nodes
any_block s.no_block = []
any_block (s.a_block b) = n.OfBlock b ∷ []

abbrev pub stmts : s.Stmts → n.Nodes
stmts s.no_stmts = []
stmts (s.more_stmts a all) = n.OfStmt a ∷ stmts all

abbrev pub groups : s.Groups → n.Nodes
groups s.no_groups = []
groups (s.more_groups g all) = n.OfGroup g ∷ groups all

abbrev pub catches : s.Catches → n.Nodes
catches s.no_catches = []
catches (s.more_catches c all) = n.OfCatch c ∷ catches all

abbrev pub stmt_children : s.Stmt → n.Nodes
stmt_children (s.Nest b) = n.OfBlock b ∷ []
stmt_children (s.Local is_final ty ds) = variables ty ds
stmt_children s.Skip = []
stmt_children (s.Do body c) = n.OfStmt body ∷ n.OfExpr c ∷ []
stmt_children (s.While c body) = n.OfExpr c ∷ n.OfStmt body ∷ []
stmt_children (s.If c a b) = n.OfExpr c ∷ n.OfStmt a ∷ any_stmt b
stmt_children (s.Eval value) = n.OfExpr value ∷ []
stmt_children (s.For first c update body) = map n.OfForInit (option_to_list first) ++ map n.OfExpr (option_to_list c) ++ exprs update ++ n.OfStmt body ∷ []
stmt_children (s.Switch value gs) = n.OfExpr value ∷ groups gs
stmt_children (s.Labeled label body) = n.OfStmt body ∷ []
stmt_children (s.Break label) = []
stmt_children (s.Continue label) = []
stmt_children (s.Return value) = map n.OfExpr (option_to_list value)
stmt_children (s.Throw value) = n.OfExpr value ∷ []
stmt_children (s.Try body cs last) = n.OfBlock body ∷ (catches cs ++ any_block last)
stmt_children (s.CtorCall which args) = exprs args

abbrev pub block_children : s.Block → n.Nodes
block_children (s.BlockOf all) = stmts all

abbrev pub catch_children : s.Catch → n.Nodes
catch_children (s.CatchOf param body) = n.OfParam param ∷ n.OfBlock body ∷ []

abbrev pub group_children : s.Group → n.Nodes
group_children (s.GroupOf ls all) = labels ls ++ stmts all

-- ---- children of declarations (JLS 7, 8, 9)

abbrev pub members : d.Members → n.Nodes
members d.no_members = []
members (d.more_members m all) = n.OfMember m ∷ members all

abbrev pub decl_children : d.TypeDecl → n.Nodes
decl_children (d.Class mods name parent faces body) = names (option_to_list parent) ++ names faces ++ members body
decl_children (d.Interface mods name faces body) = names faces ++ members body
decl_children d.Empty = []

abbrev pub member_children : d.Member → n.Nodes
member_children (d.Field mods ty ds) = variables ty ds
member_children (d.Method mods gives name params thrown body) = result_children gives ++ map n.OfParam params ++ names thrown ++ map n.OfBlock (option_to_list body)
member_children (d.Constructor mods name params thrown body) = map n.OfParam params ++ names thrown ++ n.OfBlock body ∷ []
member_children (d.Init is_static body) = n.OfBlock body ∷ []
member_children (d.Nested decl) = n.OfDecl decl ∷ []

abbrev pub unit_children : d.CompilationUnit → n.Nodes
unit_children (d.UnitOf package_decl imports types) = map n.OfPackage (option_to_list package_decl) ++ map n.OfImport imports ++ map n.OfDecl types

-- ---- children, subtrees and numbers of all nodes

-- the children of a node, in order
abbrev pub children : n.Node → n.Nodes
children (n.OfUnit u) = unit_children u
children (n.OfPackage p) = n.OfName p.name ∷ []
children (n.OfImport i) = import_children i
children (n.OfName name) = []
children (n.OfType t) = base_children t.base
children (n.OfParam p) = n.OfType p.ty ∷ []
children (n.OfDeclarator v) = declarator_children v
children (n.OfInit i) = init_children i
children (n.OfList l) = list_children l
children (n.OfExpr e) = expr_children e
children (n.OfReceiver r) = receiver_children r
children (n.OfForInit f) = for_init_children f
children (n.OfStmt a) = stmt_children a
children (n.OfBlock b) = block_children b
children (n.OfGroup g) = group_children g
children (n.OfCatch c) = catch_children c
children (n.OfMember m) = member_children m
children (n.OfDecl t) = decl_children t

-- an initializer that is a list is no node beside that list; the clause for it serves no tree
abbrev pub init_subtree : x.Init → n.Nodes
init_subtree (x.Value value) = n.init_nodes (x.Value value)
init_subtree (x.Listed l) = n.OfInit (x.Listed l) ∷ n.list_nodes l

-- the nodes of a subtree in preorder
abbrev pub subtree : n.Node → n.Nodes
subtree (n.OfUnit u) = n.unit_nodes u
subtree (n.OfPackage p) = n.package_nodes p
subtree (n.OfImport i) = n.import_nodes i
subtree (n.OfName name) = n.name_nodes name
subtree (n.OfType t) = n.type_nodes t
subtree (n.OfParam p) = n.param_nodes p
subtree (n.OfDeclarator v) = n.declarator_nodes v
subtree (n.OfInit i) = init_subtree i
subtree (n.OfList l) = n.list_nodes l
subtree (n.OfExpr e) = n.expr_nodes e
subtree (n.OfReceiver r) = n.receiver_nodes r
subtree (n.OfForInit f) = n.for_init_nodes f
subtree (n.OfStmt a) = n.stmt_nodes a
subtree (n.OfBlock b) = n.block_nodes b
subtree (n.OfGroup g) = n.group_nodes g
subtree (n.OfCatch c) = n.catch_nodes c
subtree (n.OfMember m) = n.member_nodes m
subtree (n.OfDecl t) = n.decl_nodes t

-- how many nodes a subtree has
abbrev pub size : n.Node → ℕ
size node = length (subtree node)

-- in a list of nodes, the subtree of this node begins at this number
pub record StandsAt (all : n.Nodes) (number : ℕ) (node : n.Node) : Type 0 where
  pub before : n.Nodes
  pub after : n.Nodes
  pub all_is : all ≡ before ++ subtree node ++ after
  pub number_is : length before ≡ number
