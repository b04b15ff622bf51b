-- Which trees the grammar has (JLS 18).
use Rattle.std.specs.Prelude.{ℕ, suc, ◌≤◌, ◌<◌, Bool, true, false, not, ◌&&◌, ◌||◌, nat_lt, IsTrue, IfSome, List, [], ◌∷◌, Option}
use Rattle.std.specs.List.{AllByRecursion}
use Rattle.jr_tree.specs.declared.tree.Name.{Name}
use Rattle.jr_tree.specs.declared.tree.Base.{Base}
use Rattle.jr_tree.specs.declared.tree.Base.TheVariants as base
use Rattle.jr_tree.specs.declared.tree.TypeUse.{TypeUse}
use Rattle.jr_tree.specs.declared.tree.Param.{Param}
use Rattle.jr_tree.specs.declared.tree.ResultType.{ResultType}
use Rattle.jr_tree.specs.declared.tree.ResultType.TheVariants as outcome
use Rattle.jr_tree.specs.declared.tree.PackageDecl.{PackageDecl}
use Rattle.jr_tree.specs.declared.tree.Import.{Import}
use Rattle.jr_tree.specs.declared.tree.Import.TheVariants as import
use Rattle.jr_tree.specs.declared.tree.Unit as declared_unit
use Rattle.jr_tree.specs.Levels.{binary_level, is_assignment, is_unary, is_sign, is_minus, is_step, is_literal, is_least_kind}
use Rattle.jr_tree.specs.Mirror.Exprs as x
use Rattle.jr_tree.specs.Mirror.Stmts as s
use Rattle.jr_tree.specs.Mirror.Decls as d

abbrev pub is_empty : {A : Type 0} → List A → Bool
is_empty [] = true
is_empty (a ∷ all) = false

-- ---- names and types: a name has a part (JLS 4, 6.2)

abbrev pub IsName : Name → Type 0
IsName n = IsTrue (not (is_empty n.parts))

abbrev pub IsBase : Base → Type 0
IsBase (base.Primitive p) = Unit {0}
IsBase (base.Named n) = IsName n

abbrev pub IsTypeUse : TypeUse → Type 0
IsTypeUse t = IsBase t.base

abbrev pub is_named : Base → Bool
is_named (base.Primitive p) = false
is_named (base.Named n) = true

-- ---- tests of an expression's outermost form (JLS 15)

-- how tightly it binds, from 0 for an assignment to 14
abbrev pub level : x.Expr → ℕ
level (x.Assign target op value) = 0
level (x.Cond c a b) = 1
level (x.Binary left op right) = binary_level op
level (x.IsA value ty) = 8
level (x.Unary op value) = 12
level (x.Cast ty value) = 12
level (x.PreStep op value) = 12
level (x.PostStep value op) = 13
level _ = 14

-- a number that stands only directly under a minus (JLS 3.10.1)
abbrev pub is_least : x.Expr → Bool
is_least (x.Lit token) = is_least_kind token
is_least _ = false

-- what an assignment can assign to (JLS 15.26)
abbrev pub is_target : x.Expr → Bool
is_target (x.NameExpr name) = true
is_target (x.Select object name) = true
is_target (x.SuperSelect name) = true
is_target (x.Index array at) = true
is_target _ = false

-- what can stand as a statement (JLS 14.8)
abbrev pub is_statement : x.Expr → Bool
is_statement (x.Assign target op value) = true
is_statement (x.PreStep op value) = true
is_statement (x.PostStep value op) = true
is_statement (x.Call object name args) = true
is_statement (x.New name args) = true
is_statement _ = false

-- what a cast to a name cannot take: after a name in parentheses it reads as a sum (JLS 15.16)
abbrev pub is_signed : x.Expr → Bool
is_signed (x.Unary op value) = is_sign op
is_signed (x.PreStep op value) = true
is_signed _ = false

abbrev pub is_name : x.Expr → Bool
is_name (x.NameExpr name) = true
is_name _ = false

abbrev pub is_new_array : x.Expr → Bool
is_new_array (x.NewArray base dims more list) = true
is_new_array _ = false

abbrev pub has_expr : x.Exprs → Bool
has_expr x.no_exprs = false
has_expr (x.more_exprs e all) = true

-- an array gets dimensions, or else brackets and a list (JLS 15.10)
abbrev pub array_fits : x.Exprs → ℕ → x.AnyList → Bool
array_fits dims more x.no_list = has_expr dims
array_fits dims more (x.a_list l) = not (has_expr dims) && nat_lt 0 more

-- an operand of a level or tighter, but for its parts
abbrev pub Fits : ℕ → x.Expr → Type 0
Fits least e = (least ≤ level e) × IsTrue (not (is_least e))

-- what stands before a dot: a pure name there is part of a longer name (JLS 6.5)
abbrev pub FitsBeforeDot : x.Expr → Type 0
FitsBeforeDot e = Fits 14 e × IsTrue (not (is_name e))

-- what stands before brackets (JLS 15.13)
abbrev pub FitsBeforeBracket : x.Expr → Type 0
FitsBeforeBracket e = Fits 14 e × IsTrue (not (is_new_array e))

-- ---- expressions (JLS 15)

abbrev mutual
  pub IsShapedExpr : x.Expr → Type 0
  IsShapedExpr (x.Assign target op value) = IsTrue (is_assignment op) × IsTrue (is_target target) × IsShapedExpr target × Fits 0 value × IsShapedExpr value
  IsShapedExpr (x.Cond c a b) = Fits 2 c × IsShapedExpr c × Fits 0 a × IsShapedExpr a × Fits 1 b × IsShapedExpr b
  IsShapedExpr (x.Binary left op right) = (0 < binary_level op) × Fits (binary_level op) left × IsShapedExpr left × Fits (suc (binary_level op)) right × IsShapedExpr right
  IsShapedExpr (x.IsA value ty) = Fits 8 value × IsShapedExpr value × IsTypeUse ty
  IsShapedExpr (x.Unary op value) = IsTrue (is_unary op) × (12 ≤ level value) × IsTrue (is_minus op || not (is_least value)) × IsShapedExpr value
  IsShapedExpr (x.Cast ty value) = IsTypeUse ty × Fits 12 value × IsTrue (not (is_named ty.base && is_signed value)) × IsShapedExpr value
  IsShapedExpr (x.PreStep op value) = IsTrue (is_step op) × Fits 12 value × IsShapedExpr value
  IsShapedExpr (x.PostStep value op) = IsTrue (is_step op) × Fits 13 value × IsShapedExpr value
  IsShapedExpr (x.Lit token) = IsTrue (is_literal token)
  IsShapedExpr (x.This class) = IfSome class IsName
  IsShapedExpr (x.Paren inner) = Fits 0 inner × IsShapedExpr inner
  IsShapedExpr (x.NameExpr name) = IsName name
  IsShapedExpr (x.Select object name) = FitsBeforeDot object × IsShapedExpr object
  IsShapedExpr (x.SuperSelect name) = Unit {0}
  IsShapedExpr (x.Index array at) = FitsBeforeBracket array × IsShapedExpr array × Fits 0 at × IsShapedExpr at
  IsShapedExpr (x.Call object name args) = IsShapedAnyReceiver object × AreShapedExprs args
  IsShapedExpr (x.New class args) = IsName class × AreShapedExprs args
  IsShapedExpr (x.NewArray base dims more list) = IsBase base × AreShapedExprs dims × IsTrue (array_fits dims more list) × IsShapedAnyList list

  pub IsShapedAnyReceiver : x.AnyReceiver → Type 0
  IsShapedAnyReceiver x.no_receiver = Unit {0}
  IsShapedAnyReceiver (x.a_receiver r) = IsShapedReceiver r

  pub IsShapedReceiver : x.Receiver → Type 0
  IsShapedReceiver (x.Of object) = FitsBeforeDot object × IsShapedExpr object
  IsShapedReceiver (x.OfName name) = IsName name
  IsShapedReceiver x.Super = Unit {0}

  pub AreShapedExprs : x.Exprs → Type 0
  AreShapedExprs x.no_exprs = Unit {0}
  AreShapedExprs (x.more_exprs e all) = Fits 0 e × IsShapedExpr e × AreShapedExprs all

  pub IsShapedAnyList : x.AnyList → Type 0
  IsShapedAnyList x.no_list = Unit {0}
  IsShapedAnyList (x.a_list l) = IsShapedList l

  pub IsShapedList : x.InitList → Type 0
  IsShapedList (x.ListOf all is_open_ended) = AreShapedInits all

  pub IsShapedInit : x.Init → Type 0
  IsShapedInit (x.Value value) = Fits 0 value × IsShapedExpr value
  IsShapedInit (x.Listed l) = IsShapedList l

  pub AreShapedInits : x.Inits → Type 0
  AreShapedInits x.no_inits = Unit {0}
  AreShapedInits (x.more_inits i all) = IsShapedInit i × AreShapedInits all

-- an expression at a place that takes any
abbrev pub IsWholeExpr : x.Expr → Type 0
IsWholeExpr e = Fits 0 e × IsShapedExpr e

-- an expression that stands as a statement (JLS 14.8)
abbrev pub IsStatementExpr : x.Expr → Type 0
IsStatementExpr e = IsTrue (is_statement e) × IsShapedExpr e

abbrev pub AreStatementExprs : x.Exprs → Type 0
AreStatementExprs x.no_exprs = Unit {0}
AreStatementExprs (x.more_exprs e all) = IsStatementExpr e × AreStatementExprs all

-- ---- parts of statements (JLS 8.3, 14.4, 14.11, 14.14.1)

abbrev pub IsShapedDeclarator : s.Declarator → Type 0
IsShapedDeclarator (s.DeclaratorOf name dims init) = IfSome init IsShapedInit

-- a declaration of variables declares one at least
abbrev pub AreShapedVariables : TypeUse → List s.Declarator → Type 0
AreShapedVariables ty ds = IsTypeUse ty × IsTrue (not (is_empty ds)) × AllByRecursion IsShapedDeclarator ds

abbrev pub IsShapedForInit : s.ForInit → Type 0
IsShapedForInit (s.Locals is_final ty ds) = AreShapedVariables ty ds
IsShapedForInit (s.Exprs es) = IsTrue (has_expr es) × AreStatementExprs es

abbrev pub IsShapedLabel : s.SwitchLabel → Type 0
IsShapedLabel (s.Case value) = IsWholeExpr value
IsShapedLabel s.Default = Unit {0}

abbrev pub IsShapedParam : Param → Type 0
IsShapedParam p = IsTypeUse p.ty

-- ---- tests of a statement's outermost form (JLS 14)

-- a declaration of locals stands directly in a block or a group (JLS 14.4)
abbrev pub is_local : s.Stmt → Bool
is_local (s.Local is_final ty ds) = true
is_local _ = false

-- an `else` after it would belong to an `if` in it (JLS 14.5)
abbrev pub takes_else : s.Stmt → Bool
takes_else (s.While c body) = takes_else body
takes_else (s.If c a s.no_stmt) = true
takes_else (s.If c a (s.a_stmt b)) = takes_else b
takes_else (s.For first c update body) = takes_else body
takes_else (s.Labeled label body) = takes_else body
takes_else _ = false

abbrev pub has_stmt : s.Stmts → Bool
has_stmt s.no_stmts = false
has_stmt (s.more_stmts a all) = true

abbrev pub has_group : s.Groups → Bool
has_group s.no_groups = false
has_group (s.more_groups g all) = true

abbrev pub has_catch : s.Catches → Bool
has_catch s.no_catches = false
has_catch (s.more_catches c all) = true

abbrev pub has_block : s.AnyBlock → Bool
has_block s.no_block = false
has_block (s.a_block b) = true

-- a group that is not the last has statements (JLS 14.11)
abbrev pub group_fits : s.Group → s.Groups → Bool
group_fits (s.GroupOf labels all) after = has_stmt all || not (has_group after)

-- ---- statements (JLS 14)

abbrev mutual
  -- a statement that calls no constructor
  pub IsShapedStmt : s.Stmt → Type 0
  IsShapedStmt (s.Nest b) = IsShapedBlock b
  IsShapedStmt (s.Local is_final ty ds) = AreShapedVariables ty ds
  IsShapedStmt s.Skip = Unit {0}
  IsShapedStmt (s.Do body c) = IsTrue (not (is_local body)) × IsShapedStmt body × IsWholeExpr c
  IsShapedStmt (s.While c body) = IsWholeExpr c × IsTrue (not (is_local body)) × IsShapedStmt body
  IsShapedStmt (s.If c a b) = IsWholeExpr c × IsTrue (not (is_local a)) × IsShapedStmt a × IsShapedElse (takes_else a) b
  IsShapedStmt (s.Eval value) = IsStatementExpr value
  IsShapedStmt (s.For first c update body) =
      IfSome first IsShapedForInit × IfSome c IsWholeExpr × AreStatementExprs update × IsTrue (not (is_local body)) × IsShapedStmt body
  IsShapedStmt (s.Switch value gs) = IsWholeExpr value × AreShapedGroups gs
  IsShapedStmt (s.Labeled label body) = IsTrue (not (is_local body)) × IsShapedStmt body
  IsShapedStmt (s.Break label) = Unit {0}
  IsShapedStmt (s.Continue label) = Unit {0}
  IsShapedStmt (s.Return value) = IfSome value IsWholeExpr
  IsShapedStmt (s.Throw value) = IsWholeExpr value
  IsShapedStmt (s.Try body cs last) = IsShapedBlock body × AreShapedCatches cs × IsShapedFinally last × IsTrue (has_catch cs || has_block last)
  IsShapedStmt (s.CtorCall which args) = ⊥

  -- what follows the first branch of an `if`, which takes an `else` itself or not
  pub IsShapedElse : Bool → s.AnyStmt → Type 0
  IsShapedElse takes s.no_stmt = Unit {0}
  IsShapedElse takes (s.a_stmt b) = IsTrue (not takes) × IsTrue (not (is_local b)) × IsShapedStmt b

  pub IsShapedFinally : s.AnyBlock → Type 0
  IsShapedFinally s.no_block = Unit {0}
  IsShapedFinally (s.a_block b) = IsShapedBlock b

  pub IsShapedBlock : s.Block → Type 0
  IsShapedBlock (s.BlockOf all) = AreShapedStmts all

  pub IsShapedCatch : s.Catch → Type 0
  IsShapedCatch (s.CatchOf p b) = IsShapedParam p × IsShapedBlock b

  pub IsShapedGroup : s.Group → Type 0
  IsShapedGroup (s.GroupOf labels all) = IsTrue (not (is_empty labels)) × AllByRecursion IsShapedLabel labels × AreShapedStmts all

  pub AreShapedStmts : s.Stmts → Type 0
  AreShapedStmts s.no_stmts = Unit {0}
  AreShapedStmts (s.more_stmts a all) = IsShapedStmt a × AreShapedStmts all

  pub AreShapedGroups : s.Groups → Type 0
  AreShapedGroups s.no_groups = Unit {0}
  AreShapedGroups (s.more_groups g all) = IsShapedGroup g × IsTrue (group_fits g all) × AreShapedGroups all

  pub AreShapedCatches : s.Catches → Type 0
  AreShapedCatches s.no_catches = Unit {0}
  AreShapedCatches (s.more_catches c all) = IsShapedCatch c × AreShapedCatches all

-- the body of a constructor, which may begin by calling another (JLS 8.8.7)
abbrev pub IsShapedCtorBody : s.Block → Type 0
IsShapedCtorBody (s.BlockOf (s.more_stmts (s.CtorCall which args) all)) = AreShapedExprs args × AreShapedStmts all
IsShapedCtorBody (s.BlockOf all) = AreShapedStmts all

-- ---- declarations (JLS 7, 8, 9)

abbrev pub IsShapedResult : ResultType → Type 0
IsShapedResult outcome.Void = Unit {0}
IsShapedResult (outcome.Of ty) = IsTypeUse ty

abbrev mutual
  pub IsShapedDecl : d.TypeDecl → Type 0
  IsShapedDecl (d.Class mods name parent faces body) = IfSome parent IsName × AllByRecursion IsName faces × AreShapedMembers body
  IsShapedDecl (d.Interface mods name faces body) = AllByRecursion IsName faces × AreShapedMembers body
  IsShapedDecl d.Empty = Unit {0}

  pub IsShapedMember : d.Member → Type 0
  IsShapedMember (d.Field mods ty ds) = AreShapedVariables ty ds
  IsShapedMember (d.Method mods gives name params thrown body) = IsShapedResult gives × AllByRecursion IsShapedParam params × AllByRecursion IsName thrown × IfSome body IsShapedBlock
  IsShapedMember (d.Constructor mods name params thrown body) = AllByRecursion IsShapedParam params × AllByRecursion IsName thrown × IsShapedCtorBody body
  IsShapedMember (d.Init is_static body) = IsShapedBlock body
  IsShapedMember (d.Nested decl) = IsShapedDecl decl

  pub AreShapedMembers : d.Members → Type 0
  AreShapedMembers d.no_members = Unit {0}
  AreShapedMembers (d.more_members m all) = IsShapedMember m × AreShapedMembers all

-- ---- units (JLS 7.3)

abbrev pub IsShapedPackage : PackageDecl → Type 0
IsShapedPackage p = IsName p.name

abbrev pub IsShapedImport : Import → Type 0
IsShapedImport (import.Single n) = IsName n
IsShapedImport (import.OnDemand n) = IsName n
IsShapedImport (import.StaticSingle n member) = IsName n

abbrev pub IsShapedUnit : d.CompilationUnit → Type 0
IsShapedUnit (d.UnitOf package_decl imports types) = IfSome package_decl IsShapedPackage × AllByRecursion IsShapedImport imports × AllByRecursion IsShapedDecl types

-- a unit of the program that the grammar has
abbrev pub IsShaped : declared_unit.Unit → Type 0
IsShaped u = IsShapedUnit (d.plain_unit u)
