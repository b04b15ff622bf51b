-- The labels of statements and declarations of shaped units stand as they may.
use Rattle.std.proofs.Common.{◌≡◌, ℕ, List, [], ◌∷◌, refl}
use Rattle.std.specs.Prelude.{Bool, true, false, ◌||◌, Option, Some, None, IfSome, is_some, if◌then◌else◌}
use Rattle.std.specs.List.{AllByRecursion}
use Rattle.jr_tree.specs.declared.tree.Name.{Name}
use Rattle.jr_tree.specs.declared.tree.TypeUse.{TypeUse}
use Rattle.jr_tree.specs.declared.tree.Param.{Param}
use Rattle.jr_tree.specs.declared.tree.Modifier.{Modifier}
use Rattle.jr_tree.specs.declared.tree.ResultType.{ResultType}
use Rattle.jr_tree.specs.declared.tree.ResultType.TheVariants as outcome
use Rattle.jr_tree.specs.declared.tree.PackageDecl.{PackageDecl}
use Rattle.jr_tree.specs.declared.tree.Import.{Import}
use Rattle.jr_tree.specs.declared.tree.Import.TheVariants as import
use Rattle.jr_tree.specs.declared.tree.Unit as declared_unit
use Rattle.jr_tree.specs.Shape.{IsName, IsShapedExpr, AreShapedExprs, IsShapedInit, IsWholeExpr, IsStatementExpr, AreStatementExprs, IsShapedDeclarator, AreShapedVariables, IsShapedForInit, IsShapedLabel, IsShapedParam, IsShapedStmt, IsShapedElse, IsShapedFinally, IsShapedBlock, IsShapedCatch, IsShapedGroup, AreShapedStmts, AreShapedGroups, AreShapedCatches, IsShapedCtorBody, IsShapedResult, IsShapedDecl, IsShapedMember, AreShapedMembers, IsShapedPackage, IsShapedImport, IsShapedUnit, IsShaped}
use Rattle.jr_tree.specs.Mirror.Exprs as x
use Rattle.jr_tree.specs.Mirror.Stmts as s
use Rattle.jr_tree.specs.Mirror.Decls as d
use Rattle.jr_tree.specs.declared.label.Label.{Label}
use Rattle.jr_tree.specs.declared.label.Label.TheVariants as is
use Rattle.jr_tree.specs.declared.label.ImportKind.TheVariants as importing
use Rattle.jr_tree.specs.declared.label.NameKind.TheVariants as kind
use Rattle.jr_tree.specs.declared.label.NamePlace.TheVariants as place
use Rattle.jr_tree.specs.Forest.{Forest, none, more, node, leaf, if_some, each}
use Rattle.jr_tree.specs.Exprs.{name_labels, type_name, type_labels, expr_labels, exprs_labels, init_labels}
use Rattle.jr_tree.specs.Stmts.{param_labels, local_labels, for_labels, case_labels, stmt_labels, block_labels, stmts_labels, groups_labels, group_labels, catches_labels, catch_labels, calls_first}
use Rattle.jr_tree.specs.Decls.{modifiers_of, field_labels, is_void, result_labels, implicit_call, has_constructor, default_constructor, member_labels, members_labels, decl_labels, package_labels, import_labels, unit_labels}
use Rattle.jr_tree.specs.Below.{IsUnitOrBody, Under, Starts, Fits}
use Rattle.jr_tree.proofs.Fitting.{IsOpen, open_under, name_fits, first_name, type_name_fits, type_name_first, type_fits, expr_fits, exprs_fits, init_fits}

-- ---- options and lists

some_fits : {A : Type 0} (S : A → Type 0) (f : A → Forest → Forest) (over : Label) → ((a : A) (rest : Forest) → S a → Fits over rest → Fits over (f a rest))
    → (o : Option A) (rest : Forest) → IfSome o S → Fits over rest → Fits over (if_some f o rest)
some_fits S f over g None rest h r = r
some_fits S f over g (Some a) rest h r = g a rest h r

each_fits : {A : Type 0} (S : A → Type 0) (f : A → Forest → Forest) (over : Label) → ((a : A) (rest : Forest) → S a → Fits over rest → Fits over (f a rest))
    → (all : List A) (rest : Forest) → AllByRecursion S all → Fits over rest → Fits over (each f all rest)
each_fits S f over g [] rest h r = r
each_fits S f over g (a ∷ all) rest h r = g a (each f all rest) h.0 (each_fits S f over g all rest h.1 r)

-- ---- parts of statements

param_fits : (over : Label) → IsOpen over → (p : Param) (rest : Forest) → IsShapedParam p → Fits over rest → Fits over (param_labels p rest)
param_fits over o p rest h r = (open_under over (is.Parameter p.is_final p.dims) o tt, tt, type_fits p.ty (is.Parameter p.is_final p.dims) none tt h tt, r)

local_fits : (b : Bool) (over : Label) → IsOpen over → (d : s.Declarator) (rest : Forest) → IsShapedDeclarator d → Fits over rest → Fits over (local_labels b d rest)
local_fits b over o (s.DeclaratorOf name dims init) rest h r =
    (open_under over (is.Local b dims) o tt, tt, some_fits IsShapedInit init_labels (is.Local b dims) (λ i rest h r. init_fits i (is.Local b dims) rest tt h r) init none h tt, r)

field_fits : (m : List Modifier) (over : Label) → IsOpen over → (d : s.Declarator) (rest : Forest) → IsShapedDeclarator d → Fits over rest → Fits over (field_labels m d rest)
field_fits m over o (s.DeclaratorOf name dims init) rest h r = (
  open_under over (is.Field (modifiers_of m) dims) o tt,
  tt,
  some_fits IsShapedInit init_labels (is.Field (modifiers_of m) dims) (λ i rest h r. init_fits i (is.Field (modifiers_of m) dims) rest tt h r) init none h tt,
  r,
)

locals_fit : (b : Bool) (ty : TypeUse) (ds : List s.Declarator) (over : Label) → IsOpen over → AreShapedVariables ty ds → Fits over (type_labels ty (each (local_labels b) ds none))
locals_fit b ty ds over o h = type_fits ty over (each (local_labels b) ds none) o h.0 (each_fits IsShapedDeclarator (local_labels b) over (local_fits b over o) ds none h.2 tt)

whole_fits : (e : x.Expr) (over : Label) (rest : Forest) → IsOpen over → IsWholeExpr e → Fits over rest → Fits over (expr_labels e rest)
whole_fits e over rest o h r = expr_fits e over rest o h.1 r

statement_exprs_fit : (es : x.Exprs) (over : Label) (rest : Forest) → IsOpen over → AreStatementExprs es → Fits over rest → Fits over (exprs_labels es rest)
statement_exprs_fit x.no_exprs over rest o h r = r
statement_exprs_fit (x.more_exprs e all) over rest o h r = expr_fits e over (exprs_labels all rest) o h.0.1 (statement_exprs_fit all over rest o h.1 r)

for_fits : (over : Label) → IsOpen over → (f : s.ForInit) (rest : Forest) → IsShapedForInit f → Fits over rest → Fits over (for_labels f rest)
for_fits over o (s.Locals b ty ds) rest h r = (open_under over is.ForLocals o tt, tt, locals_fit b ty ds is.ForLocals tt h, r)
for_fits over o (s.Exprs es) rest h r = (open_under over is.ForExprs o tt, tt, statement_exprs_fit es is.ForExprs none tt h.1 tt, r)

case_fits : (over : Label) → IsOpen over → (l : s.SwitchLabel) (rest : Forest) → IsShapedLabel l → Fits over rest → Fits over (case_labels l rest)
case_fits over o (s.Case value) rest h r = (open_under over is.Case o tt, tt, whole_fits value is.Case none tt h tt, r)
case_fits over o s.Default rest h r = (open_under over is.Default o tt, tt, tt, r)

-- ---- statements

mutual
  pub stmt_fits : (a : s.Stmt) (over : Label) (rest : Forest) → IsOpen over → IsShapedStmt a → Fits over rest → Fits over (stmt_labels a rest)
  stmt_fits (s.Nest b) over rest o h r = (open_under over is.Nest o tt, tt, block_fits b is.Nest none tt h tt, r)
  stmt_fits (s.Local b ty ds) over rest o h r = (open_under over is.Locals o tt, tt, locals_fit b ty ds is.Locals tt h, r)
  stmt_fits s.Skip over rest o h r = (open_under over is.Skip o tt, tt, tt, r)
  stmt_fits (s.Do body c) over rest o h r =
      (open_under over is.Do o tt, tt, stmt_fits body is.Do (expr_labels c none) tt h.1 (whole_fits c is.Do none tt h.2 tt), r)
  stmt_fits (s.While c body) over rest o h r =
      (open_under over is.While o tt, tt, whole_fits c is.While (stmt_labels body none) tt h.0 (stmt_fits body is.While none tt h.2 tt), r)
  stmt_fits (s.If c a s.no_stmt) over rest o h r =
      (open_under over is.If o tt, tt, whole_fits c is.If (stmt_labels a none) tt h.0 (stmt_fits a is.If none tt h.2 tt), r)
  stmt_fits (s.If c a (s.a_stmt b)) over rest o h r =
      (open_under over is.If o tt, tt, whole_fits c is.If (stmt_labels a (stmt_labels b none)) tt h.0 (stmt_fits a is.If (stmt_labels b none) tt h.2 (stmt_fits b is.If none tt h.3.2 tt)), r)
  stmt_fits (s.Eval value) over rest o h r = (open_under over is.Eval o tt, tt, expr_fits value is.Eval none tt h.1 tt, r)
  stmt_fits (s.For first c update body) over rest o h r = (
    open_under over (is.For (is_some first) (is_some c)) o tt,
    tt,
    some_fits IsShapedForInit for_labels (is.For (is_some first) (is_some c)) (for_fits (is.For (is_some first) (is_some c)) tt) first (if_some expr_labels c (exprs_labels update (stmt_labels body none))) h.0
        (some_fits IsWholeExpr expr_labels (is.For (is_some first) (is_some c)) (λ e rest h r. whole_fits e (is.For (is_some first) (is_some c)) rest tt h r) c (exprs_labels update (stmt_labels body none)) h.1
        (statement_exprs_fit update (is.For (is_some first) (is_some c)) (stmt_labels body none) tt h.2 (stmt_fits body (is.For (is_some first) (is_some c)) none tt h.4 tt))),
    r,
  )
  stmt_fits (s.Switch value gs) over rest o h r =
      (open_under over is.Switch o tt, tt, whole_fits value is.Switch (groups_labels gs none) tt h.0 (groups_fit gs is.Switch none tt h.1 tt), r)
  stmt_fits (s.Labeled label body) over rest o h r = (open_under over is.Labeled o tt, tt, stmt_fits body is.Labeled none tt h.1 tt, r)
  stmt_fits (s.Break label) over rest o h r = (open_under over (is.Break (is_some label)) o tt, tt, tt, r)
  stmt_fits (s.Continue label) over rest o h r = (open_under over (is.Continue (is_some label)) o tt, tt, tt, r)
  stmt_fits (s.Return value) over rest o h r =
      (open_under over is.Return o tt, tt, some_fits IsWholeExpr expr_labels is.Return (λ e rest h r. whole_fits e is.Return rest tt h r) value none h tt, r)
  stmt_fits (s.Throw value) over rest o h r = (open_under over is.Throw o tt, tt, whole_fits value is.Throw none tt h tt, r)
  stmt_fits (s.Try body cs s.no_block) over rest o h r =
      (open_under over (is.Try false) o tt, tt, block_fits body (is.Try false) (catches_labels cs none) tt h.0 (catches_fit cs (is.Try false) none tt h.1 tt), r)
  stmt_fits (s.Try body cs (s.a_block last)) over rest o h r = (
    open_under over (is.Try true) o tt,
    tt,
    block_fits body (is.Try true) (catches_labels cs (block_labels last none)) tt h.0
        (catches_fit cs (is.Try true) (block_labels last none) tt h.1 (block_fits last (is.Try true) none tt h.2 tt)),
    r,
  )
  stmt_fits (s.CtorCall which args) over rest o h r = absurd h

  pub block_fits : (b : s.Block) (over : Label) (rest : Forest) → IsOpen over → IsShapedBlock b → Fits over rest → Fits over (block_labels b rest)
  block_fits (s.BlockOf all) over rest o h r = (open_under over is.Block o tt, tt, stmts_fit all is.Block none tt h tt, r)

  pub stmts_fit : (a : s.Stmts) (over : Label) (rest : Forest) → IsOpen over → AreShapedStmts a → Fits over rest → Fits over (stmts_labels a rest)
  stmts_fit s.no_stmts over rest o h r = r
  stmts_fit (s.more_stmts a all) over rest o h r = stmt_fits a over (stmts_labels all rest) o h.0 (stmts_fit all over rest o h.1 r)

  pub groups_fit : (a : s.Groups) (over : Label) (rest : Forest) → IsOpen over → AreShapedGroups a → Fits over rest → Fits over (groups_labels a rest)
  groups_fit s.no_groups over rest o h r = r
  groups_fit (s.more_groups g all) over rest o h r = group_fits' g over (groups_labels all rest) o h.0 (groups_fit all over rest o h.2 r)

  pub group_fits' : (a : s.Group) (over : Label) (rest : Forest) → IsOpen over → IsShapedGroup a → Fits over rest → Fits over (group_labels a rest)
  group_fits' (s.GroupOf labels all) over rest o h r =
      (open_under over is.Group o tt, tt, each_fits IsShapedLabel case_labels is.Group (case_fits is.Group tt) labels (stmts_labels all none) h.1 (stmts_fit all is.Group none tt h.2 tt), r)

  pub catches_fit : (a : s.Catches) (over : Label) (rest : Forest) → IsOpen over → AreShapedCatches a → Fits over rest → Fits over (catches_labels a rest)
  catches_fit s.no_catches over rest o h r = r
  catches_fit (s.more_catches c all) over rest o h r = catch_fits c over (catches_labels all rest) o h.0 (catches_fit all over rest o h.1 r)

  pub catch_fits : (a : s.Catch) (over : Label) (rest : Forest) → IsOpen over → IsShapedCatch a → Fits over rest → Fits over (catch_labels a rest)
  catch_fits (s.CatchOf p b) over rest o h r =
      (open_under over is.Catch o tt, tt, param_fits is.Catch tt p (block_labels b none) h.0 (block_fits b is.Catch none tt h.1 tt), r)

-- the body of a constructor, which may begin by calling another
constructor_body_fits : (b : s.Block) (over : Label) (rest : Forest) → IsOpen over → IsShapedCtorBody b → Fits over rest → Fits over (block_labels b rest)
constructor_body_fits (s.BlockOf s.no_stmts) over rest o h r = (open_under over is.Block o tt, tt, tt, r)
constructor_body_fits (s.BlockOf (s.more_stmts (s.CtorCall which args) all)) over rest o h r =
    (open_under over is.Block o tt, tt, (tt, tt, exprs_fits args (is.ConstructorCall which) none tt h.0 tt, stmts_fit all is.Block none tt h.1 tt), r)
constructor_body_fits (s.BlockOf (s.more_stmts a all)) over rest o h r =
    (open_under over is.Block o tt, tt, stmts_fit (s.more_stmts a all) is.Block none tt h tt, r)

-- ---- declarations

result_fits : (over : Label) → IsOpen over → (g : ResultType) (rest : Forest) → IsShapedResult g → Fits over rest → Fits over (result_labels g rest)
result_fits over o outcome.Void rest h r = r
result_fits over o (outcome.Of ty) rest h r = type_fits ty over rest o h r

implicit_fits : (b : Bool) (over : Label) (rest : Forest) → IsOpen over → Fits over rest → Fits over (implicit_call b rest)
implicit_fits true over rest o r = r
implicit_fits false over rest o r = (open_under over is.ImplicitCall o tt, tt, tt, r)

default_fits : (b : Bool) (rest : Forest) → Fits is.Body rest → Fits is.Body (default_constructor b rest)
default_fits true rest r = r
default_fits false rest r = (tt, tt, (tt, tt, tt, tt), r)

mutual
  member_fits : (m : d.Member) (rest : Forest) → IsShapedMember m → Fits is.Body rest → Fits is.Body (member_labels m rest)
  member_fits (d.Field mods ty ds) rest h r = (
    tt,
    tt,
    type_fits ty (is.Fields (modifiers_of mods)) (each (field_labels mods) ds none) tt h.0
        (each_fits IsShapedDeclarator (field_labels mods) (is.Fields (modifiers_of mods)) (field_fits mods (is.Fields (modifiers_of mods)) tt) ds none h.2 tt),
    r,
  )
  member_fits (d.Method mods gives name params thrown body) rest h r = let l = is.Method (modifiers_of mods) (is_void gives) (is_some body) in (
    tt,
    tt,
    result_fits (is.Method (modifiers_of mods) (is_void gives) (is_some body)) tt gives (each param_labels params (each type_name thrown (if_some block_labels body none))) h.0
        (each_fits IsShapedParam param_labels (is.Method (modifiers_of mods) (is_void gives) (is_some body)) (param_fits (is.Method (modifiers_of mods) (is_void gives) (is_some body)) tt) params
        (each type_name thrown (if_some block_labels body none)) h.1
        (each_fits IsName type_name (is.Method (modifiers_of mods) (is_void gives) (is_some body)) (λ n rest h r. type_name_fits n (is.Method (modifiers_of mods) (is_void gives) (is_some body)) rest tt r) thrown
        (if_some block_labels body none) h.2
        (some_fits IsShapedBlock block_labels (is.Method (modifiers_of mods) (is_void gives) (is_some body))
        (λ b rest h r. block_fits b (is.Method (modifiers_of mods) (is_void gives) (is_some body)) rest tt h r) body none h.3 tt))),
    r,
  )
  member_fits (d.Constructor mods name params thrown body) rest h r = (
    tt,
    tt,
    implicit_fits (calls_first body) (is.Constructor (modifiers_of mods)) (each param_labels params (each type_name thrown (block_labels body none))) tt
        (each_fits IsShapedParam param_labels (is.Constructor (modifiers_of mods)) (param_fits (is.Constructor (modifiers_of mods)) tt) params (each type_name thrown (block_labels body none)) h.0
        (each_fits IsName type_name (is.Constructor (modifiers_of mods)) (λ n rest h r. type_name_fits n (is.Constructor (modifiers_of mods)) rest tt r) thrown (block_labels body none) h.1
        (constructor_body_fits body (is.Constructor (modifiers_of mods)) none tt h.2 tt))),
    r,
  )
  member_fits (d.Init is_static body) rest h r = (tt, tt, block_fits body (is.Initializer is_static) none tt h tt, r)
  member_fits (d.Nested decl) rest h r = decl_fits true decl is.Body rest tt tt h r

  members_fit : (m : d.Members) (rest : Forest) → AreShapedMembers m → Fits is.Body rest → Fits is.Body (members_labels m rest)
  members_fit d.no_members rest h r = r
  members_fit (d.more_members m all) rest h r = member_fits m (members_labels all rest) h.0 (members_fit all rest h.1 r)

  pub decl_fits : (b : Bool) (t : d.TypeDecl) (over : Label) (rest : Forest) → IsOpen over → IsUnitOrBody over → IsShapedDecl t → Fits over rest → Fits over (decl_labels b t rest)
  decl_fits b (d.Class mods name parent faces body) over rest o k h r = (
    open_under over (is.Class (modifiers_of mods) b) o k,
    tt,
    some_fits IsName (name_labels kind.Type place.Superclass) (is.Class (modifiers_of mods) b) (λ n rest h r. name_fits kind.Type place.Superclass n (is.Class (modifiers_of mods) b) rest (λ b. (tt, refl)) r)
        parent (each (name_labels kind.Type place.Superinterface) faces (node is.Body (default_constructor (has_constructor body) (members_labels body none)) none)) h.0
        (each_fits IsName (name_labels kind.Type place.Superinterface) (is.Class (modifiers_of mods) b)
        (λ n rest h r. name_fits kind.Type place.Superinterface n (is.Class (modifiers_of mods) b) rest (λ b. (tt, refl)) r) faces (node is.Body (default_constructor (has_constructor body) (members_labels body none)) none) h.1
        (tt, tt, default_fits (has_constructor body) (members_labels body none) (members_fit body none h.2 tt), tt)),
    r,
  )
  decl_fits b (d.Interface mods name faces body) over rest o k h r = (
    open_under over (is.Interface (modifiers_of mods) b) o k,
    tt,
    each_fits IsName (name_labels kind.Type place.Superinterface) (is.Interface (modifiers_of mods) b)
        (λ n rest h r. name_fits kind.Type place.Superinterface n (is.Interface (modifiers_of mods) b) rest (λ b. (tt, refl)) r) faces (node is.Body (members_labels body none) none) h.0
        (tt, tt, members_fit body none h.1 tt, tt),
    r,
  )
  decl_fits b d.Empty over rest o k h r = (open_under over (is.EmptyDecl b) o tt, tt, tt, r)

-- ---- units

package_fits : (p : PackageDecl) (rest : Forest) → IsShapedPackage p → Fits is.Unit rest → Fits is.Unit (package_labels p rest)
package_fits p rest h r = (tt, tt, name_fits kind.Package place.Other p.name is.Package none (λ b. tt) tt, r)

import_fits : (i : Import) (rest : Forest) → IsShapedImport i → Fits is.Unit rest → Fits is.Unit (import_labels i rest)
import_fits (import.Single n) rest h r =
    (tt, first_name kind.Type place.Other n none (λ b. tt) h, name_fits kind.Type place.Other n (is.Import importing.Single) none (λ b. tt) tt, r)
import_fits (import.OnDemand n) rest h r =
    (tt, first_name kind.PackageOrType place.Other n none (λ b. tt) h, name_fits kind.PackageOrType place.Other n (is.Import importing.OnDemand) none (λ b. tt) tt, r)
import_fits (import.StaticSingle n member) rest h r =
    (tt, first_name kind.Type place.Other n none (λ b. tt) h, name_fits kind.Type place.Other n (is.Import importing.StaticSingle) none (λ b. tt) tt, r)

pub unit_fits : (u : d.CompilationUnit) (rest : Forest) → IsShapedUnit u → Fits is.Program rest → Fits is.Program (unit_labels u rest)
unit_fits (d.UnitOf package_decl imports types) rest h r = (
  tt,
  tt,
  some_fits IsShapedPackage package_labels is.Unit package_fits package_decl (each import_labels imports (each (decl_labels false) types none)) h.0
      (each_fits IsShapedImport import_labels is.Unit import_fits imports (each (decl_labels false) types none) h.1
      (each_fits IsShapedDecl (decl_labels false) is.Unit (λ t rest h r. decl_fits false t is.Unit rest tt tt h r) types none h.2 tt)),
  r,
)

pub units_fit : (units : List declared_unit.Unit) → AllByRecursion IsShaped units → Fits is.Program (each (λ u. unit_labels (d.plain_unit u)) units none)
units_fit units h = each_fits IsShaped (λ u. unit_labels (d.plain_unit u)) is.Program (λ u rest h r. unit_fits (d.plain_unit u) rest h r) units none h tt
