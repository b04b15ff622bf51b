-- In trees of labels: a call of a constructor stands first in the body of a constructor (JLS 8.8.7).
use Rattle.std.proofs.Common.{◌⊎◌, inl, inr, List, [], ◌∷◌}
use Rattle.std.specs.Prelude.{Bool, true, false, Option, Some, None, IfSome}
use Rattle.std.specs.List.{AllByRecursion}
use Rattle.jr_base.specs.declared.text.Text.{Text}
use Rattle.jr_tree.specs.declared.label.Label.{Label}
use Rattle.jr_tree.specs.declared.label.Label.TheVariants as is
use Rattle.jr_tree.specs.declared.label.NameKind.{NameKind}
use Rattle.jr_tree.specs.declared.label.NameKind.TheVariants as kind
use Rattle.jr_tree.specs.declared.label.NamePlace.{NamePlace}
use Rattle.jr_tree.specs.declared.label.NamePlace.TheVariants as place
use Rattle.jr_tree.specs.declared.tree.Name.{Name}
use Rattle.jr_tree.specs.declared.tree.Base.{Base}
use Rattle.jr_tree.specs.declared.tree.Base.TheVariants as base
use Rattle.jr_tree.specs.declared.tree.TypeUse.{TypeUse}
use Rattle.jr_tree.specs.declared.tree.Param.{Param}
use Rattle.jr_tree.specs.declared.tree.Modifier.{Modifier}
use Rattle.jr_tree.specs.declared.tree.ResultType.{ResultType}
use Rattle.jr_tree.specs.declared.tree.ResultType.TheVariants as outcome
use Rattle.jr_tree.specs.declared.tree.PackageDecl.{PackageDecl}
use Rattle.jr_tree.specs.declared.tree.Import.{Import}
use Rattle.jr_tree.specs.declared.tree.Import.TheVariants as import
use Rattle.jr_tree.specs.declared.tree.Unit as declared_unit
use Rattle.jr_tree.specs.Shape.{IsShapedStmt, IsShapedBlock, IsShapedCatch, IsShapedGroup, AreShapedStmts, AreShapedGroups, AreShapedCatches, IsShapedCtorBody, IsShapedDecl, IsShapedMember, AreShapedMembers, IsShapedUnit, IsShaped}
use Rattle.jr_tree.specs.Mirror.Exprs as x
use Rattle.jr_tree.specs.Mirror.Stmts as s
use Rattle.jr_tree.specs.Mirror.Decls as d
use Rattle.jr_tree.specs.Forest.{Forest, none, more, node, if_some, each}
use Rattle.jr_tree.specs.Exprs.{left_kind, dotted, name_labels, type_name, base_labels, type_labels, expr_labels, exprs_labels, list_labels, init_labels, inits_labels}
use Rattle.jr_tree.specs.Stmts.{param_labels, local_labels, for_labels, case_labels, stmt_labels, block_labels, stmts_labels, groups_labels, group_labels, catches_labels, catch_labels, calls_first}
use Rattle.jr_tree.specs.Decls.{field_labels, result_labels, implicit_call, has_constructor, default_constructor, member_labels, members_labels, decl_labels, package_labels, import_labels, unit_labels}

abbrev pub IsNoCall : Label → Type 0
IsNoCall (is.ConstructorCall which) = ⊥
IsNoCall _ = Unit {0}

-- no label is a call of a constructor
abbrev pub HasNoCall : Forest → Type 0
HasNoCall none = Unit {0}
HasNoCall (more l name kids rest) = IsNoCall l × HasNoCall kids × HasNoCall rest

-- none but the first root is
abbrev pub CallsFirst : Forest → Type 0
CallsFirst none = Unit {0}
CallsFirst (more l name kids rest) = HasNoCall kids × HasNoCall rest

-- none but the first of those below the last root is
abbrev pub CallsInLast : Forest → Type 0
CallsInLast none = Unit {0}
CallsInLast (more l name kids none) = IsNoCall l × CallsFirst kids
CallsInLast (more l name kids (more m x below rest)) = IsNoCall l × HasNoCall kids × CallsInLast (more m x below rest)

-- where one is a call, it stands so below some label
abbrev pub CallsInBodies : Forest → Type 0
CallsInBodies none = Unit {0}
CallsInBodies (more l name kids rest) = IsNoCall l × (CallsInLast kids ⊎ CallsInBodies kids) × CallsInBodies rest

-- ---- what calls nothing stands before any of these

record Goes (P : Forest → Type 0) : Type 0 where
  before : (l : Label) (name : Text) (kids rest : Forest) → IsNoCall l → HasNoCall kids → P rest → P (more l name kids rest)

none_first : (f : Forest) → HasNoCall f → CallsFirst f
none_first none h = tt
none_first (more l name kids rest) h = (h.1, h.2)

none_goes : Goes HasNoCall
none_goes = record { before = λ l name kids rest a b c. (a, b, c) }

last_before : (l : Label) (name : Text) (kids rest : Forest) → IsNoCall l → HasNoCall kids → CallsInLast rest → CallsInLast (more l name kids rest)
last_before l name kids none a b c = (a, none_first kids b)
last_before l name kids (more m x below rest) a b c = (a, b, c)

last_goes : Goes CallsInLast
last_goes = record { before = last_before }

none_last : (f : Forest) → HasNoCall f → CallsInLast f
none_last none h = tt
none_last (more l name kids rest) h = last_before l name kids rest h.0 h.1 (none_last rest h.2)

bodies_goes : Goes CallsInBodies
bodies_goes = record { before = λ l name kids rest a b c. (a, inl (none_last kids b), c) }

-- ---- options, lists, names, types, parameters

module _ (P : Forest → Type 0) (goes : Goes P) where
  some_goes : {A : Type 0} (S : A → Type 0) (f : A → Forest → Forest) → ((a : A) (rest : Forest) → S a → P rest → P (f a rest)) → (o : Option A) (rest : Forest) → IfSome o S → P rest → P (if_some f o rest)
  some_goes S f g None rest h r = r
  some_goes S f g (Some a) rest h r = g a rest h r

  any_goes : {A : Type 0} (f : A → Forest → Forest) → ((a : A) (rest : Forest) → P rest → P (f a rest)) → (o : Option A) (rest : Forest) → P rest → P (if_some f o rest)
  any_goes f g None rest r = r
  any_goes f g (Some a) rest r = g a rest r

  each_goes : {A : Type 0} (S : A → Type 0) (f : A → Forest → Forest) → ((a : A) (rest : Forest) → S a → P rest → P (f a rest)) → (all : List A) (rest : Forest) → AllByRecursion S all → P rest → P (each f all rest)
  each_goes S f g [] rest h r = r
  each_goes S f g (a ∷ all) rest h r = g a (each f all rest) h.0 (each_goes S f g all rest h.1 r)

  all_goes : {A : Type 0} (f : A → Forest → Forest) → ((a : A) (rest : Forest) → P rest → P (f a rest)) → (all : List A) (rest : Forest) → P rest → P (each f all rest)
  all_goes f g [] rest r = r
  all_goes f g (a ∷ all) rest r = g a (each f all rest) (all_goes f g all rest r)

  dotted_goes : (k : NameKind) (at : NamePlace) (parts : List Text) (b : Bool) (left rest : Forest) → HasNoCall left → P rest → P (dotted k at parts b left rest)
  dotted_goes k at [] b left rest h r = r
  dotted_goes k at (part ∷ []) b left rest h r = goes.before (is.Name k at b) part left rest tt h r
  dotted_goes k at (part ∷ (next ∷ parts)) b left rest h r = dotted_goes k at (next ∷ parts) true (more (is.Name (left_kind k) place.Qualifier b) part left none) rest (tt, h, tt) r

  name_goes : (k : NameKind) (at : NamePlace) (n : Name) (rest : Forest) → P rest → P (name_labels k at n rest)
  name_goes k at n rest r = dotted_goes k at n.parts false none rest tt r

  base_goes : (b : Base) (rest : Forest) → P rest → P (base_labels b rest)
  base_goes (base.Primitive p) rest r = r
  base_goes (base.Named n) rest r = name_goes kind.Type place.Other n rest r

abbrev names : (k : NameKind) (at : NamePlace) (n : Name) (rest : Forest) → HasNoCall rest → HasNoCall (name_labels k at n rest)
names = name_goes HasNoCall none_goes

module _ (P : Forest → Type 0) (goes : Goes P) where
  type_goes : (t : TypeUse) (rest : Forest) → P rest → P (type_labels t rest)
  type_goes t rest r = goes.before _ [] (base_labels t.base none) rest tt (base_goes HasNoCall none_goes t.base none tt) r

abbrev types : (t : TypeUse) (rest : Forest) → HasNoCall rest → HasNoCall (type_labels t rest)
types = type_goes HasNoCall none_goes

module _ (P : Forest → Type 0) (goes : Goes P) where
  param_goes : (p : Param) (rest : Forest) → P rest → P (param_labels p rest)
  param_goes p rest r = goes.before _ p.name (type_labels p.ty none) rest tt (types p.ty none tt) r

-- ---- expressions

mutual
  expr_calls : (e : x.Expr) (rest : Forest) → HasNoCall rest → HasNoCall (expr_labels e rest)
  expr_calls (x.Assign target op value) rest r = (tt, expr_calls target (expr_labels value none) (expr_calls value none tt), r)
  expr_calls (x.Cond c a b) rest r = (tt, expr_calls c (expr_labels a (expr_labels b none)) (expr_calls a (expr_labels b none) (expr_calls b none tt)), r)
  expr_calls (x.Binary left op right) rest r = (tt, expr_calls left (expr_labels right none) (expr_calls right none tt), r)
  expr_calls (x.IsA value ty) rest r = (tt, expr_calls value (type_labels ty none) (types ty none tt), r)
  expr_calls (x.Unary op value) rest r = (tt, expr_calls value none tt, r)
  expr_calls (x.Cast ty value) rest r = (tt, types ty (expr_labels value none) (expr_calls value none tt), r)
  expr_calls (x.PreStep op value) rest r = (tt, expr_calls value none tt, r)
  expr_calls (x.PostStep value op) rest r = (tt, expr_calls value none tt, r)
  expr_calls (x.Lit token) rest r = (tt, tt, r)
  expr_calls (x.This None) rest r = (tt, tt, r)
  expr_calls (x.This (Some class)) rest r = (tt, names kind.Type place.Other class none tt, r)
  expr_calls (x.Paren inner) rest r = (tt, expr_calls inner none tt, r)
  expr_calls (x.NameExpr name) rest r = names kind.Variable place.Expression name rest r
  expr_calls (x.Select object name) rest r = (tt, expr_calls object none tt, r)
  expr_calls (x.SuperSelect name) rest r = (tt, tt, r)
  expr_calls (x.Index array at) rest r = (tt, expr_calls array (expr_labels at none) (expr_calls at none tt), r)
  expr_calls (x.Call x.no_receiver name args) rest r = (tt, exprs_call args none tt, r)
  expr_calls (x.Call (x.a_receiver (x.Of object)) name args) rest r = (tt, expr_calls object (exprs_labels args none) (exprs_call args none tt), r)
  expr_calls (x.Call (x.a_receiver (x.OfName before)) name args) rest r = (tt, names kind.Ambiguous place.Receiver before (exprs_labels args none) (exprs_call args none tt), r)
  expr_calls (x.Call (x.a_receiver x.Super) name args) rest r = (tt, exprs_call args none tt, r)
  expr_calls (x.New class args) rest r = (tt, names kind.Type place.Other class (exprs_labels args none) (exprs_call args none tt), r)
  expr_calls (x.NewArray base lengths extra x.no_list) rest r = (tt, base_goes HasNoCall none_goes base (exprs_labels lengths none) (exprs_call lengths none tt), r)
  expr_calls (x.NewArray base lengths extra (x.a_list list)) rest r =
      (tt, base_goes HasNoCall none_goes base (exprs_labels lengths (list_labels list none)) (exprs_call lengths (list_labels list none) (list_calls list none tt)), r)

  exprs_call : (e : x.Exprs) (rest : Forest) → HasNoCall rest → HasNoCall (exprs_labels e rest)
  exprs_call x.no_exprs rest r = r
  exprs_call (x.more_exprs e all) rest r = expr_calls e (exprs_labels all rest) (exprs_call all rest r)

  list_calls : (e : x.InitList) (rest : Forest) → HasNoCall rest → HasNoCall (list_labels e rest)
  list_calls (x.ListOf all is_open_ended) rest r = (tt, inits_call all none tt, r)

  init_calls : (e : x.Init) (rest : Forest) → HasNoCall rest → HasNoCall (init_labels e rest)
  init_calls (x.Value value) rest r = (tt, expr_calls value none tt, r)
  init_calls (x.Listed list) rest r = list_calls list rest r

  inits_call : (e : x.Inits) (rest : Forest) → HasNoCall rest → HasNoCall (inits_labels e rest)
  inits_call x.no_inits rest r = r
  inits_call (x.more_inits i all) rest r = init_calls i (inits_labels all rest) (inits_call all rest r)

-- ---- statements, none of which calls a constructor

abbrev any : {A : Type 0} (f : A → Forest → Forest) → ((a : A) (rest : Forest) → HasNoCall rest → HasNoCall (f a rest)) → (o : Option A) (rest : Forest) → HasNoCall rest → HasNoCall (if_some f o rest)
any = any_goes HasNoCall none_goes

abbrev all_of : {A : Type 0} (f : A → Forest → Forest) → ((a : A) (rest : Forest) → HasNoCall rest → HasNoCall (f a rest)) → (all : List A) (rest : Forest) → HasNoCall rest → HasNoCall (each f all rest)
all_of = all_goes HasNoCall none_goes

local_calls : (b : Bool) (d : s.Declarator) (rest : Forest) → HasNoCall rest → HasNoCall (local_labels b d rest)
local_calls b (s.DeclaratorOf name dims init) rest r = (tt, any init_labels init_calls init none tt, r)

for_calls : (f : s.ForInit) (rest : Forest) → HasNoCall rest → HasNoCall (for_labels f rest)
for_calls (s.Locals b ty ds) rest r = (tt, types ty (each (local_labels b) ds none) (all_of (local_labels b) (local_calls b) ds none tt), r)
for_calls (s.Exprs es) rest r = (tt, exprs_call es none tt, r)

case_calls : (l : s.SwitchLabel) (rest : Forest) → HasNoCall rest → HasNoCall (case_labels l rest)
case_calls (s.Case value) rest r = (tt, expr_calls value none tt, r)
case_calls s.Default rest r = (tt, tt, r)

mutual
  stmt_calls : (a : s.Stmt) (rest : Forest) → IsShapedStmt a → HasNoCall rest → HasNoCall (stmt_labels a rest)
  stmt_calls (s.Nest b) rest h r = (tt, block_calls b none h tt, r)
  stmt_calls (s.Local b ty ds) rest h r = (tt, types ty (each (local_labels b) ds none) (all_of (local_labels b) (local_calls b) ds none tt), r)
  stmt_calls s.Skip rest h r = (tt, tt, r)
  stmt_calls (s.Do body c) rest h r = (tt, stmt_calls body (expr_labels c none) h.1 (expr_calls c none tt), r)
  stmt_calls (s.While c body) rest h r = (tt, expr_calls c (stmt_labels body none) (stmt_calls body none h.2 tt), r)
  stmt_calls (s.If c a s.no_stmt) rest h r = (tt, expr_calls c (stmt_labels a none) (stmt_calls a none h.2 tt), r)
  stmt_calls (s.If c a (s.a_stmt b)) rest h r =
      (tt, expr_calls c (stmt_labels a (stmt_labels b none)) (stmt_calls a (stmt_labels b none) h.2 (stmt_calls b none h.3.2 tt)), r)
  stmt_calls (s.Eval value) rest h r = (tt, expr_calls value none tt, r)
  stmt_calls (s.For first c update body) rest h r = (
    tt,
    any for_labels for_calls first (if_some expr_labels c (exprs_labels update (stmt_labels body none)))
        (any expr_labels expr_calls c (exprs_labels update (stmt_labels body none)) (exprs_call update (stmt_labels body none) (stmt_calls body none h.4 tt))),
    r,
  )
  stmt_calls (s.Switch value gs) rest h r = (tt, expr_calls value (groups_labels gs none) (groups_call gs none h.1 tt), r)
  stmt_calls (s.Labeled label body) rest h r = (tt, stmt_calls body none h.1 tt, r)
  stmt_calls (s.Break label) rest h r = (tt, tt, r)
  stmt_calls (s.Continue label) rest h r = (tt, tt, r)
  stmt_calls (s.Return value) rest h r = (tt, any expr_labels expr_calls value none tt, r)
  stmt_calls (s.Throw value) rest h r = (tt, expr_calls value none tt, r)
  stmt_calls (s.Try body cs s.no_block) rest h r = (tt, block_calls body (catches_labels cs none) h.0 (catches_call cs none h.1 tt), r)
  stmt_calls (s.Try body cs (s.a_block last)) rest h r =
      (tt, block_calls body (catches_labels cs (block_labels last none)) h.0 (catches_call cs (block_labels last none) h.1 (block_calls last none h.2 tt)), r)
  stmt_calls (s.CtorCall which args) rest h r = absurd h

  block_calls : (b : s.Block) (rest : Forest) → IsShapedBlock b → HasNoCall rest → HasNoCall (block_labels b rest)
  block_calls (s.BlockOf all) rest h r = (tt, stmts_call all none h tt, r)

  stmts_call : (a : s.Stmts) (rest : Forest) → AreShapedStmts a → HasNoCall rest → HasNoCall (stmts_labels a rest)
  stmts_call s.no_stmts rest h r = r
  stmts_call (s.more_stmts a all) rest h r = stmt_calls a (stmts_labels all rest) h.0 (stmts_call all rest h.1 r)

  groups_call : (a : s.Groups) (rest : Forest) → AreShapedGroups a → HasNoCall rest → HasNoCall (groups_labels a rest)
  groups_call s.no_groups rest h r = r
  groups_call (s.more_groups g all) rest h r = group_calls g (groups_labels all rest) h.0 (groups_call all rest h.2 r)

  group_calls : (a : s.Group) (rest : Forest) → IsShapedGroup a → HasNoCall rest → HasNoCall (group_labels a rest)
  group_calls (s.GroupOf labels all) rest h r = (tt, all_of case_labels case_calls labels (stmts_labels all none) (stmts_call all none h.2 tt), r)

  catches_call : (a : s.Catches) (rest : Forest) → AreShapedCatches a → HasNoCall rest → HasNoCall (catches_labels a rest)
  catches_call s.no_catches rest h r = r
  catches_call (s.more_catches c all) rest h r = catch_calls c (catches_labels all rest) h.0 (catches_call all rest h.1 r)

  catch_calls : (a : s.Catch) (rest : Forest) → IsShapedCatch a → HasNoCall rest → HasNoCall (catch_labels a rest)
  catch_calls (s.CatchOf p b) rest h r = (tt, param_goes HasNoCall none_goes p (block_labels b none) (block_calls b none h.1 tt), r)

-- ---- members and types

-- the body of a constructor, which may begin by calling another
constructor_body : (b : s.Block) → IsShapedCtorBody b → CallsInLast (block_labels b none)
constructor_body (s.BlockOf s.no_stmts) h = (tt, tt)
constructor_body (s.BlockOf (s.more_stmts (s.CtorCall which args) all)) h = (tt, (exprs_call args none tt, stmts_call all none h.1 tt))
constructor_body (s.BlockOf (s.more_stmts a all)) h = (tt, none_first (stmts_labels (s.more_stmts a all) none) (stmts_call (s.more_stmts a all) none h tt))

field_calls : (m : List Modifier) (d : s.Declarator) (rest : Forest) → HasNoCall rest → HasNoCall (field_labels m d rest)
field_calls m (s.DeclaratorOf name dims init) rest r = (tt, any init_labels init_calls init none tt, r)

result_calls : (g : ResultType) (rest : Forest) → HasNoCall rest → HasNoCall (result_labels g rest)
result_calls outcome.Void rest r = r
result_calls (outcome.Of ty) rest r = types ty rest r

implicit_last : (b : Bool) (rest : Forest) → CallsInLast rest → CallsInLast (implicit_call b rest)
implicit_last true rest r = r
implicit_last false rest r = last_before is.ImplicitCall [] none rest tt tt r

default_calls : (b : Bool) (rest : Forest) → CallsInBodies rest → CallsInBodies (default_constructor b rest)
default_calls true rest r = r
default_calls false rest r = (tt, inl (tt, tt), r)

mutual
  member_calls : (m : d.Member) (rest : Forest) → IsShapedMember m → CallsInBodies rest → CallsInBodies (member_labels m rest)
  member_calls (d.Field mods ty ds) rest h r =
      (tt, inl (none_last (type_labels ty (each (field_labels mods) ds none)) (types ty (each (field_labels mods) ds none) (all_of (field_labels mods) (field_calls mods) ds none tt))), r)
  member_calls (d.Method mods gives name params thrown body) rest h r =
      let own = if_some block_labels body none in let behind = each type_name thrown own in (
        tt,
        inl (none_last (result_labels gives (each param_labels params behind)) (result_calls gives (each param_labels params behind) (all_of param_labels (param_goes HasNoCall none_goes) params behind
            (all_of type_name (names kind.Type place.Other) thrown own
            (some_goes HasNoCall none_goes IsShapedBlock block_labels block_calls body none h.3 tt))))),
        r,
      )
  member_calls (d.Constructor mods name params thrown body) rest h r =
      let own = block_labels body none in let behind = each type_name thrown own in (
        tt,
        inl (implicit_last (calls_first body) (each param_labels params behind) (all_goes CallsInLast last_goes param_labels (param_goes CallsInLast last_goes) params behind
            (all_goes CallsInLast last_goes type_name (name_goes CallsInLast last_goes kind.Type place.Other) thrown own (constructor_body body h.2)))),
        r,
      )
  member_calls (d.Init is_static body) rest h r = (tt, inl (none_last (block_labels body none) (block_calls body none h tt)), r)
  member_calls (d.Nested decl) rest h r = decl_calls true decl rest h r

  members_call : (m : d.Members) (rest : Forest) → AreShapedMembers m → CallsInBodies rest → CallsInBodies (members_labels m rest)
  members_call d.no_members rest h r = r
  members_call (d.more_members m all) rest h r = member_calls m (members_labels all rest) h.0 (members_call all rest h.1 r)

  decl_calls : (b : Bool) (t : d.TypeDecl) (rest : Forest) → IsShapedDecl t → CallsInBodies rest → CallsInBodies (decl_labels b t rest)
  decl_calls b (d.Class mods name above faces body) rest h r =
      let inside = default_constructor (has_constructor body) (members_labels body none) in
      let below = each (name_labels kind.Type place.Superinterface) faces (node is.Body inside none) in (
        tt,
        inr (any_goes CallsInBodies bodies_goes (name_labels kind.Type place.Superclass) (name_goes CallsInBodies bodies_goes kind.Type place.Superclass) above below
            (all_goes CallsInBodies bodies_goes (name_labels kind.Type place.Superinterface) (name_goes CallsInBodies bodies_goes kind.Type place.Superinterface) faces (node is.Body inside none)
            (tt, inr (default_calls (has_constructor body) (members_labels body none) (members_call body none h.2 tt)), tt))),
        r,
      )
  decl_calls b (d.Interface mods name faces body) rest h r = (
    tt,
    inr (all_goes CallsInBodies bodies_goes (name_labels kind.Type place.Superinterface) (name_goes CallsInBodies bodies_goes kind.Type place.Superinterface) faces
        (node is.Body (members_labels body none) none) (tt, inr (members_call body none h.1 tt), tt)),
    r,
  )
  decl_calls b d.Empty rest h r = (tt, inl tt, r)

-- ---- units

package_calls : (p : PackageDecl) (rest : Forest) → CallsInBodies rest → CallsInBodies (package_labels p rest)
package_calls p rest r = (tt, inl (none_last (name_labels kind.Package place.Other p.name none) (names kind.Package place.Other p.name none tt)), r)

import_calls : (i : Import) (rest : Forest) → CallsInBodies rest → CallsInBodies (import_labels i rest)
import_calls (import.Single n) rest r = (tt, inl (none_last (type_name n none) (names kind.Type place.Other n none tt)), r)
import_calls (import.OnDemand n) rest r = (tt, inl (none_last (name_labels kind.PackageOrType place.Other n none) (names kind.PackageOrType place.Other n none tt)), r)
import_calls (import.StaticSingle n member) rest r = (tt, inl (none_last (type_name n none) (names kind.Type place.Other n none tt)), r)

unit_calls : (u : d.CompilationUnit) (rest : Forest) → IsShapedUnit u → CallsInBodies rest → CallsInBodies (unit_labels u rest)
unit_calls (d.UnitOf package_decl imports types) rest h r = let own = each (decl_labels false) types none in (
  tt,
  inr (any_goes CallsInBodies bodies_goes package_labels package_calls package_decl (each import_labels imports own)
      (all_goes CallsInBodies bodies_goes import_labels import_calls imports own
      (each_goes CallsInBodies bodies_goes IsShapedDecl (decl_labels false) (decl_calls false) types none h.2 tt))),
  r,
)

pub units_call : (units : List declared_unit.Unit) → AllByRecursion IsShaped units → CallsInBodies (each (λ u. unit_labels (d.plain_unit u)) units none)
units_call units h = each_goes CallsInBodies bodies_goes IsShaped (λ u. unit_labels (d.plain_unit u)) (λ u. unit_calls (d.plain_unit u)) units none h tt
