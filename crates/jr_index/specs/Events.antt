-- A tree as one flat list: each label opens, and closes behind its children, and its tokens stand where they are written. What the code writes, in its order.
use Rattle.std.specs.Prelude.{ℕ, zero, suc, Bool, true, false, not, ◌||◌, List, [], ◌∷◌, ◌++◌, length, Option, Some, None, is_some, if◌then◌else◌, nat_lt, slice_index_or}
use Rattle.jr_base.specs.declared.text.Text.{Text}
use Rattle.jr_tree.specs.declared.tree.Name.{Name}
use Rattle.jr_tree.specs.declared.tree.Base.{Base}
use Rattle.jr_tree.specs.declared.tree.Base.TheVariants as base
use Rattle.jr_tree.specs.declared.tree.TypeUse.{TypeUse}
use Rattle.jr_tree.specs.declared.tree.Param.{Param}
use Rattle.jr_tree.specs.declared.tree.Modifier.{Modifier}
use Rattle.jr_tree.specs.declared.tree.ResultType.{ResultType}
use Rattle.jr_tree.specs.declared.tree.ResultType.TheVariants as outcome
use Rattle.jr_tree.specs.declared.tree.PackageDecl.{PackageDecl}
use Rattle.jr_tree.specs.declared.tree.Import.{Import}
use Rattle.jr_tree.specs.declared.tree.Import.TheVariants as import
use Rattle.jr_tree.specs.declared.tree.Unit as declared_unit
use Rattle.jr_tree.specs.Mirror.Exprs as x
use Rattle.jr_tree.specs.Mirror.Stmts as s
use Rattle.jr_tree.specs.Mirror.Decls as d
use Rattle.jr_tree.specs.declared.label.Label.{Label}
use Rattle.jr_tree.specs.declared.label.Label.TheVariants as is
use Rattle.jr_tree.specs.declared.label.ImportKind.TheVariants as importing
use Rattle.jr_tree.specs.declared.label.NameKind.{NameKind}
use Rattle.jr_tree.specs.declared.label.NameKind.TheVariants as kind
use Rattle.jr_tree.specs.declared.label.NamePlace.{NamePlace}
use Rattle.jr_tree.specs.declared.label.NamePlace.TheVariants as place
use Rattle.jr_tree.specs.declared.label.ReceiverKind.TheVariants as on
use Rattle.jr_tree.specs.Exprs.{left_kind, primitive_of, count}
use Rattle.jr_tree.specs.Stmts.{calls_first}
use Rattle.jr_tree.specs.Decls.{modifiers_of, is_void, has_constructor}

pub data Event : Type 0 where
  -- a label opens, and closes behind all that stands below it
  Open : Label → Text → Event
  Close : Event
  -- so many tokens
  Pass : ℕ → Event
  -- the token of the innermost label that is open: the next one, or the one before
  Own : Event
  OwnLast : Event
  -- the name of a type or constructor, its label's token
  Declare : Event
  -- a unit begins, below the program alone: its tokens are counted from its first
  Restart : Event

abbrev pub Events : Type 0
Events = List Event

-- a label with what stands below it, without identifier, and without children
abbrev pub named : Label → Text → Events → Events
named l name kids = Open l name ∷ kids ++ Close ∷ []

abbrev pub node : Label → Events → Events
node l kids = named l [] kids

abbrev pub leaf : Label → ℕ → Events
leaf l tokens = Open l [] ∷ Pass tokens ∷ Close ∷ []

-- pairs of brackets
abbrev pub brackets : ℕ → Events
brackets pairs = Pass pairs ∷ Pass pairs ∷ []

-- a token that may be there
abbrev pub if_there : Bool → Event
if_there is_there = Pass (if is_there then 1 else 0)

abbrev pub if_some : {A : Type 0} → (A → Events) → Option A → Events
if_some f None = []
if_some f (Some a) = f a

-- ---- names, from their last identifier back (JLS 6.2)

-- the label of the identifier with so many before it, in a name of so many
abbrev pub name_label : NameKind → NamePlace → ℕ → ℕ → Label
name_label meant at count i = if nat_lt (suc i) count then is.Name (left_kind meant) place.Qualifier (nat_lt 0 i) else is.Name meant at (nat_lt 0 i)

-- the first so many identifiers
abbrev pub opens : NameKind → NamePlace → List Text → ℕ → Events
opens meant at parts zero = []
opens meant at parts (suc i) = Open (name_label meant at (length parts) i) (slice_index_or parts i []) ∷ opens meant at parts i

-- so many identifiers, the first behind so many dots and the others behind one
abbrev pub closes : ℕ → ℕ → Events
closes dots zero = []
closes dots (suc n) = Pass dots ∷ Own ∷ Close ∷ closes 1 n

abbrev pub name_events : NameKind → NamePlace → Name → Events
name_events meant at name = opens meant at name.parts (length name.parts) ++ closes 0 (length name.parts)

abbrev pub type_name : Name → Events
type_name = name_events kind.Type place.Other

-- each behind a word or comma
abbrev pub names_events : NamePlace → List Name → Events
names_events at [] = []
names_events at (n ∷ ns) = Pass 1 ∷ name_events kind.Type at n ++ names_events at ns

-- ---- types

abbrev pub base_events : Base → Events
base_events (base.Primitive p) = Pass 1 ∷ []
base_events (base.Named name) = type_name name

abbrev pub type_events : TypeUse → Events
type_events ty = node (is.TypeUse (primitive_of ty.base) ty.dims) (base_events ty.base ++ brackets ty.dims)

abbrev pub param_events : Param → Events
param_events p = named (is.Parameter p.is_final p.dims) p.name (if_there p.is_final ∷ type_events p.ty ++ Own ∷ brackets p.dims)

-- the first behind so many commas, the others behind one
abbrev pub params_events : ℕ → List Param → Events
params_events commas [] = []
params_events commas (p ∷ ps) = Pass commas ∷ param_events p ++ params_events 1 ps

-- ---- expressions

abbrev pub this_events : Option Name → Events
this_events None = leaf (is.This false) 1
this_events (Some class) = node (is.This true) (type_name class ++ Pass 2 ∷ [])

abbrev pub call_label : x.AnyReceiver → Label
call_label x.no_receiver = is.Call on.Absent
call_label (x.a_receiver (x.Of object)) = is.Call on.Expression
call_label (x.a_receiver (x.OfName before)) = is.Call on.Name
call_label (x.a_receiver x.Super) = is.Call on.Super

abbrev mutual
  pub expr_events : x.Expr → Events
  expr_events (x.Assign target op value) = node (is.Assign op) (expr_events target ++ Pass 1 ∷ expr_events value)
  expr_events (x.Cond c a b) = node is.Conditional (expr_events c ++ Pass 1 ∷ expr_events a ++ Pass 1 ∷ expr_events b)
  expr_events (x.Binary left op right) = node (is.Binary op) (expr_events left ++ Pass 1 ∷ expr_events right)
  expr_events (x.IsA value ty) = node is.IsA (expr_events value ++ Pass 1 ∷ type_events ty)
  expr_events (x.Unary op value) = node (is.Unary op) (Pass 1 ∷ expr_events value)
  expr_events (x.Cast ty value) = node is.Cast (Pass 1 ∷ type_events ty ++ Pass 1 ∷ expr_events value)
  expr_events (x.PreStep op value) = node (is.PreStep op) (Pass 1 ∷ expr_events value)
  expr_events (x.PostStep value op) = node (is.PostStep op) (expr_events value ++ Pass 1 ∷ [])
  expr_events (x.Lit token) = leaf (is.Literal token) 1
  expr_events (x.This class) = this_events class
  expr_events (x.Paren inner) = node is.Paren (Pass 1 ∷ expr_events inner ++ Pass 1 ∷ [])
  expr_events (x.NameExpr name) = name_events kind.Variable place.Expression name
  expr_events (x.Select object name) = named is.Select name (expr_events object ++ Pass 1 ∷ Own ∷ [])
  expr_events (x.SuperSelect name) = named is.SuperSelect name (Pass 2 ∷ Own ∷ [])
  expr_events (x.Index array at) = node is.Index (expr_events array ++ Pass 1 ∷ expr_events at ++ Pass 1 ∷ [])
  expr_events (x.Call r name args) = Open (call_label r) name ∷ any_receiver_events r ++ Own ∷ (Pass 1 ∷ exprs_events 0 args ++ Pass 1 ∷ []) ++ Close ∷ []
  expr_events (x.New class args) = node is.New (Pass 1 ∷ type_name class ++ OwnLast ∷ (Pass 1 ∷ exprs_events 0 args ++ Pass 1 ∷ []))
  expr_events (x.NewArray base lengths extra list) =
      Open (is.NewArray (primitive_of base) (count lengths) extra) [] ∷ Pass 1 ∷ base_events base ++ lengths_events lengths ++ brackets extra ++ any_list_events list ++ Close ∷ []

  -- a receiver and its dot
  pub any_receiver_events : x.AnyReceiver → Events
  any_receiver_events x.no_receiver = []
  any_receiver_events (x.a_receiver r) = receiver_events r ++ Pass 1 ∷ []

  pub receiver_events : x.Receiver → Events
  receiver_events (x.Of object) = expr_events object
  receiver_events (x.OfName before) = name_events kind.Ambiguous place.Receiver before
  receiver_events x.Super = Pass 1 ∷ []

  -- the first behind so many commas, the others behind one
  pub exprs_events : ℕ → x.Exprs → Events
  exprs_events commas x.no_exprs = []
  exprs_events commas (x.more_exprs e all) = Pass commas ∷ expr_events e ++ exprs_events 1 all

  -- each in brackets
  pub lengths_events : x.Exprs → Events
  lengths_events x.no_exprs = []
  lengths_events (x.more_exprs e all) = Pass 1 ∷ expr_events e ++ Pass 1 ∷ [] ++ lengths_events all

  pub any_list_events : x.AnyList → Events
  any_list_events x.no_list = []
  any_list_events (x.a_list list) = list_events list

  pub list_events : x.InitList → Events
  list_events (x.ListOf all is_open_ended) = node is.List (Pass 1 ∷ inits_events 0 all ++ if_there is_open_ended ∷ Pass 1 ∷ [])

  pub init_events : x.Init → Events
  init_events (x.Value value) = node is.Value (expr_events value)
  init_events (x.Listed list) = list_events list

  pub inits_events : ℕ → x.Inits → Events
  inits_events commas x.no_inits = []
  inits_events commas (x.more_inits i all) = Pass commas ∷ init_events i ++ inits_events 1 all

-- arguments in parentheses
abbrev pub args_events : x.Exprs → Events
args_events all = Pass 1 ∷ exprs_events 0 all ++ Pass 1 ∷ []

-- an initializer and the `=` before it
abbrev pub any_init_events : Option x.Init → Events
any_init_events None = []
any_init_events (Some i) = Pass 1 ∷ init_events i

-- ---- parts of statements

abbrev pub local_events : Bool → s.Declarator → Events
local_events is_final (s.DeclaratorOf name dims init) = named (is.Local is_final dims) name (Own ∷ brackets dims ++ any_init_events init)

abbrev pub locals_events : ℕ → Bool → List s.Declarator → Events
locals_events commas is_final [] = []
locals_events commas is_final (v ∷ vs) = Pass commas ∷ local_events is_final v ++ locals_events 1 is_final vs

abbrev pub for_events : s.ForInit → Events
for_events (s.Locals is_final ty ds) = node is.ForLocals (if_there is_final ∷ type_events ty ++ locals_events 0 is_final ds)
for_events (s.Exprs es) = node is.ForExprs (exprs_events 0 es)

abbrev pub case_events : s.SwitchLabel → Events
case_events (s.Case value) = node is.Case (Pass 1 ∷ expr_events value ++ Pass 1 ∷ [])
case_events s.Default = leaf is.Default 2

abbrev pub cases_events : List s.SwitchLabel → Events
cases_events [] = []
cases_events (l ∷ ls) = case_events l ++ cases_events ls

-- ---- statements

-- a `break` or `continue`
abbrev pub jump_events : Label → Option Text → Events
jump_events jump None = leaf jump 2
jump_events jump (Some name) = named jump name (Pass 1 ∷ Own ∷ Pass 1 ∷ [])

abbrev pub has_block : s.AnyBlock → Bool
has_block s.no_block = false
has_block (s.a_block b) = true

abbrev mutual
  pub stmt_events : s.Stmt → Events
  stmt_events (s.Nest b) = node is.Nest (block_events b)
  stmt_events (s.Local is_final ty ds) = node is.Locals (if_there is_final ∷ type_events ty ++ locals_events 0 is_final ds ++ Pass 1 ∷ [])
  stmt_events s.Skip = leaf is.Skip 1
  stmt_events (s.Do body c) = node is.Do (Pass 1 ∷ stmt_events body ++ Pass 2 ∷ expr_events c ++ Pass 2 ∷ [])
  stmt_events (s.While c body) = node is.While (Pass 2 ∷ expr_events c ++ Pass 1 ∷ stmt_events body)
  stmt_events (s.If c a b) = node is.If (Pass 2 ∷ expr_events c ++ Pass 1 ∷ stmt_events a ++ any_stmt_events b)
  stmt_events (s.Eval value) = node is.Eval (expr_events value ++ Pass 1 ∷ [])
  stmt_events (s.For first c update body) =
      node (is.For (is_some first) (is_some c)) (Pass 2 ∷ if_some for_events first ++ Pass 1 ∷ if_some expr_events c ++ Pass 1 ∷ exprs_events 0 update ++ Pass 1 ∷ stmt_events body)
  stmt_events (s.Switch value gs) = node is.Switch (Pass 2 ∷ expr_events value ++ Pass 2 ∷ groups_events gs ++ Pass 1 ∷ [])
  stmt_events (s.Labeled label body) = named is.Labeled label (Own ∷ Pass 1 ∷ stmt_events body)
  stmt_events (s.Break label) = jump_events (is.Break (is_some label)) label
  stmt_events (s.Continue label) = jump_events (is.Continue (is_some label)) label
  stmt_events (s.Return value) = node is.Return (Pass 1 ∷ if_some expr_events value ++ Pass 1 ∷ [])
  stmt_events (s.Throw value) = node is.Throw (Pass 1 ∷ expr_events value ++ Pass 1 ∷ [])
  stmt_events (s.Try body cs last) = node (is.Try (has_block last)) (Pass 1 ∷ block_events body ++ catches_events cs ++ any_block_events last)
  stmt_events (s.CtorCall which args) = node (is.ConstructorCall which) (Own ∷ args_events args ++ Pass 1 ∷ [])

  pub any_stmt_events : s.AnyStmt → Events
  any_stmt_events s.no_stmt = []
  any_stmt_events (s.a_stmt b) = Pass 1 ∷ stmt_events b

  pub any_block_events : s.AnyBlock → Events
  any_block_events s.no_block = []
  any_block_events (s.a_block b) = Pass 1 ∷ block_events b

  pub block_events : s.Block → Events
  block_events (s.BlockOf all) = node is.Block (Pass 1 ∷ stmts_events all ++ Pass 1 ∷ [])

  pub stmts_events : s.Stmts → Events
  stmts_events s.no_stmts = []
  stmts_events (s.more_stmts a all) = stmt_events a ++ stmts_events all

  pub groups_events : s.Groups → Events
  groups_events s.no_groups = []
  groups_events (s.more_groups g all) = group_events g ++ groups_events all

  pub group_events : s.Group → Events
  group_events (s.GroupOf labels all) = node is.Group (cases_events labels ++ stmts_events all)

  pub catches_events : s.Catches → Events
  catches_events s.no_catches = []
  catches_events (s.more_catches c all) = catch_events c ++ catches_events all

  pub catch_events : s.Catch → Events
  catch_events (s.CatchOf p b) = node is.Catch (Pass 2 ∷ param_events p ++ Pass 1 ∷ block_events b)

-- ---- declarations

abbrev pub field_events : List Modifier → s.Declarator → Events
field_events mods (s.DeclaratorOf name dims init) = named (is.Field (modifiers_of mods) dims) name (Own ∷ brackets dims ++ any_init_events init)

abbrev pub fields_events : ℕ → List Modifier → List s.Declarator → Events
fields_events commas mods [] = []
fields_events commas mods (v ∷ vs) = Pass commas ∷ field_events mods v ++ fields_events 1 mods vs

abbrev pub result_events : ResultType → Events
result_events outcome.Void = Pass 1 ∷ []
result_events (outcome.Of ty) = type_events ty

abbrev pub implicit_call : Bool → Events
implicit_call is_written = if is_written then [] else Open is.ImplicitCall [] ∷ Close ∷ []

abbrev pub default_constructor : Bool → Events
default_constructor is_written = if is_written then [] else Open is.DefaultConstructor [] ∷ Open is.ImplicitCall [] ∷ Close ∷ Close ∷ []

-- the body of a method, or a semicolon
abbrev pub body_or_semicolon : Option s.Block → Events
body_or_semicolon None = Pass 1 ∷ []
body_or_semicolon (Some b) = block_events b

abbrev pub superclass_events : Option Name → Events
superclass_events None = []
superclass_events (Some n) = Pass 1 ∷ name_events kind.Type place.Superclass n

abbrev mutual
  pub member_events : d.Member → Events
  member_events (d.Field mods ty ds) = node (is.Fields (modifiers_of mods)) (Pass (length mods) ∷ type_events ty ++ fields_events 0 mods ds ++ Pass 1 ∷ [])
  member_events (d.Method mods gives name params thrown body) =
      named (is.Method (modifiers_of mods) (is_void gives) (is_some body)) name
      (Pass (length mods) ∷ result_events gives ++ Own ∷ Pass 1 ∷ params_events 0 params ++ Pass 1 ∷ names_events place.Other thrown ++ body_or_semicolon body)
  member_events (d.Constructor mods name params thrown body) =
      named (is.Constructor (modifiers_of mods)) name
      (Pass (length mods) ∷ Declare ∷ implicit_call (calls_first body) ++ Pass 1 ∷ params_events 0 params ++ Pass 1 ∷ names_events place.Other thrown ++ block_events body)
  member_events (d.Init is_static body) = node (is.Initializer is_static) (if_there is_static ∷ block_events body)
  member_events (d.Nested decl) = decl_events true decl

  pub members_events : d.Members → Events
  members_events d.no_members = []
  members_events (d.more_members m all) = member_events m ++ members_events all

  pub decl_events : Bool → d.TypeDecl → Events
  decl_events is_member (d.Class mods name parent faces body) =
      named (is.Class (modifiers_of mods) is_member) name
      (Pass (length mods) ∷ Pass 1 ∷ Declare ∷ superclass_events parent ++ names_events place.Superinterface faces ++ node is.Body (Pass 1 ∷ default_constructor (not true || has_constructor body) ++ members_events body ++ Pass 1 ∷ []))
  decl_events is_member (d.Interface mods name faces body) =
      named (is.Interface (modifiers_of mods) is_member) name
      (Pass (length mods) ∷ Pass 1 ∷ Declare ∷ names_events place.Superinterface faces ++ node is.Body (Pass 1 ∷ default_constructor (not false || has_constructor body) ++ members_events body ++ Pass 1 ∷ []))
  decl_events is_member d.Empty = leaf (is.EmptyDecl is_member) 1

-- the body of a class or interface
abbrev pub body_events : Bool → d.Members → Events
body_events is_class all = node is.Body (Pass 1 ∷ default_constructor (not is_class || has_constructor all) ++ members_events all ++ Pass 1 ∷ [])

-- ---- units and programs (JLS 7.3)

abbrev pub package_events : PackageDecl → Events
package_events p = node is.Package (Pass 1 ∷ name_events kind.Package place.Other p.name ++ Pass 1 ∷ [])

abbrev pub import_events : Import → Events
import_events (import.Single n) = node (is.Import importing.Single) (Pass 1 ∷ type_name n ++ Pass 1 ∷ [])
import_events (import.OnDemand n) = node (is.Import importing.OnDemand) (Pass 1 ∷ name_events kind.PackageOrType place.Other n ++ Pass 3 ∷ [])
import_events (import.StaticSingle n member) = named (is.Import importing.StaticSingle) member (Pass 2 ∷ type_name n ++ Pass 1 ∷ Own ∷ Pass 1 ∷ [])

abbrev pub imports_events : List Import → Events
imports_events [] = []
imports_events (i ∷ all) = import_events i ++ imports_events all

abbrev pub decls_events : List d.TypeDecl → Events
decls_events [] = []
decls_events (t ∷ ts) = decl_events false t ++ decls_events ts

abbrev pub unit_events : d.CompilationUnit → Events
unit_events (d.UnitOf package_decl imports types) = Restart ∷ node is.Unit (if_some package_events package_decl ++ imports_events imports ++ decls_events types)

abbrev pub units_events : List declared_unit.Unit → Events
units_events [] = []
units_events (u ∷ us) = unit_events (d.plain_unit u) ++ units_events us

abbrev pub program_events : List declared_unit.Unit → Events
program_events units = node is.Program (units_events units ++ Restart ∷ [])
