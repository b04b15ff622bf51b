-- The labels of declarations and units, each before the rest (JLS 7, 8, 9).
use Rattle.std.specs.Prelude.{Bool, true, false, ◌||◌, List, [], ◌∷◌, Option, Some, None, is_some, if◌then◌else◌}
use Rattle.jr_base.specs.declared.text.Text.{Text}
use Rattle.jr_tree.specs.declared.tree.Modifier.{Modifier}
use Rattle.jr_tree.specs.declared.tree.Modifier.TheVariants as m
use Rattle.jr_tree.specs.declared.tree.ResultType.{ResultType}
use Rattle.jr_tree.specs.declared.tree.ResultType.TheVariants as outcome
use Rattle.jr_tree.specs.declared.tree.PackageDecl.{PackageDecl}
use Rattle.jr_tree.specs.declared.tree.Import.{Import}
use Rattle.jr_tree.specs.declared.tree.Import.TheVariants as import
use Rattle.jr_tree.specs.declared.tree.Unit as declared_unit
use Rattle.jr_tree.specs.Mirror.Stmts as s
use Rattle.jr_tree.specs.Mirror.Decls as d
use Rattle.jr_tree.specs.declared.label.Label.TheVariants as is
use Rattle.jr_tree.specs.declared.label.ImportKind.TheVariants as importing
use Rattle.jr_tree.specs.declared.label.NameKind.TheVariants as kind
use Rattle.jr_tree.specs.declared.label.NamePlace.TheVariants as place
use Rattle.jr_tree.specs.declared.label.Modifiers.{Modifiers}
use Rattle.jr_tree.specs.Forest.{Forest, none, more, node, leaf, if_some, each}
use Rattle.jr_tree.specs.Exprs.{name_labels, type_name, type_labels, init_labels}
use Rattle.jr_tree.specs.Stmts.{param_labels, block_labels, calls_first}

-- ---- modifiers

abbrev pub with_modifier : Modifier → Modifiers → Modifiers
with_modifier m.Public all = record all { is_public = true }
with_modifier m.Protected all = record all { is_protected = true }
with_modifier m.Private all = record all { is_private = true }
with_modifier m.Abstract all = record all { is_abstract = true }
with_modifier m.Static all = record all { is_static = true }
with_modifier m.Final all = record all { is_final = true }
with_modifier m.Native all = record all { is_native = true }

abbrev pub modifiers_of : List Modifier → Modifiers
modifiers_of [] = record { is_public = false; is_protected = false; is_private = false; is_abstract = false; is_static = false; is_final = false; is_native = false }
modifiers_of (m ∷ all) = with_modifier m (modifiers_of all)

-- ---- members

abbrev pub field_labels : List Modifier → s.Declarator → Forest → Forest
field_labels mods (s.DeclaratorOf name dims init) rest = more (is.Field (modifiers_of mods) dims) name (if_some init_labels init none) rest

abbrev pub is_void : ResultType → Bool
is_void outcome.Void = true
is_void (outcome.Of ty) = false

abbrev pub result_labels : ResultType → Forest → Forest
result_labels outcome.Void rest = rest
result_labels (outcome.Of ty) rest = type_labels ty rest

-- the call of super() that a constructor begins with where none is written (JLS 8.8.7)
abbrev pub implicit_call : Bool → Forest → Forest
implicit_call is_written rest = if is_written then rest else leaf is.ImplicitCall rest

abbrev pub is_constructor : d.Member → Bool
is_constructor (d.Constructor mods name params thrown body) = true
is_constructor _ = false

abbrev pub has_constructor : d.Members → Bool
has_constructor d.no_members = false
has_constructor (d.more_members m all) = is_constructor m || has_constructor all

-- the constructor of a class in which none is written (JLS 8.8.9)
abbrev pub default_constructor : Bool → Forest → Forest
default_constructor is_written rest = if is_written then rest else node is.DefaultConstructor (leaf is.ImplicitCall none) rest

abbrev mutual
  pub member_labels : d.Member → Forest → Forest
  member_labels (d.Field mods ty ds) rest = node (is.Fields (modifiers_of mods)) (type_labels ty (each (field_labels mods) ds none)) rest
  member_labels (d.Method mods gives name params thrown body) rest =
      more (is.Method (modifiers_of mods) (is_void gives) (is_some body)) name
      (result_labels gives (each param_labels params (each type_name thrown (if_some block_labels body none)))) rest
  member_labels (d.Constructor mods name params thrown body) rest =
      more (is.Constructor (modifiers_of mods)) name
      (implicit_call (calls_first body) (each param_labels params (each type_name thrown (block_labels body none)))) rest
  member_labels (d.Init is_static body) rest = node (is.Initializer is_static) (block_labels body none) rest
  member_labels (d.Nested decl) rest = decl_labels true decl rest

  pub members_labels : d.Members → Forest → Forest
  members_labels d.no_members rest = rest
  members_labels (d.more_members m all) rest = member_labels m (members_labels all rest)

  pub decl_labels : Bool → d.TypeDecl → Forest → Forest
  decl_labels is_member (d.Class mods name parent faces body) rest =
      more (is.Class (modifiers_of mods) is_member) name
      (if_some (name_labels kind.Type place.Superclass) parent (each (name_labels kind.Type place.Superinterface) faces
      (node is.Body (default_constructor (has_constructor body) (members_labels body none)) none))) rest
  decl_labels is_member (d.Interface mods name faces body) rest =
      more (is.Interface (modifiers_of mods) is_member) name
      (each (name_labels kind.Type place.Superinterface) faces (node is.Body (members_labels body none) none)) rest
  decl_labels is_member d.Empty rest = leaf (is.EmptyDecl is_member) rest

-- ---- units (JLS 7.3)

abbrev pub package_labels : PackageDecl → Forest → Forest
package_labels p rest = node is.Package (name_labels kind.Package place.Other p.name none) rest

abbrev pub import_labels : Import → Forest → Forest
import_labels (import.Single n) rest = node (is.Import importing.Single) (type_name n none) rest
import_labels (import.OnDemand n) rest = node (is.Import importing.OnDemand) (name_labels kind.PackageOrType place.Other n none) rest
import_labels (import.StaticSingle n member) rest = more (is.Import importing.StaticSingle) member (type_name n none) rest

abbrev pub unit_labels : d.CompilationUnit → Forest → Forest
unit_labels (d.UnitOf package_decl imports types) rest =
    node is.Unit (if_some package_labels package_decl (each import_labels imports (each (decl_labels false) types none))) rest

-- the labels of a program of these units
abbrev pub program_labels : List declared_unit.Unit → Forest
program_labels units = node is.Program (each (λ u. unit_labels (d.plain_unit u)) units none) none
