-- The labels of declarations, units and programs stand for their nodes.
use Rattle.std.proofs.Common.{◌≡◌, List, [], ◌∷◌, ◌++◌, refl}
use Rattle.std.specs.Prelude.{Bool, true, false, if◌then◌else◌}
use Rattle.std.specs.List.{AllByRecursion}
use Rattle.jr_base.specs.declared.text.Text.{Text}
use Rattle.jr_tree.specs.declared.tree.Name.{Name}
use Rattle.jr_tree.specs.declared.tree.Modifier.{Modifier}
use Rattle.jr_tree.specs.declared.tree.ResultType.{ResultType}
use Rattle.jr_tree.specs.declared.tree.ResultType.TheVariants as outcome
use Rattle.jr_tree.specs.declared.tree.PackageDecl.{PackageDecl}
use Rattle.jr_tree.specs.declared.tree.Import.{Import}
use Rattle.jr_tree.specs.declared.tree.Import.TheVariants as import
use Rattle.jr_tree.specs.declared.tree.Unit as declared_unit
use Rattle.jr_tree.specs.Shape.{IsName, IsShapedDeclarator, IsShapedInit, IsShapedParam, IsShapedBlock, IsShapedResult, IsShapedDecl, IsShapedMember, AreShapedMembers, IsShapedPackage, IsShapedImport, IsShapedUnit, IsShaped}
use Rattle.jr_tree.specs.Nodes as n
use Rattle.jr_tree.specs.Mirror.Stmts as s
use Rattle.jr_tree.specs.Mirror.Decls as d
use Rattle.jr_tree.specs.declared.label.Label.{Label}
use Rattle.jr_tree.specs.declared.label.NameKind.TheVariants as kind
use Rattle.jr_tree.specs.declared.label.NamePlace.{NamePlace}
use Rattle.jr_tree.specs.declared.label.NamePlace.TheVariants as place
use Rattle.jr_tree.specs.Labels.{name_nodes, nodes_of}
use Rattle.jr_tree.specs.Forest.{Forest, none, more, if_some, each}
use Rattle.jr_tree.specs.Exprs.{name_labels, type_name, init_labels}
use Rattle.jr_tree.specs.Stmts.{param_labels, block_labels, calls_first}
use Rattle.jr_tree.specs.Decls.{field_labels, result_labels, implicit_call, default_constructor, has_constructor, member_labels, members_labels, decl_labels, package_labels, import_labels, unit_labels, program_labels}
use Rattle.jr_node_rows.proofs.Counting.{Counts, nothing, join, row, row_none, row_two, of_some, of_each, name_counts}
use Rattle.jr_node_rows.proofs.CountedExprs.{type_name_counts, type_counts, init_counts}
use Rattle.jr_node_rows.proofs.CountedStmts.{param_counts, variables_count, block_counts, constructor_body_counts}

-- ---- parts of members

field_counts : (mods : List Modifier) (v : s.Declarator) (rest : Forest) → IsShapedDeclarator v → Counts (field_labels mods v rest) (n.declarator_nodes v) rest
field_counts mods (s.DeclaratorOf name dims init) rest h = row _ _ _ _ _ _ refl (of_some IsShapedInit init_labels n.init_nodes init_counts init none h)

result_counts : (g : ResultType) (rest : Forest) → IsShapedResult g → Counts (result_labels g rest) (n.result_nodes g) rest
result_counts outcome.Void rest h = nothing rest
result_counts (outcome.Of ty) rest h = type_counts ty rest h

-- what is not written stands for no node
implicit_counts : (b : Bool) (all rest : Forest) (ns : n.Nodes) → Counts all ns rest → Counts (implicit_call b all) ns rest
implicit_counts true all rest ns h = h
implicit_counts false all rest ns h = join _ _ _ _ _ (row_none _ _ _ all [] refl (nothing none)) h

default_counts : (b : Bool) (all rest : Forest) (ns : n.Nodes) → Counts all ns rest → Counts (default_constructor b all) ns rest
default_counts true all rest ns h = h
default_counts false all rest ns h = join _ _ _ _ _ (row_none _ _ _ all [] refl (row_none _ _ _ none [] refl (nothing none))) h

-- a type that is a member is a member too
abbrev pub member_of : Bool → d.TypeDecl → n.Nodes
member_of true t = n.OfMember (d.Nested t) ∷ []
member_of false t = []

decl_row : (b : Bool) (t : d.TypeDecl) (l : Label) (name : Text) (kids rest : Forest) (ns : n.Nodes) → nodes_of l ≡ (if b then 2 else 1) → Counts kids ns none
    → Counts (more l name kids rest) (member_of b t ++ (n.OfDecl t ∷ ns)) rest
decl_row true t l name kids rest ns e h = row_two _ _ _ _ _ _ _ e h
decl_row false t l name kids rest ns e h = row _ _ _ _ _ _ e h

names_count : (at : NamePlace) → name_nodes at ≡ 1 → (all : List Name) (rest : Forest) → AllByRecursion IsName all
    → Counts (each (name_labels kind.Type at) all rest) (n.each n.name_nodes all) rest
names_count at e all rest h = of_each IsName (name_labels kind.Type at) n.name_nodes (λ name rest h. name_counts kind.Type at name rest (n.name_nodes name) e h) all rest h

-- ---- declarations

mutual
  pub member_counts : (m : d.Member) (rest : Forest) → IsShapedMember m → Counts (member_labels m rest) (n.member_nodes m) rest
  member_counts (d.Field mods ty vs) rest h = row _ _ _ _ _ _ refl (variables_count (field_labels mods) (field_counts mods) ty vs h)
  member_counts (d.Method mods gives name params thrown body) rest h =
      row _ _ _ _ _ _ refl (join _ _ _ _ _ (join _ _ _ _ _ (join _ _ _ _ _
      (result_counts gives (each param_labels params (each type_name thrown (if_some block_labels body none))) h.0)
      (of_each IsShapedParam param_labels n.param_nodes param_counts params (each type_name thrown (if_some block_labels body none)) h.1))
      (names_count place.Other refl thrown (if_some block_labels body none) h.2))
      (of_some IsShapedBlock block_labels n.block_nodes block_counts body none h.3))
  member_counts (d.Constructor mods name params thrown body) rest h =
      row _ _ _ _ _ _ refl (implicit_counts (calls_first body) _ _ _ (join _ _ _ _ _ (join _ _ _ _ _
      (of_each IsShapedParam param_labels n.param_nodes param_counts params (each type_name thrown (block_labels body none)) h.0)
      (names_count place.Other refl thrown (block_labels body none) h.1))
      (constructor_body_counts body none h.2)))
  member_counts (d.Init is_static body) rest h = row _ _ _ _ _ _ refl (block_counts body none h)
  member_counts (d.Nested decl) rest h = nested_counts true decl rest h

  pub members_count : (all : d.Members) (rest : Forest) → AreShapedMembers all → Counts (members_labels all rest) (n.members_nodes all) rest
  members_count d.no_members rest h = nothing rest
  members_count (d.more_members m all) rest h = join _ _ _ _ _ (member_counts m (members_labels all rest) h.0) (members_count all rest h.1)

  pub nested_counts : (b : Bool) (t : d.TypeDecl) (rest : Forest) → IsShapedDecl t → Counts (decl_labels b t rest) (member_of b t ++ n.decl_nodes t) rest
  nested_counts b (d.Class mods name parent faces body) rest h =
      decl_row b _ _ _ _ _ _ refl (join _ _ _ _ _ (join _ _ _ _ _
      (of_some IsName (name_labels kind.Type place.Superclass) n.name_nodes (λ name rest h. name_counts kind.Type place.Superclass name rest (n.name_nodes name) refl h) parent _ h.0)
      (names_count place.Superinterface refl faces _ h.1))
      (row_none _ _ _ none _ refl (default_counts (has_constructor body) _ _ _ (members_count body none h.2))))
  nested_counts b (d.Interface mods name faces body) rest h =
      decl_row b _ _ _ _ _ _ refl (join _ _ _ _ _ (names_count place.Superinterface refl faces _ h.0) (row_none _ _ _ none _ refl (members_count body none h.1)))
  nested_counts b d.Empty rest h = decl_row b _ _ _ _ _ _ refl (nothing none)

pub decl_counts : (t : d.TypeDecl) (rest : Forest) → IsShapedDecl t → Counts (decl_labels false t rest) (n.decl_nodes t) rest
decl_counts t rest h = nested_counts false t rest h

-- ---- units

package_counts : (p : PackageDecl) (rest : Forest) → IsShapedPackage p → Counts (package_labels p rest) (n.package_nodes p) rest
package_counts p rest h = row _ _ _ _ _ _ refl (name_counts kind.Package place.Other p.name none (n.name_nodes p.name) refl h)

import_counts : (i : Import) (rest : Forest) → IsShapedImport i → Counts (import_labels i rest) (n.import_nodes i) rest
import_counts (import.Single name) rest h = row _ _ _ _ _ _ refl (type_name_counts name none h)
import_counts (import.OnDemand name) rest h = row _ _ _ _ _ _ refl (name_counts kind.PackageOrType place.Other name none (n.name_nodes name) refl h)
import_counts (import.StaticSingle name member) rest h = row _ _ _ _ _ _ refl (type_name_counts name none h)

pub unit_counts : (u : d.CompilationUnit) (rest : Forest) → IsShapedUnit u → Counts (unit_labels u rest) (n.unit_nodes u) rest
unit_counts (d.UnitOf package_decl imports types) rest h =
    row _ _ _ _ _ _ refl (join _ _ _ _ _ (join _ _ _ _ _
    (of_some IsShapedPackage package_labels n.package_nodes package_counts package_decl (each import_labels imports (each (decl_labels false) types none)) h.0)
    (of_each IsShapedImport import_labels n.import_nodes import_counts imports (each (decl_labels false) types none) h.1))
    (of_each IsShapedDecl (decl_labels false) n.decl_nodes decl_counts types none h.2))

pub program_counts : (units : List declared_unit.Unit) → AllByRecursion IsShaped units → Counts (program_labels units) (n.each n.nodes units) none
program_counts units h =
    row_none _ _ _ _ _ refl (of_each IsShaped (λ u. unit_labels (d.plain_unit u)) n.nodes (λ u rest h. unit_counts (d.plain_unit u) rest h) units none h)
