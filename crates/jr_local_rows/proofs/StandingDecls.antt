-- In shaped declarations and units locals and parameters stand where they may.
use Rattle.std.proofs.Common.{List, [], ◌∷◌}
use Rattle.std.specs.Prelude.{Bool, true, false, Option, Some, None, is_some}
use Rattle.std.specs.List.{AllByRecursion}
use Rattle.jr_tree.specs.declared.tree.Param.{Param}
use Rattle.jr_tree.specs.declared.tree.Modifier.{Modifier}
use Rattle.jr_tree.specs.declared.tree.ResultType.{ResultType}
use Rattle.jr_tree.specs.declared.tree.ResultType.TheVariants as outcome
use Rattle.jr_tree.specs.declared.tree.PackageDecl.{PackageDecl}
use Rattle.jr_tree.specs.declared.tree.Import.{Import}
use Rattle.jr_tree.specs.declared.tree.Import.TheVariants as import
use Rattle.jr_tree.specs.declared.tree.Unit as declared_unit
use Rattle.jr_tree.specs.Shape.{IsShapedBlock, IsShapedDecl, IsShapedMember, AreShapedMembers, IsShapedUnit, IsShaped}
use Rattle.jr_tree.specs.Mirror.Stmts as s
use Rattle.jr_tree.specs.Mirror.Decls as d
use Rattle.jr_tree.specs.declared.label.Label.{Label}
use Rattle.jr_tree.specs.declared.label.Label.TheVariants as is
use Rattle.jr_tree.specs.declared.label.ImportKind.TheVariants as importing
use Rattle.jr_tree.specs.declared.label.NameKind.TheVariants as kind
use Rattle.jr_tree.specs.declared.label.NamePlace.TheVariants as place
use Rattle.jr_tree.specs.Forest.{Forest, none, node, if_some, each}
use Rattle.jr_tree.specs.Exprs.{name_labels, type_name, init_labels}
use Rattle.jr_tree.specs.Stmts.{param_labels, block_labels, calls_first}
use Rattle.jr_tree.specs.Decls.{modifiers_of, field_labels, is_void, result_labels, implicit_call, has_constructor, default_constructor, member_labels, members_labels, decl_labels, package_labels, import_labels, unit_labels}
use Rattle.jr_local_rows.proofs.Standing.{ParametersFirst, Placed, some_placed, any_placed, each_placed, all_placed, name_placed, names_first}
use Rattle.jr_local_rows.proofs.StandingExprs.{type_name_placed, type_placed, init_placed}
use Rattle.jr_local_rows.proofs.StandingStmts.{param_placed, block_placed, block_first, constructor_body_placed}

-- ---- parameters before a block

result_first : (g : ResultType) (rest : Forest) → ParametersFirst rest → ParametersFirst (result_labels g rest)
result_first outcome.Void rest r = r
result_first (outcome.Of ty) rest r = (tt, r)

params_first : (all : List Param) (rest : Forest) → ParametersFirst rest → ParametersFirst (each param_labels all rest)
params_first [] rest r = r
params_first (p ∷ all) rest r = (tt, params_first all rest r)

implicit_first : (b : Bool) (rest : Forest) → ParametersFirst rest → ParametersFirst (implicit_call b rest)
implicit_first true rest r = r
implicit_first false rest r = (tt, r)

body_first : (b : Option s.Block) → ParametersFirst (if_some block_labels b none)
body_first None = tt
body_first (Some b) = block_first b

-- ---- parts of declarations

field_placed : (m : List Modifier) (over : Label) (d : s.Declarator) (rest : Forest) → Placed over rest → Placed over (field_labels m d rest)
field_placed m over (s.DeclaratorOf name dims init) rest r =
    (tt, tt, any_placed init_labels (is.Field (modifiers_of m) dims) (λ i rest r. init_placed i (is.Field (modifiers_of m) dims) rest r) init none tt, r)

result_placed : (over : Label) (g : ResultType) (rest : Forest) → Placed over rest → Placed over (result_labels g rest)
result_placed over outcome.Void rest r = r
result_placed over (outcome.Of ty) rest r = type_placed ty over rest r

implicit_placed : (b : Bool) (over : Label) (rest : Forest) → Placed over rest → Placed over (implicit_call b rest)
implicit_placed true over rest r = r
implicit_placed false over rest r = (tt, tt, tt, r)

default_placed : (b : Bool) (rest : Forest) → Placed is.Body rest → Placed is.Body (default_constructor b rest)
default_placed true rest r = r
default_placed false rest r = (tt, tt, (tt, tt, tt, tt), r)

-- ---- declarations

mutual
  member_placed : (m : d.Member) (rest : Forest) → IsShapedMember m → Placed is.Body rest → Placed is.Body (member_labels m rest)
  member_placed (d.Field mods ty ds) rest h r = let l = is.Fields (modifiers_of mods) in
      (tt, tt, type_placed ty l (each (field_labels mods) ds none) (all_placed (field_labels mods) l (field_placed mods l) ds none tt), r)
  member_placed (d.Method mods gives name params thrown body) rest h r =
      let l = is.Method (modifiers_of mods) (is_void gives) (is_some body) in let own = if_some block_labels body none in let behind = each type_name thrown own in (
        tt,
        result_first gives (each param_labels params behind) (params_first params behind (names_first kind.Type place.Other thrown own (body_first body))),
        result_placed l gives (each param_labels params behind) (all_placed param_labels l (param_placed l tt) params behind
            (all_placed type_name l (λ n rest r. type_name_placed n l rest r) thrown own
            (some_placed IsShapedBlock block_labels l (λ b rest h r. block_placed b l rest h r) body none h.3 tt))),
        r,
      )
  member_placed (d.Constructor mods name params thrown body) rest h r =
      let l = is.Constructor (modifiers_of mods) in let own = block_labels body none in let behind = each type_name thrown own in (
        tt,
        implicit_first (calls_first body) (each param_labels params behind) (params_first params behind (names_first kind.Type place.Other thrown own (block_first body))),
        implicit_placed (calls_first body) l (each param_labels params behind) (all_placed param_labels l (param_placed l tt) params behind
            (all_placed type_name l (λ n rest r. type_name_placed n l rest r) thrown own (constructor_body_placed body l none h.2 tt))),
        r,
      )
  member_placed (d.Init is_static body) rest h r = (tt, tt, block_placed body (is.Initializer is_static) none h tt, r)
  member_placed (d.Nested decl) rest h r = decl_placed true decl is.Body rest h r

  members_placed : (m : d.Members) (rest : Forest) → AreShapedMembers m → Placed is.Body rest → Placed is.Body (members_labels m rest)
  members_placed d.no_members rest h r = r
  members_placed (d.more_members m all) rest h r = member_placed m (members_labels all rest) h.0 (members_placed all rest h.1 r)

  decl_placed : (b : Bool) (t : d.TypeDecl) (over : Label) (rest : Forest) → IsShapedDecl t → Placed over rest → Placed over (decl_labels b t rest)
  decl_placed b (d.Class mods name above faces body) over rest h r =
      let l = is.Class (modifiers_of mods) b in
      let inside = default_constructor (has_constructor body) (members_labels body none) in
      let below = each (name_labels kind.Type place.Superinterface) faces (node is.Body inside none) in (
        tt,
        tt,
        any_placed (name_labels kind.Type place.Superclass) l (λ n rest r. name_placed kind.Type place.Superclass n l rest r) above below
            (all_placed (name_labels kind.Type place.Superinterface) l (λ n rest r. name_placed kind.Type place.Superinterface n l rest r) faces (node is.Body inside none)
            (tt, tt, default_placed (has_constructor body) (members_labels body none) (members_placed body none h.2 tt), tt)),
        r,
      )
  decl_placed b (d.Interface mods name faces body) over rest h r =
      let l = is.Interface (modifiers_of mods) b in (
        tt,
        tt,
        all_placed (name_labels kind.Type place.Superinterface) l (λ n rest r. name_placed kind.Type place.Superinterface n l rest r) faces (node is.Body (members_labels body none) none)
            (tt, tt, members_placed body none h.1 tt, tt),
        r,
      )
  decl_placed b d.Empty over rest h r = (tt, tt, tt, r)

-- ---- units

package_placed : (over : Label) (p : PackageDecl) (rest : Forest) → Placed over rest → Placed over (package_labels p rest)
package_placed over p rest r = (tt, tt, name_placed kind.Package place.Other p.name is.Package none tt, r)

import_placed : (over : Label) (i : Import) (rest : Forest) → Placed over rest → Placed over (import_labels i rest)
import_placed over (import.Single n) rest r = (tt, tt, type_name_placed n (is.Import importing.Single) none tt, r)
import_placed over (import.OnDemand n) rest r = (tt, tt, name_placed kind.PackageOrType place.Other n (is.Import importing.OnDemand) none tt, r)
import_placed over (import.StaticSingle n member) rest r = (tt, tt, type_name_placed n (is.Import importing.StaticSingle) none tt, r)

unit_placed : (over : Label) (u : d.CompilationUnit) (rest : Forest) → IsShapedUnit u → Placed over rest → Placed over (unit_labels u rest)
unit_placed over (d.UnitOf package_decl imports types) rest h r = let own = each (decl_labels false) types none in (
  tt,
  tt,
  any_placed package_labels is.Unit (package_placed is.Unit) package_decl (each import_labels imports own)
      (all_placed import_labels is.Unit (import_placed is.Unit) imports own
      (each_placed IsShapedDecl (decl_labels false) is.Unit (λ t rest h r. decl_placed false t is.Unit rest h r) types none h.2 tt)),
  r,
)

pub units_placed : (units : List declared_unit.Unit) → AllByRecursion IsShaped units → Placed is.Program (each (λ u. unit_labels (d.plain_unit u)) units none)
units_placed units h =
    each_placed IsShaped (λ u. unit_labels (d.plain_unit u)) is.Program (λ u rest h r. unit_placed is.Program (d.plain_unit u) rest h r) units none h tt
