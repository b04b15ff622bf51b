-- The tests of names, types and imports tell what they are to tell.
use Rattle.std.specs.Prelude.{not}
use Rattle.jr_tree.specs.declared.tree.Name.{Name}
use Rattle.jr_tree.specs.declared.tree.Base.{Base}
use Rattle.jr_tree.specs.declared.tree.Base.TheVariants as base
use Rattle.jr_tree.specs.declared.tree.TypeUse.{TypeUse}
use Rattle.jr_tree.specs.declared.tree.Param.{Param}
use Rattle.jr_tree.specs.declared.tree.ResultType.{ResultType}
use Rattle.jr_tree.specs.declared.tree.ResultType.TheVariants as outcome
use Rattle.jr_tree.specs.declared.tree.PackageDecl.{PackageDecl}
use Rattle.jr_tree.specs.declared.tree.Import.{Import}
use Rattle.jr_tree.specs.declared.tree.Import.TheVariants as import
use Rattle.jr_tree.specs.Shape.{is_empty, IsName, IsBase, IsTypeUse, IsShapedParam, IsShapedResult, IsShapedPackage, IsShapedImport}
use Rattle.jr_shape.specs.Parts.{is_shaped_name, is_shaped_base, is_shaped_type, is_shaped_param, is_shaped_result, is_shaped_package, is_shaped_import}
use Rattle.jr_shape.proofs.Tells.{Tells, itself, always}

pub tells_name : (n : Name) → Tells (is_shaped_name n) (IsName n)
tells_name n = itself (not (is_empty n.parts))

pub tells_base : (b : Base) → Tells (is_shaped_base b) (IsBase b)
tells_base (base.Primitive p) = always
tells_base (base.Named n) = tells_name n

pub tells_type : (t : TypeUse) → Tells (is_shaped_type t) (IsTypeUse t)
tells_type t = tells_base t.base

pub tells_param : (p : Param) → Tells (is_shaped_param p) (IsShapedParam p)
tells_param p = tells_type p.ty

pub tells_result : (r : ResultType) → Tells (is_shaped_result r) (IsShapedResult r)
tells_result outcome.Void = always
tells_result (outcome.Of ty) = tells_type ty

pub tells_package : (p : PackageDecl) → Tells (is_shaped_package p) (IsShapedPackage p)
tells_package p = tells_name p.name

pub tells_import : (i : Import) → Tells (is_shaped_import i) (IsShapedImport i)
tells_import (import.Single n) = tells_name n
tells_import (import.OnDemand n) = tells_name n
tells_import (import.StaticSingle n member) = tells_name n
