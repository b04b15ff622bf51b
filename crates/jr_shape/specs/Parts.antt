-- What the grammar asks of names, types and imports, as tests (JLS 4, 6.2, 7, 8.4).
use Rattle.std.specs.Prelude.{Bool, true, not}
use Rattle.jr_tree.specs.declared.tree.Name.{Name}
use Rattle.jr_tree.specs.declared.tree.Base.{Base}
use Rattle.jr_tree.specs.declared.tree.Base.TheVariants as base
use Rattle.jr_tree.specs.declared.tree.TypeUse.{TypeUse}
use Rattle.jr_tree.specs.declared.tree.Param.{Param}
use Rattle.jr_tree.specs.declared.tree.ResultType.{ResultType}
use Rattle.jr_tree.specs.declared.tree.ResultType.TheVariants as outcome
use Rattle.jr_tree.specs.declared.tree.PackageDecl.{PackageDecl}
use Rattle.jr_tree.specs.declared.tree.Import.{Import}
use Rattle.jr_tree.specs.declared.tree.Import.TheVariants as import
use Rattle.jr_tree.specs.Shape.{is_empty}

abbrev pub is_shaped_name : Name → Bool
is_shaped_name n = not (is_empty n.parts)

abbrev pub is_shaped_base : Base → Bool
is_shaped_base (base.Primitive p) = true
is_shaped_base (base.Named n) = is_shaped_name n

abbrev pub is_shaped_type : TypeUse → Bool
is_shaped_type t = is_shaped_base t.base

abbrev pub is_shaped_param : Param → Bool
is_shaped_param p = is_shaped_type p.ty

abbrev pub is_shaped_result : ResultType → Bool
is_shaped_result outcome.Void = true
is_shaped_result (outcome.Of ty) = is_shaped_type ty

abbrev pub is_shaped_package : PackageDecl → Bool
is_shaped_package p = is_shaped_name p.name

abbrev pub is_shaped_import : Import → Bool
is_shaped_import (import.Single n) = is_shaped_name n
is_shaped_import (import.OnDemand n) = is_shaped_name n
is_shaped_import (import.StaticSingle n member) = is_shaped_name n
