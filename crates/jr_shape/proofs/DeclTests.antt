-- The tests of declarations and units tell what they are to tell.
use Rattle.jr_tree.specs.Shape.{IsName, IsShapedParam, IsShapedPackage, IsShapedImport, IsShapedBlock, IsShapedDecl, IsShapedMember, AreShapedMembers, IsShapedUnit}
use Rattle.jr_tree.specs.Mirror.Decls as d
use Rattle.jr_shape.specs.Parts.{is_shaped_name, is_shaped_param, is_shaped_package, is_shaped_import}
use Rattle.jr_shape.specs.Stmts.{is_shaped_block}
use Rattle.jr_shape.specs.Decls.{is_shaped_decl, is_shaped_member, are_shaped_members, is_shaped_unit}
use Rattle.jr_shape.proofs.Tells.{Tells, always, both, three, four, each, maybe}
use Rattle.jr_shape.proofs.PartTests.{tells_name, tells_param, tells_result, tells_package, tells_import}
use Rattle.jr_shape.proofs.StmtTests.{tells_variables, tells_block, tells_ctor_body}

mutual
  pub tells_decl : (t : d.TypeDecl) → Tells (is_shaped_decl t) (IsShapedDecl t)
  tells_decl (d.Class mods name parent faces body) = three (maybe is_shaped_name IsName tells_name parent) (each is_shaped_name IsName tells_name faces) (tells_members body)
  tells_decl (d.Interface mods name faces body) = both (each is_shaped_name IsName tells_name faces) (tells_members body)
  tells_decl d.Empty = always

  pub tells_member : (m : d.Member) → Tells (is_shaped_member m) (IsShapedMember m)
  tells_member (d.Field mods ty ds) = tells_variables ty ds
  tells_member (d.Method mods gives name params thrown body) =
      four (tells_result gives) (each is_shaped_param IsShapedParam tells_param params) (each is_shaped_name IsName tells_name thrown) (maybe is_shaped_block IsShapedBlock tells_block body)
  tells_member (d.Constructor mods name params thrown body) =
      three (each is_shaped_param IsShapedParam tells_param params) (each is_shaped_name IsName tells_name thrown) (tells_ctor_body body)
  tells_member (d.Init is_static body) = tells_block body
  tells_member (d.Nested decl) = tells_decl decl

  pub tells_members : (all : d.Members) → Tells (are_shaped_members all) (AreShapedMembers all)
  tells_members d.no_members = always
  tells_members (d.more_members m all) = both (tells_member m) (tells_members all)

pub tells_unit : (u : d.CompilationUnit) → Tells (is_shaped_unit u) (IsShapedUnit u)
tells_unit (d.UnitOf package_decl imports types) =
    three (maybe is_shaped_package IsShapedPackage tells_package package_decl) (each is_shaped_import IsShapedImport tells_import imports) (each is_shaped_decl IsShapedDecl tells_decl types)
