-- What the grammar asks of declarations and units, as tests (JLS 7, 8, 9).
use Rattle.std.specs.Prelude.{Bool, true, ◌&&◌}
use Rattle.std.specs.List.{list_all}
use Rattle.std.specs.Option.{option_map_or}
use Rattle.jr_tree.specs.Mirror.Decls as d
use Rattle.jr_shape.specs.Parts.{is_shaped_name, is_shaped_param, is_shaped_result, is_shaped_package, is_shaped_import}
use Rattle.jr_shape.specs.Stmts.{are_shaped_variables, is_shaped_block, is_shaped_ctor_body}

abbrev mutual
  pub is_shaped_decl : d.TypeDecl → Bool
  is_shaped_decl (d.Class mods name parent faces body) = option_map_or is_shaped_name parent true && list_all is_shaped_name faces && are_shaped_members body
  is_shaped_decl (d.Interface mods name faces body) = list_all is_shaped_name faces && are_shaped_members body
  is_shaped_decl d.Empty = true

  pub is_shaped_member : d.Member → Bool
  is_shaped_member (d.Field mods ty ds) = are_shaped_variables ty ds
  is_shaped_member (d.Method mods gives name params thrown body) =
      is_shaped_result gives && list_all is_shaped_param params && list_all is_shaped_name thrown && option_map_or is_shaped_block body true
  is_shaped_member (d.Constructor mods name params thrown body) = list_all is_shaped_param params && list_all is_shaped_name thrown && is_shaped_ctor_body body
  is_shaped_member (d.Init is_static body) = is_shaped_block body
  is_shaped_member (d.Nested decl) = is_shaped_decl decl

  pub are_shaped_members : d.Members → Bool
  are_shaped_members d.no_members = true
  are_shaped_members (d.more_members m all) = is_shaped_member m && are_shaped_members all

abbrev pub is_shaped_unit : d.CompilationUnit → Bool
is_shaped_unit (d.UnitOf package_decl imports types) = option_map_or is_shaped_package package_decl true && list_all is_shaped_import imports && list_all is_shaped_decl types
