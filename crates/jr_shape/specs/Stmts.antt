-- What the grammar asks of statements, as tests (JLS 14).
use Rattle.std.specs.Prelude.{Bool, true, false, not, ◌&&◌, ◌||◌, List}
use Rattle.std.specs.List.{list_all}
use Rattle.std.specs.Option.{option_map_or}
use Rattle.jr_tree.specs.declared.tree.TypeUse.{TypeUse}
use Rattle.jr_tree.specs.Shape.{is_empty, is_local, takes_else, has_expr, has_stmt, has_catch}
use Rattle.jr_tree.specs.Mirror.Stmts as s
use Rattle.jr_shape.specs.Parts.{is_shaped_type, is_shaped_param}
use Rattle.jr_shape.specs.Exprs.{is_operand, is_shaped_init, is_statement_expr, are_statement_exprs, are_shaped_exprs}

abbrev pub is_shaped_declarator : s.Declarator → Bool
is_shaped_declarator (s.DeclaratorOf name dims init) = option_map_or is_shaped_init init true

abbrev pub are_shaped_declarators : List s.Declarator → Bool
are_shaped_declarators ds = not (is_empty ds) && list_all is_shaped_declarator ds

abbrev pub are_shaped_variables : TypeUse → List s.Declarator → Bool
are_shaped_variables ty ds = is_shaped_type ty && are_shaped_declarators ds

abbrev pub is_shaped_for_init : s.ForInit → Bool
is_shaped_for_init (s.Locals is_final ty ds) = are_shaped_variables ty ds
is_shaped_for_init (s.Exprs es) = has_expr es && are_statement_exprs es

abbrev pub is_shaped_label : s.SwitchLabel → Bool
is_shaped_label (s.Case value) = is_operand 0 value
is_shaped_label s.Default = true

abbrev pub are_shaped_labels : List s.SwitchLabel → Bool
are_shaped_labels ls = not (is_empty ls) && list_all is_shaped_label ls

abbrev pub is_bare : s.Group → Bool
is_bare (s.GroupOf labels all) = not (has_stmt all)

abbrev mutual
  pub is_shaped_stmt : s.Stmt → Bool
  is_shaped_stmt (s.Nest b) = is_shaped_block b
  is_shaped_stmt (s.Local is_final ty ds) = are_shaped_variables ty ds
  is_shaped_stmt s.Skip = true
  is_shaped_stmt (s.Do body c) = not (is_local body) && is_shaped_stmt body && is_operand 0 c
  is_shaped_stmt (s.While c body) = is_operand 0 c && not (is_local body) && is_shaped_stmt body
  is_shaped_stmt (s.If c a s.no_stmt) = is_operand 0 c && not (is_local a) && is_shaped_stmt a
  is_shaped_stmt (s.If c a (s.a_stmt b)) = is_operand 0 c && not (is_local a) && is_shaped_stmt a && (not (takes_else a) && not (is_local b) && is_shaped_stmt b)
  is_shaped_stmt (s.Eval value) = is_statement_expr value
  is_shaped_stmt (s.For first c update body) =
      option_map_or is_shaped_for_init first true && option_map_or (is_operand 0) c true && are_statement_exprs update && (not (is_local body) && is_shaped_stmt body)
  is_shaped_stmt (s.Switch value gs) = is_operand 0 value && are_shaped_groups false gs
  is_shaped_stmt (s.Labeled label body) = not (is_local body) && is_shaped_stmt body
  is_shaped_stmt (s.Break label) = true
  is_shaped_stmt (s.Continue label) = true
  is_shaped_stmt (s.Return value) = option_map_or (is_operand 0) value true
  is_shaped_stmt (s.Throw value) = is_operand 0 value
  is_shaped_stmt (s.Try body cs s.no_block) = is_shaped_block body && are_shaped_catches cs && has_catch cs
  is_shaped_stmt (s.Try body cs (s.a_block last)) = is_shaped_block body && are_shaped_catches cs && is_shaped_block last
  is_shaped_stmt (s.CtorCall which args) = false

  pub is_shaped_block : s.Block → Bool
  is_shaped_block (s.BlockOf all) = are_shaped_stmts all

  pub is_shaped_catch : s.Catch → Bool
  is_shaped_catch (s.CatchOf p b) = is_shaped_param p && is_shaped_block b

  pub is_shaped_group : s.Group → Bool
  is_shaped_group (s.GroupOf labels all) = are_shaped_stmts all && are_shaped_labels labels

  pub are_shaped_stmts : s.Stmts → Bool
  are_shaped_stmts s.no_stmts = true
  are_shaped_stmts (s.more_stmts a all) = is_shaped_stmt a && are_shaped_stmts all

  -- groups after one that is bare or not
  pub are_shaped_groups : Bool → s.Groups → Bool
  are_shaped_groups bare s.no_groups = true
  are_shaped_groups bare (s.more_groups g all) = not bare && is_shaped_group g && are_shaped_groups (is_bare g) all

  pub are_shaped_catches : s.Catches → Bool
  are_shaped_catches s.no_catches = true
  are_shaped_catches (s.more_catches c all) = is_shaped_catch c && are_shaped_catches all

-- the call of a constructor (JLS 8.8.7.1)
abbrev pub is_shaped_call : s.Stmt → Bool
is_shaped_call (s.CtorCall which args) = are_shaped_exprs args
is_shaped_call _ = false

-- the body of a constructor (JLS 8.8.7)
abbrev pub are_shaped_in_ctor : s.Stmts → Bool
are_shaped_in_ctor s.no_stmts = true
are_shaped_in_ctor (s.more_stmts a all) = (is_shaped_stmt a || is_shaped_call a) && are_shaped_stmts all

abbrev pub is_shaped_ctor_body : s.Block → Bool
is_shaped_ctor_body (s.BlockOf all) = are_shaped_in_ctor all
