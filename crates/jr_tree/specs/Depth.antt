-- How deep a tree is: each declaration of a type, member, statement, expression and list in braces is one deeper than the nearest such node round it.
use Rattle.std.specs.Prelude.{ℕ, suc, max, List, [], ◌∷◌}
use Rattle.std.specs.Option.{option_map_or}
use Rattle.jr_tree.specs.declared.tree.Unit as declared_unit
use Rattle.jr_tree.specs.Mirror.Exprs as x
use Rattle.jr_tree.specs.Mirror.Stmts as s
use Rattle.jr_tree.specs.Mirror.Decls as d

abbrev pub deepest : {A : Type 0} → (A → ℕ) → List A → ℕ
deepest f [] = 0
deepest f (a ∷ all) = max (f a) (deepest f all)

abbrev mutual
  pub expr_depth : x.Expr → ℕ
  expr_depth (x.Assign target op value) = suc (max (expr_depth target) (expr_depth value))
  expr_depth (x.Cond c a b) = suc (max (expr_depth c) (max (expr_depth a) (expr_depth b)))
  expr_depth (x.Binary left op right) = suc (max (expr_depth left) (expr_depth right))
  expr_depth (x.IsA value ty) = suc (expr_depth value)
  expr_depth (x.Unary op value) = suc (expr_depth value)
  expr_depth (x.Cast ty value) = suc (expr_depth value)
  expr_depth (x.PreStep op value) = suc (expr_depth value)
  expr_depth (x.PostStep value op) = suc (expr_depth value)
  expr_depth (x.Lit token) = 1
  expr_depth (x.This class) = 1
  expr_depth (x.Paren inner) = suc (expr_depth inner)
  expr_depth (x.NameExpr name) = 1
  expr_depth (x.Select object name) = suc (expr_depth object)
  expr_depth (x.SuperSelect name) = 1
  expr_depth (x.Index array at) = suc (max (expr_depth array) (expr_depth at))
  expr_depth (x.Call receiver name args) = suc (max (any_receiver_depth receiver) (exprs_depth args))
  expr_depth (x.New class args) = suc (exprs_depth args)
  expr_depth (x.NewArray base dims more list) = suc (max (exprs_depth dims) (any_list_depth list))

  pub any_receiver_depth : x.AnyReceiver → ℕ
  any_receiver_depth x.no_receiver = 0
  any_receiver_depth (x.a_receiver r) = receiver_depth r

  pub receiver_depth : x.Receiver → ℕ
  receiver_depth (x.Of object) = expr_depth object
  receiver_depth (x.OfName name) = 0
  receiver_depth x.Super = 0

  pub exprs_depth : x.Exprs → ℕ
  exprs_depth x.no_exprs = 0
  exprs_depth (x.more_exprs e all) = max (expr_depth e) (exprs_depth all)

  pub any_list_depth : x.AnyList → ℕ
  any_list_depth x.no_list = 0
  any_list_depth (x.a_list l) = list_depth l

  pub list_depth : x.InitList → ℕ
  list_depth (x.ListOf all is_open_ended) = suc (inits_depth all)

  pub init_depth : x.Init → ℕ
  init_depth (x.Value value) = expr_depth value
  init_depth (x.Listed l) = list_depth l

  pub inits_depth : x.Inits → ℕ
  inits_depth x.no_inits = 0
  inits_depth (x.more_inits i all) = max (init_depth i) (inits_depth all)

-- ---- parts of statements

abbrev pub declarator_depth : s.Declarator → ℕ
declarator_depth (s.DeclaratorOf name dims init) = option_map_or init_depth init 0

abbrev pub for_init_depth : s.ForInit → ℕ
for_init_depth (s.Locals is_final ty ds) = deepest declarator_depth ds
for_init_depth (s.Exprs es) = exprs_depth es

abbrev pub label_depth : s.SwitchLabel → ℕ
label_depth (s.Case value) = expr_depth value
label_depth s.Default = 0

-- ---- statements

abbrev mutual
  pub stmt_depth : s.Stmt → ℕ
  stmt_depth (s.Nest b) = suc (block_depth b)
  stmt_depth (s.Local is_final ty ds) = suc (deepest declarator_depth ds)
  stmt_depth s.Skip = 1
  stmt_depth (s.Do body c) = suc (max (stmt_depth body) (expr_depth c))
  stmt_depth (s.While c body) = suc (max (expr_depth c) (stmt_depth body))
  stmt_depth (s.If c a b) = suc (max (expr_depth c) (max (stmt_depth a) (any_stmt_depth b)))
  stmt_depth (s.Eval value) = suc (expr_depth value)
  stmt_depth (s.For first c update body) = suc (max (option_map_or for_init_depth first 0) (max (option_map_or expr_depth c 0) (max (exprs_depth update) (stmt_depth body))))
  stmt_depth (s.Switch value gs) = suc (max (expr_depth value) (groups_depth gs))
  stmt_depth (s.Labeled label body) = suc (stmt_depth body)
  stmt_depth (s.Break label) = 1
  stmt_depth (s.Continue label) = 1
  stmt_depth (s.Return value) = suc (option_map_or expr_depth value 0)
  stmt_depth (s.Throw value) = suc (expr_depth value)
  stmt_depth (s.Try body cs last) = suc (max (block_depth body) (max (catches_depth cs) (any_block_depth last)))
  stmt_depth (s.CtorCall which args) = suc (exprs_depth args)

  pub any_stmt_depth : s.AnyStmt → ℕ
  any_stmt_depth s.no_stmt = 0
  any_stmt_depth (s.a_stmt b) = stmt_depth b

  pub any_block_depth : s.AnyBlock → ℕ
  any_block_depth s.no_block = 0
  any_block_depth (s.a_block b) = block_depth b

  pub block_depth : s.Block → ℕ
  block_depth (s.BlockOf all) = stmts_depth all

  pub catch_depth : s.Catch → ℕ
  catch_depth (s.CatchOf p b) = block_depth b

  pub group_depth : s.Group → ℕ
  group_depth (s.GroupOf labels all) = max (deepest label_depth labels) (stmts_depth all)

  pub stmts_depth : s.Stmts → ℕ
  stmts_depth s.no_stmts = 0
  stmts_depth (s.more_stmts a all) = max (stmt_depth a) (stmts_depth all)

  pub groups_depth : s.Groups → ℕ
  groups_depth s.no_groups = 0
  groups_depth (s.more_groups g all) = max (group_depth g) (groups_depth all)

  pub catches_depth : s.Catches → ℕ
  catches_depth s.no_catches = 0
  catches_depth (s.more_catches c all) = max (catch_depth c) (catches_depth all)

-- ---- declarations

abbrev mutual
  pub decl_depth : d.TypeDecl → ℕ
  decl_depth (d.Class mods name parent faces body) = suc (members_depth body)
  decl_depth (d.Interface mods name faces body) = suc (members_depth body)
  decl_depth d.Empty = 1

  pub member_depth : d.Member → ℕ
  member_depth (d.Field mods ty ds) = suc (deepest declarator_depth ds)
  member_depth (d.Method mods gives name params thrown body) = suc (option_map_or block_depth body 0)
  member_depth (d.Constructor mods name params thrown body) = suc (block_depth body)
  member_depth (d.Init is_static body) = suc (block_depth body)
  member_depth (d.Nested decl) = suc (decl_depth decl)

  pub members_depth : d.Members → ℕ
  members_depth d.no_members = 0
  members_depth (d.more_members m all) = max (member_depth m) (members_depth all)

abbrev pub unit_depth : d.CompilationUnit → ℕ
unit_depth (d.UnitOf package_decl imports types) = deepest decl_depth types

-- the depth of a unit of the program
abbrev pub depth : declared_unit.Unit → ℕ
depth u = unit_depth (d.plain_unit u)
