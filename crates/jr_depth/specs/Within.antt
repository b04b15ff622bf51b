-- Whether a tree is within a depth, as a test that counts one down at each level. The parts of a tree are what is deeper in it.
use Rattle.std.specs.Prelude.{ℕ, ◌-◌, Bool, true, ◌&&◌, nat_lt}
use Rattle.std.specs.List.{list_all}
use Rattle.std.specs.Option.{option_map_or}
use Rattle.jr_tree.specs.Mirror.Exprs as x
use Rattle.jr_tree.specs.Mirror.Stmts as s
use Rattle.jr_tree.specs.Mirror.Decls as d

-- ---- expressions

abbrev mutual
  pub expr_parts_within : ℕ → x.Expr → Bool
  expr_parts_within n (x.Assign target op value) = (nat_lt 0 n && expr_parts_within (n - 1) target) && (nat_lt 0 n && expr_parts_within (n - 1) value)
  expr_parts_within n (x.Cond c a b) =
      (nat_lt 0 n && expr_parts_within (n - 1) c) && (nat_lt 0 n && expr_parts_within (n - 1) a) && (nat_lt 0 n && expr_parts_within (n - 1) b)
  expr_parts_within n (x.Binary left op right) = (nat_lt 0 n && expr_parts_within (n - 1) left) && (nat_lt 0 n && expr_parts_within (n - 1) right)
  expr_parts_within n (x.IsA value ty) = nat_lt 0 n && expr_parts_within (n - 1) value
  expr_parts_within n (x.Unary op value) = nat_lt 0 n && expr_parts_within (n - 1) value
  expr_parts_within n (x.Cast ty value) = nat_lt 0 n && expr_parts_within (n - 1) value
  expr_parts_within n (x.PreStep op value) = nat_lt 0 n && expr_parts_within (n - 1) value
  expr_parts_within n (x.PostStep value op) = nat_lt 0 n && expr_parts_within (n - 1) value
  expr_parts_within n (x.Lit token) = true
  expr_parts_within n (x.This class) = true
  expr_parts_within n (x.Paren inner) = nat_lt 0 n && expr_parts_within (n - 1) inner
  expr_parts_within n (x.NameExpr name) = true
  expr_parts_within n (x.Select object name) = nat_lt 0 n && expr_parts_within (n - 1) object
  expr_parts_within n (x.SuperSelect name) = true
  expr_parts_within n (x.Index array at) = (nat_lt 0 n && expr_parts_within (n - 1) array) && (nat_lt 0 n && expr_parts_within (n - 1) at)
  expr_parts_within n (x.Call x.no_receiver name args) = exprs_within n args
  expr_parts_within n (x.Call (x.a_receiver r) name args) = exprs_within n args && receiver_within n r
  expr_parts_within n (x.New class args) = exprs_within n args
  expr_parts_within n (x.NewArray base dims more x.no_list) = exprs_within n dims
  expr_parts_within n (x.NewArray base dims more (x.a_list l)) = exprs_within n dims && list_within n l

  pub receiver_within : ℕ → x.Receiver → Bool
  receiver_within n (x.Of object) = nat_lt 0 n && expr_parts_within (n - 1) object
  receiver_within n (x.OfName name) = true
  receiver_within n x.Super = true

  pub exprs_within : ℕ → x.Exprs → Bool
  exprs_within n x.no_exprs = true
  exprs_within n (x.more_exprs e all) = (nat_lt 0 n && expr_parts_within (n - 1) e) && exprs_within n all

  pub list_within : ℕ → x.InitList → Bool
  list_within n (x.ListOf all is_open_ended) = nat_lt 0 n && inits_within (n - 1) all

  pub init_within : ℕ → x.Init → Bool
  init_within n (x.Value value) = nat_lt 0 n && expr_parts_within (n - 1) value
  init_within n (x.Listed l) = list_within n l

  pub inits_within : ℕ → x.Inits → Bool
  inits_within n x.no_inits = true
  inits_within n (x.more_inits i all) = init_within n i && inits_within n all

abbrev pub expr_within : ℕ → x.Expr → Bool
expr_within n e = nat_lt 0 n && expr_parts_within (n - 1) e

-- ---- parts of statements

abbrev pub declarator_within : ℕ → s.Declarator → Bool
declarator_within n (s.DeclaratorOf name dims init) = option_map_or (init_within n) init true

abbrev pub for_init_within : ℕ → s.ForInit → Bool
for_init_within n (s.Locals is_final ty ds) = list_all (declarator_within n) ds
for_init_within n (s.Exprs es) = exprs_within n es

abbrev pub label_within : ℕ → s.SwitchLabel → Bool
label_within n (s.Case value) = expr_within n value
label_within n s.Default = true

-- ---- statements

abbrev mutual
  pub stmt_parts_within : ℕ → s.Stmt → Bool
  stmt_parts_within n (s.Nest b) = block_within n b
  stmt_parts_within n (s.Local is_final ty ds) = list_all (declarator_within n) ds
  stmt_parts_within n s.Skip = true
  stmt_parts_within n (s.Do body c) = (nat_lt 0 n && stmt_parts_within (n - 1) body) && expr_within n c
  stmt_parts_within n (s.While c body) = expr_within n c && (nat_lt 0 n && stmt_parts_within (n - 1) body)
  stmt_parts_within n (s.If c a s.no_stmt) = expr_within n c && (nat_lt 0 n && stmt_parts_within (n - 1) a)
  stmt_parts_within n (s.If c a (s.a_stmt b)) = expr_within n c && (nat_lt 0 n && stmt_parts_within (n - 1) a) && (nat_lt 0 n && stmt_parts_within (n - 1) b)
  stmt_parts_within n (s.Eval value) = expr_within n value
  stmt_parts_within n (s.For first c update body) =
      option_map_or (for_init_within n) first true && option_map_or (expr_within n) c true && exprs_within n update && (nat_lt 0 n && stmt_parts_within (n - 1) body)
  stmt_parts_within n (s.Switch value gs) = groups_within n gs && expr_within n value
  stmt_parts_within n (s.Labeled label body) = nat_lt 0 n && stmt_parts_within (n - 1) body
  stmt_parts_within n (s.Break label) = true
  stmt_parts_within n (s.Continue label) = true
  stmt_parts_within n (s.Return value) = option_map_or (expr_within n) value true
  stmt_parts_within n (s.Throw value) = expr_within n value
  stmt_parts_within n (s.Try body cs s.no_block) = block_within n body && catches_within n cs
  stmt_parts_within n (s.Try body cs (s.a_block last)) = block_within n body && catches_within n cs && block_within n last
  stmt_parts_within n (s.CtorCall which args) = exprs_within n args

  pub block_within : ℕ → s.Block → Bool
  block_within n (s.BlockOf all) = stmts_within n all

  pub catch_within : ℕ → s.Catch → Bool
  catch_within n (s.CatchOf p b) = block_within n b

  pub group_within : ℕ → s.Group → Bool
  group_within n (s.GroupOf labels all) = stmts_within n all && list_all (label_within n) labels

  pub stmts_within : ℕ → s.Stmts → Bool
  stmts_within n s.no_stmts = true
  stmts_within n (s.more_stmts a all) = (nat_lt 0 n && stmt_parts_within (n - 1) a) && stmts_within n all

  pub groups_within : ℕ → s.Groups → Bool
  groups_within n s.no_groups = true
  groups_within n (s.more_groups g all) = group_within n g && groups_within n all

  pub catches_within : ℕ → s.Catches → Bool
  catches_within n s.no_catches = true
  catches_within n (s.more_catches c all) = catch_within n c && catches_within n all

abbrev pub stmt_within : ℕ → s.Stmt → Bool
stmt_within n a = nat_lt 0 n && stmt_parts_within (n - 1) a

-- ---- declarations

abbrev mutual
  pub decl_parts_within : ℕ → d.TypeDecl → Bool
  decl_parts_within n (d.Class mods name parent faces body) = members_within n body
  decl_parts_within n (d.Interface mods name faces body) = members_within n body
  decl_parts_within n d.Empty = true

  pub member_parts_within : ℕ → d.Member → Bool
  member_parts_within n (d.Field mods ty ds) = list_all (declarator_within n) ds
  member_parts_within n (d.Method mods gives name params thrown body) = option_map_or (block_within n) body true
  member_parts_within n (d.Constructor mods name params thrown body) = block_within n body
  member_parts_within n (d.Init is_static body) = block_within n body
  member_parts_within n (d.Nested decl) = nat_lt 0 n && decl_parts_within (n - 1) decl

  pub members_within : ℕ → d.Members → Bool
  members_within n d.no_members = true
  members_within n (d.more_members m all) = (nat_lt 0 n && member_parts_within (n - 1) m) && members_within n all

abbrev pub decl_within : ℕ → d.TypeDecl → Bool
decl_within n t = nat_lt 0 n && decl_parts_within (n - 1) t

abbrev pub member_within : ℕ → d.Member → Bool
member_within n m = nat_lt 0 n && member_parts_within (n - 1) m

abbrev pub unit_within : ℕ → d.CompilationUnit → Bool
unit_within n (d.UnitOf package_decl imports types) = list_all (decl_within n) types
