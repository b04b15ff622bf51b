-- The tests of depth tell what they are to tell.
use Rattle.std.proofs.Common.{ℕ, ◌-◌}
use Rattle.jr_tree.specs.Depth.{expr_depth, receiver_depth, exprs_depth, list_depth, init_depth, inits_depth, declarator_depth, for_init_depth, label_depth, stmt_depth, block_depth, catch_depth, group_depth, stmts_depth, groups_depth, catches_depth, decl_depth, member_depth, members_depth, unit_depth}
use Rattle.jr_tree.specs.Mirror.Exprs as x
use Rattle.jr_tree.specs.Mirror.Stmts as s
use Rattle.jr_tree.specs.Mirror.Decls as d
use Rattle.jr_depth.specs.Within as w
use Rattle.jr_depth.proofs.Counts.{IsWithin, none, one, leaf, join, join3, join4, first, last, turn, each, maybe}

mutual
  pub expr : (n : ℕ) (e : x.Expr) → IsWithin (w.expr_within n e) (expr_depth e) n
  expr n (x.Assign target op value) = one n (join (n - 1) (expr (n - 1) target) (expr (n - 1) value))
  expr n (x.Cond c a b) = one n (join3 (n - 1) (expr (n - 1) c) (expr (n - 1) a) (expr (n - 1) b))
  expr n (x.Binary left op right) = one n (join (n - 1) (expr (n - 1) left) (expr (n - 1) right))
  expr n (x.IsA value ty) = one n (expr (n - 1) value)
  expr n (x.Unary op value) = one n (expr (n - 1) value)
  expr n (x.Cast ty value) = one n (expr (n - 1) value)
  expr n (x.PreStep op value) = one n (expr (n - 1) value)
  expr n (x.PostStep value op) = one n (expr (n - 1) value)
  expr n (x.Lit token) = leaf n
  expr n (x.This class) = leaf n
  expr n (x.Paren inner) = one n (expr (n - 1) inner)
  expr n (x.NameExpr name) = leaf n
  expr n (x.Select object name) = one n (expr (n - 1) object)
  expr n (x.SuperSelect name) = leaf n
  expr n (x.Index array at) = one n (join (n - 1) (expr (n - 1) array) (expr (n - 1) at))
  expr n (x.Call x.no_receiver name args) = one n (last (n - 1) (exprs (n - 1) args))
  expr n (x.Call (x.a_receiver r) name args) = one n (turn (n - 1) (receiver (n - 1) r) (exprs (n - 1) args))
  expr n (x.New class args) = one n (exprs (n - 1) args)
  expr n (x.NewArray base dims more x.no_list) = one n (first (n - 1) (exprs (n - 1) dims))
  expr n (x.NewArray base dims more (x.a_list l)) = one n (join (n - 1) (exprs (n - 1) dims) (list (n - 1) l))

  pub receiver : (n : ℕ) (r : x.Receiver) → IsWithin (w.receiver_within n r) (receiver_depth r) n
  receiver n (x.Of object) = expr n object
  receiver n (x.OfName name) = none n
  receiver n x.Super = none n

  pub exprs : (n : ℕ) (all : x.Exprs) → IsWithin (w.exprs_within n all) (exprs_depth all) n
  exprs n x.no_exprs = none n
  exprs n (x.more_exprs e all) = join n (expr n e) (exprs n all)

  pub list : (n : ℕ) (l : x.InitList) → IsWithin (w.list_within n l) (list_depth l) n
  list n (x.ListOf all is_open_ended) = one n (inits (n - 1) all)

  pub init : (n : ℕ) (i : x.Init) → IsWithin (w.init_within n i) (init_depth i) n
  init n (x.Value value) = expr n value
  init n (x.Listed l) = list n l

  pub inits : (n : ℕ) (all : x.Inits) → IsWithin (w.inits_within n all) (inits_depth all) n
  inits n x.no_inits = none n
  inits n (x.more_inits i all) = join n (init n i) (inits n all)

-- ---- parts of statements

pub declarator : (n : ℕ) (a : s.Declarator) → IsWithin (w.declarator_within n a) (declarator_depth a) n
declarator n (s.DeclaratorOf name dims value) = maybe (w.init_within n) init_depth n (init n) value

pub for_init : (n : ℕ) (f : s.ForInit) → IsWithin (w.for_init_within n f) (for_init_depth f) n
for_init n (s.Locals is_final ty ds) = each (w.declarator_within n) declarator_depth n (declarator n) ds
for_init n (s.Exprs es) = exprs n es

pub label : (n : ℕ) (l : s.SwitchLabel) → IsWithin (w.label_within n l) (label_depth l) n
label n (s.Case value) = expr n value
label n s.Default = none n

-- ---- statements

mutual
  pub stmt : (n : ℕ) (a : s.Stmt) → IsWithin (w.stmt_within n a) (stmt_depth a) n
  stmt n (s.Nest b) = one n (block (n - 1) b)
  stmt n (s.Local is_final ty ds) = one n (each (w.declarator_within (n - 1)) declarator_depth (n - 1) (declarator (n - 1)) ds)
  stmt n s.Skip = leaf n
  stmt n (s.Do body c) = one n (join (n - 1) (stmt (n - 1) body) (expr (n - 1) c))
  stmt n (s.While c body) = one n (join (n - 1) (expr (n - 1) c) (stmt (n - 1) body))
  stmt n (s.If c a s.no_stmt) = one n (join (n - 1) (expr (n - 1) c) (first (n - 1) (stmt (n - 1) a)))
  stmt n (s.If c a (s.a_stmt b)) = one n (join3 (n - 1) (expr (n - 1) c) (stmt (n - 1) a) (stmt (n - 1) b))
  stmt n (s.Eval value) = one n (expr (n - 1) value)
  stmt n (s.For start c update body) =
      one n (join4 (n - 1) (maybe (w.for_init_within (n - 1)) for_init_depth (n - 1) (for_init (n - 1)) start) (maybe (w.expr_within (n - 1)) expr_depth (n - 1) (expr (n - 1)) c) (exprs (n - 1) update) (stmt (n - 1) body))
  stmt n (s.Switch value gs) = one n (turn (n - 1) (expr (n - 1) value) (groups (n - 1) gs))
  stmt n (s.Labeled name body) = one n (stmt (n - 1) body)
  stmt n (s.Break name) = leaf n
  stmt n (s.Continue name) = leaf n
  stmt n (s.Return value) = one n (maybe (w.expr_within (n - 1)) expr_depth (n - 1) (expr (n - 1)) value)
  stmt n (s.Throw value) = one n (expr (n - 1) value)
  stmt n (s.Try body cs s.no_block) = one n (join (n - 1) (block (n - 1) body) (first (n - 1) (catches (n - 1) cs)))
  stmt n (s.Try body cs (s.a_block b)) = one n (join3 (n - 1) (block (n - 1) body) (catches (n - 1) cs) (block (n - 1) b))
  stmt n (s.CtorCall which args) = one n (exprs (n - 1) args)

  pub block : (n : ℕ) (b : s.Block) → IsWithin (w.block_within n b) (block_depth b) n
  block n (s.BlockOf all) = stmts n all

  pub catch : (n : ℕ) (c : s.Catch) → IsWithin (w.catch_within n c) (catch_depth c) n
  catch n (s.CatchOf p b) = block n b

  pub group : (n : ℕ) (g : s.Group) → IsWithin (w.group_within n g) (group_depth g) n
  group n (s.GroupOf labels all) = turn n (each (w.label_within n) label_depth n (label n) labels) (stmts n all)

  pub stmts : (n : ℕ) (all : s.Stmts) → IsWithin (w.stmts_within n all) (stmts_depth all) n
  stmts n s.no_stmts = none n
  stmts n (s.more_stmts a all) = join n (stmt n a) (stmts n all)

  pub groups : (n : ℕ) (all : s.Groups) → IsWithin (w.groups_within n all) (groups_depth all) n
  groups n s.no_groups = none n
  groups n (s.more_groups g all) = join n (group n g) (groups n all)

  pub catches : (n : ℕ) (all : s.Catches) → IsWithin (w.catches_within n all) (catches_depth all) n
  catches n s.no_catches = none n
  catches n (s.more_catches c all) = join n (catch n c) (catches n all)

-- ---- declarations

mutual
  pub decl : (n : ℕ) (t : d.TypeDecl) → IsWithin (w.decl_within n t) (decl_depth t) n
  decl n (d.Class mods name parent faces body) = one n (members (n - 1) body)
  decl n (d.Interface mods name faces body) = one n (members (n - 1) body)
  decl n d.Empty = leaf n

  pub member : (n : ℕ) (m : d.Member) → IsWithin (w.member_within n m) (member_depth m) n
  member n (d.Field mods ty ds) = one n (each (w.declarator_within (n - 1)) declarator_depth (n - 1) (declarator (n - 1)) ds)
  member n (d.Method mods gives name params thrown body) = one n (maybe (w.block_within (n - 1)) block_depth (n - 1) (block (n - 1)) body)
  member n (d.Constructor mods name params thrown body) = one n (block (n - 1) body)
  member n (d.Init is_static body) = one n (block (n - 1) body)
  member n (d.Nested nested) = one n (decl (n - 1) nested)

  pub members : (n : ℕ) (all : d.Members) → IsWithin (w.members_within n all) (members_depth all) n
  members n d.no_members = none n
  members n (d.more_members m all) = join n (member n m) (members n all)

pub unit : (n : ℕ) (u : d.CompilationUnit) → IsWithin (w.unit_within n u) (unit_depth u) n
unit n (d.UnitOf package_decl imports types) = each (w.decl_within n) decl_depth n (decl n) types
