-- The tests of statements tell what they are to tell.
use Rattle.std.proofs.Common.{◌≡◌, refl, sym, ◌∙◌, Bool, true, false, not, ◌||◌, List}
use Rattle.std.specs.Prelude.{IsTrue}
use Rattle.jr_tree.specs.declared.tree.TypeUse.{TypeUse}
use Rattle.jr_tree.specs.Shape.{is_empty, is_local, takes_else, has_expr, has_group, has_catch, group_fits, IsWholeExpr, IsShapedInit, IsShapedDeclarator, AreShapedVariables, IsShapedForInit, IsShapedLabel, IsShapedStmt, IsShapedBlock, IsShapedCatch, IsShapedGroup, AreShapedStmts, AreShapedGroups, AreShapedCatches, IsShapedCtorBody}
use Rattle.jr_tree.specs.Mirror.Stmts as s
use Rattle.jr_shape.specs.Exprs.{is_operand, is_shaped_init}
use Rattle.jr_shape.specs.Stmts.{is_shaped_declarator, are_shaped_variables, is_shaped_for_init, is_shaped_label, is_bare, is_shaped_stmt, is_shaped_block, is_shaped_catch, is_shaped_group, are_shaped_stmts, are_shaped_groups, are_shaped_catches, is_shaped_ctor_body}
use Rattle.jr_shape.proofs.Tells.{Tells, itself, always, never, both, three, four, like, each, maybe}
use Rattle.jr_shape.proofs.PartTests.{tells_type, tells_param}
use Rattle.jr_shape.proofs.ExprTests.{tells_init, tells_operand, tells_statement, tells_statements, tells_exprs}

pub tells_declarator : (d : s.Declarator) → Tells (is_shaped_declarator d) (IsShapedDeclarator d)
tells_declarator (s.DeclaratorOf name dims init) = maybe is_shaped_init IsShapedInit tells_init init

pub tells_variables : (ty : TypeUse) (ds : List s.Declarator) → Tells (are_shaped_variables ty ds) (AreShapedVariables ty ds)
tells_variables ty ds =
    like (both (tells_type ty) (both (itself (not (is_empty ds))) (each is_shaped_declarator IsShapedDeclarator tells_declarator ds)))
    (λ h. (h.0, h.1.0, h.1.1)) (λ h. (h.0, (h.1, h.2)))

pub tells_for_init : (f : s.ForInit) → Tells (is_shaped_for_init f) (IsShapedForInit f)
tells_for_init (s.Locals is_final ty ds) = tells_variables ty ds
tells_for_init (s.Exprs es) = both (itself (has_expr es)) (tells_statements es)

pub tells_label : (l : s.SwitchLabel) → Tells (is_shaped_label l) (IsShapedLabel l)
tells_label (s.Case value) = tells_operand value
tells_label s.Default = always

-- ---- groups: one that is bare is the last

bare_is : (g : s.Group) (all : s.Groups) → (not (is_bare g) || not (has_group all)) ≡ group_fits g all
bare_is (s.GroupOf labels s.no_stmts) all = refl
bare_is (s.GroupOf labels (s.more_stmts a rest)) all = refl

last_may : (bare : Bool) → (not bare || true) ≡ true
last_may true = refl
last_may false = refl

not_last : (bare : Bool) → (not bare || false) ≡ not bare
not_last true = refl
not_last false = refl

mutual
  pub tells_stmt : (a : s.Stmt) → Tells (is_shaped_stmt a) (IsShapedStmt a)
  tells_stmt (s.Nest b) = tells_block b
  tells_stmt (s.Local is_final ty ds) = tells_variables ty ds
  tells_stmt s.Skip = always
  tells_stmt (s.Do body c) = three (itself (not (is_local body))) (tells_stmt body) (tells_operand c)
  tells_stmt (s.While c body) = three (tells_operand c) (itself (not (is_local body))) (tells_stmt body)
  tells_stmt (s.If c a s.no_stmt) = like (three (tells_operand c) (itself (not (is_local a))) (tells_stmt a)) (λ h. (h.0, h.1, h.2, tt)) (λ h. (h.0, h.1, h.2))
  tells_stmt (s.If c a (s.a_stmt b)) =
      four (tells_operand c) (itself (not (is_local a))) (tells_stmt a) (three (itself (not (takes_else a))) (itself (not (is_local b))) (tells_stmt b))
  tells_stmt (s.Eval value) = tells_statement value
  tells_stmt (s.For first c update body) =
      like (four (maybe is_shaped_for_init IsShapedForInit tells_for_init first) (maybe (is_operand 0) IsWholeExpr tells_operand c) (tells_statements update) (both (itself (not (is_local body))) (tells_stmt body)))
      (λ h. (h.0, h.1, h.2, h.3.0, h.3.1)) (λ h. (h.0, h.1, h.2, (h.3, h.4)))
  tells_stmt (s.Switch value gs) = both (tells_operand value) (like (tells_groups false gs) (λ h. h.1) (λ h. (refl, h)))
  tells_stmt (s.Labeled label body) = both (itself (not (is_local body))) (tells_stmt body)
  tells_stmt (s.Break label) = always
  tells_stmt (s.Continue label) = always
  tells_stmt (s.Return value) = maybe (is_operand 0) IsWholeExpr tells_operand value
  tells_stmt (s.Throw value) = tells_operand value
  tells_stmt (s.Try body s.no_catches s.no_block) = like (three (tells_block body) (tells_catches s.no_catches) (itself (has_catch s.no_catches))) (λ h. (h.0, h.1, tt, h.2)) (λ h. (h.0, h.1, h.3))
  tells_stmt (s.Try body (s.more_catches c cs) s.no_block) = like (three (tells_block body) (tells_catches (s.more_catches c cs)) (itself (has_catch (s.more_catches c cs)))) (λ h. (h.0, h.1, tt, h.2)) (λ h. (h.0, h.1, h.3))
  tells_stmt (s.Try body s.no_catches (s.a_block last)) = like (three (tells_block body) (tells_catches s.no_catches) (tells_block last)) (λ h. (h.0, h.1, h.2, refl)) (λ h. (h.0, h.1, h.2))
  tells_stmt (s.Try body (s.more_catches c cs) (s.a_block last)) = like (three (tells_block body) (tells_catches (s.more_catches c cs)) (tells_block last)) (λ h. (h.0, h.1, h.2, refl)) (λ h. (h.0, h.1, h.2))
  tells_stmt (s.CtorCall which args) = never

  pub tells_block : (b : s.Block) → Tells (is_shaped_block b) (IsShapedBlock b)
  tells_block (s.BlockOf all) = tells_stmts all

  pub tells_catch : (c : s.Catch) → Tells (is_shaped_catch c) (IsShapedCatch c)
  tells_catch (s.CatchOf p b) = both (tells_param p) (tells_block b)

  pub tells_group : (g : s.Group) → Tells (is_shaped_group g) (IsShapedGroup g)
  tells_group (s.GroupOf labels all) =
      like (both (tells_stmts all) (both (itself (not (is_empty labels))) (each is_shaped_label IsShapedLabel tells_label labels)))
      (λ h. (h.1.0, h.1.1, h.0)) (λ h. (h.2, (h.0, h.1)))

  pub tells_stmts : (all : s.Stmts) → Tells (are_shaped_stmts all) (AreShapedStmts all)
  tells_stmts s.no_stmts = always
  tells_stmts (s.more_stmts a all) = both (tells_stmt a) (tells_stmts all)

  -- groups after one that is bare or not
  pub tells_groups : (bare : Bool) (gs : s.Groups) → Tells (are_shaped_groups bare gs) (IsTrue (not bare || not (has_group gs)) × AreShapedGroups gs)
  tells_groups bare s.no_groups = like always (λ h. (last_may bare, tt)) (λ h. tt)
  tells_groups bare (s.more_groups g all) =
      like (three (itself (not bare)) (tells_group g) (tells_groups (is_bare g) all))
      (λ h. (not_last bare ∙ h.0, (h.1, sym (bare_is g all) ∙ h.2.0, h.2.1)))
      (λ h. (sym (not_last bare) ∙ h.0, h.1.0, (bare_is g all ∙ h.1.1, h.1.2)))

  pub tells_catches : (cs : s.Catches) → Tells (are_shaped_catches cs) (AreShapedCatches cs)
  tells_catches s.no_catches = always
  tells_catches (s.more_catches c cs) = both (tells_catch c) (tells_catches cs)

-- ---- the body of a constructor

-- no statement is shaped both as one and as the call of a constructor
plain_first : (b : Bool) {P : Type 0} → Tells b P → Tells (b || false) P
plain_first true p = p
plain_first false p = p

pub tells_ctor_body : (b : s.Block) → Tells (is_shaped_ctor_body b) (IsShapedCtorBody b)
tells_ctor_body (s.BlockOf s.no_stmts) = always
tells_ctor_body (s.BlockOf (s.more_stmts (s.CtorCall which args) all)) = both (tells_exprs args) (tells_stmts all)
tells_ctor_body (s.BlockOf (s.more_stmts a all)) = both (plain_first (is_shaped_stmt a) (tells_stmt a)) (tells_stmts all)
