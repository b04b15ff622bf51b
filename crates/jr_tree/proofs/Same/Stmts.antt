-- Statements of the program and plain data are the same things.
use Rattle.std.proofs.Common.{◌≡◌, refl, ap, ◌∙◌, subst, List, [], ◌∷◌, map, Option, Some, None}
use Rattle.std.specs.Option.{option_map}
use Rattle.jr_tree.specs.declared.tree.Declarator as declared_declarator
use Rattle.jr_tree.specs.declared.tree.ForInit as declared_for
use Rattle.jr_tree.specs.declared.tree.ForInit.TheVariants as for
use Rattle.jr_tree.specs.declared.tree.SwitchLabel as declared_label
use Rattle.jr_tree.specs.declared.tree.SwitchLabel.TheVariants as label
use Rattle.jr_tree.specs.declared.tree.Stmt as declared_stmt
use Rattle.jr_tree.specs.declared.tree.Stmt.{roll-Stmt}
use Rattle.jr_tree.specs.declared.tree.Block as declared_block
use Rattle.jr_tree.specs.declared.tree.Block.{roll-Block}
use Rattle.jr_tree.specs.declared.tree.Catch as declared_catch
use Rattle.jr_tree.specs.declared.tree.Catch.{roll-Catch}
use Rattle.jr_tree.specs.declared.tree.Group as declared_group
use Rattle.jr_tree.specs.declared.tree.Group.{roll-Group}
use Rattle.jr_tree.specs.declared.tree.Stmt.TheOpen.{Stmt-F, Block-F, Catch-F, Group-F}
use Rattle.jr_tree.specs.declared.tree.Stmt.TheFolds.{map-Stmt, map-Block, map-Catch, map-Group, fold-roll-Stmt, fold-roll-Block, fold-roll-Catch, fold-roll-Group, ind-Stmt, ind-Block, ind-Catch, ind-Group}
use Rattle.jr_tree.specs.declared.tree.Expr as declared_expr
use Rattle.jr_tree.specs.Mirror.Exprs as e
use Rattle.jr_tree.specs.Mirror.Stmts as m
use Rattle.jr_tree.proofs.Same.Exprs as x
use Rattle.jr_tree.proofs.Same.Round.{round_option, round_list}

-- ---- what is not recursive

abbrev pub tree_declarator : m.Declarator → declared_declarator.Declarator
tree_declarator (m.DeclaratorOf name dims init) = record { name = name; dims = dims; init = option_map x.tree_init init }

abbrev pub tree_declarators : List m.Declarator → List declared_declarator.Declarator
tree_declarators all = map tree_declarator all

abbrev pub tree_for : m.ForInit → declared_for.ForInit
tree_for (m.Locals is_final ty decls) = for.Locals is_final ty (tree_declarators decls)
tree_for (m.Exprs exprs) = for.Exprs (x.tree_exprs exprs)

abbrev pub tree_label : m.SwitchLabel → declared_label.SwitchLabel
tree_label (m.Case value) = label.Case (x.tree_expr value)
tree_label m.Default = label.Default

abbrev pub tree_labels : List m.SwitchLabel → List declared_label.SwitchLabel
tree_labels all = map tree_label all

pub any_plain_tree_expr : (o : Option e.Expr) → option_map e.plain_expr (option_map x.tree_expr o) ≡ o
any_plain_tree_expr = round_option e.plain_expr x.tree_expr x.plain_tree_expr

pub any_tree_plain_expr : (o : Option declared_expr.Expr) → option_map x.tree_expr (option_map e.plain_expr o) ≡ o
any_tree_plain_expr = round_option x.tree_expr e.plain_expr x.tree_plain_expr

pub plain_tree_declarator : (d : m.Declarator) → m.plain_declarator (tree_declarator d) ≡ d
plain_tree_declarator (m.DeclaratorOf name dims init) = rw (round_option e.plain_init x.tree_init x.plain_tree_init init) refl

pub tree_plain_declarator : (d : declared_declarator.Declarator) → tree_declarator (m.plain_declarator d) ≡ d
tree_plain_declarator d = rw (round_option x.tree_init e.plain_init x.tree_plain_init d.init) refl

pub plain_tree_declarators : (all : List m.Declarator) → m.plain_declarators (tree_declarators all) ≡ all
plain_tree_declarators = round_list m.plain_declarator tree_declarator plain_tree_declarator

pub tree_plain_declarators : (all : List declared_declarator.Declarator) → tree_declarators (m.plain_declarators all) ≡ all
tree_plain_declarators = round_list tree_declarator m.plain_declarator tree_plain_declarator

pub plain_tree_for : (f : m.ForInit) → m.plain_for (tree_for f) ≡ f
plain_tree_for (m.Locals is_final ty decls) = rw (plain_tree_declarators decls) refl
plain_tree_for (m.Exprs exprs) = rw (x.plain_tree_exprs exprs) refl

pub tree_plain_for : (f : declared_for.ForInit) → tree_for (m.plain_for f) ≡ f
tree_plain_for (for.Locals is_final ty decls) = rw (tree_plain_declarators decls) refl
tree_plain_for (for.Exprs exprs) = rw (x.tree_plain_exprs exprs) refl

pub any_plain_tree_for : (o : Option m.ForInit) → option_map m.plain_for (option_map tree_for o) ≡ o
any_plain_tree_for = round_option m.plain_for tree_for plain_tree_for

pub any_tree_plain_for : (o : Option declared_for.ForInit) → option_map tree_for (option_map m.plain_for o) ≡ o
any_tree_plain_for = round_option tree_for m.plain_for tree_plain_for

pub plain_tree_label : (l : m.SwitchLabel) → m.plain_label (tree_label l) ≡ l
plain_tree_label (m.Case value) = rw (x.plain_tree_expr value) refl
plain_tree_label m.Default = refl

pub tree_plain_label : (l : declared_label.SwitchLabel) → tree_label (m.plain_label l) ≡ l
tree_plain_label (label.Case value) = rw (x.tree_plain_expr value) refl
tree_plain_label label.Default = refl

pub plain_tree_labels : (all : List m.SwitchLabel) → m.plain_labels (tree_labels all) ≡ all
plain_tree_labels = round_list m.plain_label tree_label plain_tree_label

pub tree_plain_labels : (all : List declared_label.SwitchLabel) → tree_labels (m.plain_labels all) ≡ all
tree_plain_labels = round_list tree_label m.plain_label tree_plain_label

-- ---- trees of plain data

abbrev mutual
  pub tree_stmt : m.Stmt → declared_stmt.Stmt
  tree_stmt (m.Nest a) = roll-Stmt (Stmt-F.Nest (tree_block a))
  tree_stmt (m.Local a b c) = roll-Stmt (Stmt-F.Local a b (tree_declarators c))
  tree_stmt m.Skip = roll-Stmt Stmt-F.Skip
  tree_stmt (m.Do a b) = roll-Stmt (Stmt-F.Do (tree_stmt a) (x.tree_expr b))
  tree_stmt (m.While a b) = roll-Stmt (Stmt-F.While (x.tree_expr a) (tree_stmt b))
  tree_stmt (m.If a b c) = roll-Stmt (Stmt-F.If (x.tree_expr a) (tree_stmt b) (tree_any_stmt c))
  tree_stmt (m.Eval a) = roll-Stmt (Stmt-F.Eval (x.tree_expr a))
  tree_stmt (m.For a b c d) = roll-Stmt (Stmt-F.For (option_map tree_for a) (option_map x.tree_expr b) (x.tree_exprs c) (tree_stmt d))
  tree_stmt (m.Switch a b) = roll-Stmt (Stmt-F.Switch (x.tree_expr a) (tree_groups b))
  tree_stmt (m.Labeled a b) = roll-Stmt (Stmt-F.Labeled a (tree_stmt b))
  tree_stmt (m.Break a) = roll-Stmt (Stmt-F.Break a)
  tree_stmt (m.Continue a) = roll-Stmt (Stmt-F.Continue a)
  tree_stmt (m.Return a) = roll-Stmt (Stmt-F.Return (option_map x.tree_expr a))
  tree_stmt (m.Throw a) = roll-Stmt (Stmt-F.Throw (x.tree_expr a))
  tree_stmt (m.Try a b c) = roll-Stmt (Stmt-F.Try (tree_block a) (tree_catches b) (tree_any_block c))
  tree_stmt (m.CtorCall a b) = roll-Stmt (Stmt-F.CtorCall a (x.tree_exprs b))

  pub tree_block : m.Block → declared_block.Block
  tree_block (m.BlockOf a) = roll-Block (record { stmts = tree_stmts a })

  pub tree_catch : m.Catch → declared_catch.Catch
  tree_catch (m.CatchOf a b) = roll-Catch (record { param = a; body = tree_block b })

  pub tree_group : m.Group → declared_group.Group
  tree_group (m.GroupOf a b) = roll-Group (record { labels = tree_labels a; stmts = tree_stmts b })

  pub tree_groups : m.Groups → List declared_group.Group
  tree_groups m.no_groups = []
  tree_groups (m.more_groups a all) = tree_group a ∷ tree_groups all

  pub tree_catches : m.Catches → List declared_catch.Catch
  tree_catches m.no_catches = []
  tree_catches (m.more_catches a all) = tree_catch a ∷ tree_catches all

  pub tree_stmts : m.Stmts → List declared_stmt.Stmt
  tree_stmts m.no_stmts = []
  tree_stmts (m.more_stmts a all) = tree_stmt a ∷ tree_stmts all

  pub tree_any_stmt : m.AnyStmt → Option declared_stmt.Stmt
  tree_any_stmt m.no_stmt = None
  tree_any_stmt (m.a_stmt a) = Some (tree_stmt a)

  pub tree_any_block : m.AnyBlock → Option declared_block.Block
  tree_any_block m.no_block = None
  tree_any_block (m.a_block a) = Some (tree_block a)

-- ---- plain data, made a tree and seen as plain data

mutual
  pub plain_tree_stmt : (y : m.Stmt) → m.plain_stmt (tree_stmt y) ≡ y
  plain_tree_stmt (m.Nest a) = fold-roll-Stmt m.Stmt m.Block m.Catch m.Group m.stmt_step m.block_step m.catch_step m.group_step (Stmt-F.Nest (tree_block a)) ∙ rw (plain_tree_block a) refl
  plain_tree_stmt (m.Local a b c) = fold-roll-Stmt m.Stmt m.Block m.Catch m.Group m.stmt_step m.block_step m.catch_step m.group_step (Stmt-F.Local a b (tree_declarators c)) ∙ rw (plain_tree_declarators c) refl
  plain_tree_stmt m.Skip = fold-roll-Stmt m.Stmt m.Block m.Catch m.Group m.stmt_step m.block_step m.catch_step m.group_step Stmt-F.Skip
  plain_tree_stmt (m.Do a b) = fold-roll-Stmt m.Stmt m.Block m.Catch m.Group m.stmt_step m.block_step m.catch_step m.group_step (Stmt-F.Do (tree_stmt a) (x.tree_expr b)) ∙ rw (plain_tree_stmt a, x.plain_tree_expr b) refl
  plain_tree_stmt (m.While a b) = fold-roll-Stmt m.Stmt m.Block m.Catch m.Group m.stmt_step m.block_step m.catch_step m.group_step (Stmt-F.While (x.tree_expr a) (tree_stmt b)) ∙ rw (x.plain_tree_expr a, plain_tree_stmt b) refl
  plain_tree_stmt (m.If a b m.no_stmt) = fold-roll-Stmt m.Stmt m.Block m.Catch m.Group m.stmt_step m.block_step m.catch_step m.group_step (Stmt-F.If (x.tree_expr a) (tree_stmt b) None) ∙ rw (x.plain_tree_expr a, plain_tree_stmt b) refl
  plain_tree_stmt (m.If a b (m.a_stmt c)) = fold-roll-Stmt m.Stmt m.Block m.Catch m.Group m.stmt_step m.block_step m.catch_step m.group_step (Stmt-F.If (x.tree_expr a) (tree_stmt b) (Some (tree_stmt c))) ∙ rw (x.plain_tree_expr a, plain_tree_stmt b, plain_tree_stmt c) refl
  plain_tree_stmt (m.Eval a) = fold-roll-Stmt m.Stmt m.Block m.Catch m.Group m.stmt_step m.block_step m.catch_step m.group_step (Stmt-F.Eval (x.tree_expr a)) ∙ rw (x.plain_tree_expr a) refl
  plain_tree_stmt (m.For a b c d) = fold-roll-Stmt m.Stmt m.Block m.Catch m.Group m.stmt_step m.block_step m.catch_step m.group_step (Stmt-F.For (option_map tree_for a) (option_map x.tree_expr b) (x.tree_exprs c) (tree_stmt d)) ∙ rw (any_plain_tree_for a, any_plain_tree_expr b, x.plain_tree_exprs c, plain_tree_stmt d) refl
  plain_tree_stmt (m.Switch a b) = fold-roll-Stmt m.Stmt m.Block m.Catch m.Group m.stmt_step m.block_step m.catch_step m.group_step (Stmt-F.Switch (x.tree_expr a) (tree_groups b)) ∙ rw (x.plain_tree_expr a, plain_tree_groups b) refl
  plain_tree_stmt (m.Labeled a b) = fold-roll-Stmt m.Stmt m.Block m.Catch m.Group m.stmt_step m.block_step m.catch_step m.group_step (Stmt-F.Labeled a (tree_stmt b)) ∙ rw (plain_tree_stmt b) refl
  plain_tree_stmt (m.Break a) = fold-roll-Stmt m.Stmt m.Block m.Catch m.Group m.stmt_step m.block_step m.catch_step m.group_step (Stmt-F.Break a)
  plain_tree_stmt (m.Continue a) = fold-roll-Stmt m.Stmt m.Block m.Catch m.Group m.stmt_step m.block_step m.catch_step m.group_step (Stmt-F.Continue a)
  plain_tree_stmt (m.Return a) = fold-roll-Stmt m.Stmt m.Block m.Catch m.Group m.stmt_step m.block_step m.catch_step m.group_step (Stmt-F.Return (option_map x.tree_expr a)) ∙ rw (any_plain_tree_expr a) refl
  plain_tree_stmt (m.Throw a) = fold-roll-Stmt m.Stmt m.Block m.Catch m.Group m.stmt_step m.block_step m.catch_step m.group_step (Stmt-F.Throw (x.tree_expr a)) ∙ rw (x.plain_tree_expr a) refl
  plain_tree_stmt (m.Try a b m.no_block) = fold-roll-Stmt m.Stmt m.Block m.Catch m.Group m.stmt_step m.block_step m.catch_step m.group_step (Stmt-F.Try (tree_block a) (tree_catches b) None) ∙ rw (plain_tree_block a, plain_tree_catches b) refl
  plain_tree_stmt (m.Try a b (m.a_block c)) = fold-roll-Stmt m.Stmt m.Block m.Catch m.Group m.stmt_step m.block_step m.catch_step m.group_step (Stmt-F.Try (tree_block a) (tree_catches b) (Some (tree_block c))) ∙ rw (plain_tree_block a, plain_tree_catches b, plain_tree_block c) refl
  plain_tree_stmt (m.CtorCall a b) = fold-roll-Stmt m.Stmt m.Block m.Catch m.Group m.stmt_step m.block_step m.catch_step m.group_step (Stmt-F.CtorCall a (x.tree_exprs b)) ∙ rw (x.plain_tree_exprs b) refl

  pub plain_tree_block : (y : m.Block) → m.plain_block (tree_block y) ≡ y
  plain_tree_block (m.BlockOf a) = fold-roll-Block m.Stmt m.Block m.Catch m.Group m.stmt_step m.block_step m.catch_step m.group_step (record { stmts = (tree_stmts a) }) ∙ rw (plain_tree_stmts a) refl

  pub plain_tree_catch : (y : m.Catch) → m.plain_catch (tree_catch y) ≡ y
  plain_tree_catch (m.CatchOf a b) = fold-roll-Catch m.Stmt m.Block m.Catch m.Group m.stmt_step m.block_step m.catch_step m.group_step (record { param = a; body = (tree_block b) }) ∙ rw (plain_tree_block b) refl

  pub plain_tree_group : (y : m.Group) → m.plain_group (tree_group y) ≡ y
  plain_tree_group (m.GroupOf a b) = fold-roll-Group m.Stmt m.Block m.Catch m.Group m.stmt_step m.block_step m.catch_step m.group_step (record { labels = (tree_labels a); stmts = (tree_stmts b) }) ∙ rw (plain_tree_labels a, plain_tree_stmts b) refl

  pub plain_tree_groups : (y : m.Groups) → m.plain_groups (tree_groups y) ≡ y
  plain_tree_groups m.no_groups = refl
  plain_tree_groups (m.more_groups a all) = rw (plain_tree_group a, plain_tree_groups all) refl

  pub plain_tree_catches : (y : m.Catches) → m.plain_catches (tree_catches y) ≡ y
  plain_tree_catches m.no_catches = refl
  plain_tree_catches (m.more_catches a all) = rw (plain_tree_catch a, plain_tree_catches all) refl

  pub plain_tree_stmts : (y : m.Stmts) → m.plain_stmts (tree_stmts y) ≡ y
  plain_tree_stmts m.no_stmts = refl
  plain_tree_stmts (m.more_stmts a all) = rw (plain_tree_stmt a, plain_tree_stmts all) refl

-- ---- a tree, seen as plain data and made a tree

abbrev BackStmt : declared_stmt.Stmt → Type 0
BackStmt y = tree_stmt (m.plain_stmt y) ≡ y

abbrev BackBlock : declared_block.Block → Type 0
BackBlock y = tree_block (m.plain_block y) ≡ y

abbrev BackCatch : declared_catch.Catch → Type 0
BackCatch y = tree_catch (m.plain_catch y) ≡ y

abbrev BackGroup : declared_group.Group → Type 0
BackGroup y = tree_group (m.plain_group y) ≡ y

abbrev SuchStmt : Type 0
SuchStmt = (y : declared_stmt.Stmt) × BackStmt y

abbrev SuchBlock : Type 0
SuchBlock = (y : declared_block.Block) × BackBlock y

abbrev SuchCatch : Type 0
SuchCatch = (y : declared_catch.Catch) × BackCatch y

abbrev SuchGroup : Type 0
SuchGroup = (y : declared_group.Group) × BackGroup y

backs_groups : (all : List SuchGroup) → tree_groups (m.plain_groups (map (λ p. p.0) all)) ≡ map (λ p. p.0) all
backs_groups [] = refl
backs_groups (p ∷ all) = rw (p.1, backs_groups all) refl

backs_catches : (all : List SuchCatch) → tree_catches (m.plain_catches (map (λ p. p.0) all)) ≡ map (λ p. p.0) all
backs_catches [] = refl
backs_catches (p ∷ all) = rw (p.1, backs_catches all) refl

backs_stmts : (all : List SuchStmt) → tree_stmts (m.plain_stmts (map (λ p. p.0) all)) ≡ map (λ p. p.0) all
backs_stmts [] = refl
backs_stmts (p ∷ all) = rw (p.1, backs_stmts all) refl

at_stmt : (y : Stmt-F SuchStmt SuchBlock SuchCatch SuchGroup) → BackStmt (roll-Stmt (map-Stmt SuchStmt SuchBlock SuchCatch SuchGroup declared_stmt.Stmt declared_block.Block declared_catch.Catch declared_group.Group (λ p. p.0) (λ p. p.0) (λ p. p.0) (λ p. p.0) y))
at_stmt (Stmt-F.Nest a) = ap tree_stmt (fold-roll-Stmt m.Stmt m.Block m.Catch m.Group m.stmt_step m.block_step m.catch_step m.group_step (Stmt-F.Nest a.0)) ∙ rw (a.1) refl
at_stmt (Stmt-F.Local a b c) = ap tree_stmt (fold-roll-Stmt m.Stmt m.Block m.Catch m.Group m.stmt_step m.block_step m.catch_step m.group_step (Stmt-F.Local a b c)) ∙ rw (tree_plain_declarators c) refl
at_stmt Stmt-F.Skip = ap tree_stmt (fold-roll-Stmt m.Stmt m.Block m.Catch m.Group m.stmt_step m.block_step m.catch_step m.group_step Stmt-F.Skip)
at_stmt (Stmt-F.Do a b) = ap tree_stmt (fold-roll-Stmt m.Stmt m.Block m.Catch m.Group m.stmt_step m.block_step m.catch_step m.group_step (Stmt-F.Do a.0 b)) ∙ rw (a.1, x.tree_plain_expr b) refl
at_stmt (Stmt-F.While a b) = ap tree_stmt (fold-roll-Stmt m.Stmt m.Block m.Catch m.Group m.stmt_step m.block_step m.catch_step m.group_step (Stmt-F.While a b.0)) ∙ rw (x.tree_plain_expr a, b.1) refl
at_stmt (Stmt-F.If a b None) = ap tree_stmt (fold-roll-Stmt m.Stmt m.Block m.Catch m.Group m.stmt_step m.block_step m.catch_step m.group_step (Stmt-F.If a b.0 None)) ∙ rw (x.tree_plain_expr a, b.1) refl
at_stmt (Stmt-F.If a b (Some c)) = ap tree_stmt (fold-roll-Stmt m.Stmt m.Block m.Catch m.Group m.stmt_step m.block_step m.catch_step m.group_step (Stmt-F.If a b.0 (Some c.0))) ∙ rw (x.tree_plain_expr a, b.1, c.1) refl
at_stmt (Stmt-F.Eval a) = ap tree_stmt (fold-roll-Stmt m.Stmt m.Block m.Catch m.Group m.stmt_step m.block_step m.catch_step m.group_step (Stmt-F.Eval a)) ∙ rw (x.tree_plain_expr a) refl
at_stmt (Stmt-F.For a b c d) = ap tree_stmt (fold-roll-Stmt m.Stmt m.Block m.Catch m.Group m.stmt_step m.block_step m.catch_step m.group_step (Stmt-F.For a b c d.0)) ∙ rw (any_tree_plain_for a, any_tree_plain_expr b, x.tree_plain_exprs c, d.1) refl
at_stmt (Stmt-F.Switch a b) = ap tree_stmt (fold-roll-Stmt m.Stmt m.Block m.Catch m.Group m.stmt_step m.block_step m.catch_step m.group_step (Stmt-F.Switch a (map (λ p. p.0) b))) ∙ rw (x.tree_plain_expr a, backs_groups b) refl
at_stmt (Stmt-F.Labeled a b) = ap tree_stmt (fold-roll-Stmt m.Stmt m.Block m.Catch m.Group m.stmt_step m.block_step m.catch_step m.group_step (Stmt-F.Labeled a b.0)) ∙ rw (b.1) refl
at_stmt (Stmt-F.Break a) = ap tree_stmt (fold-roll-Stmt m.Stmt m.Block m.Catch m.Group m.stmt_step m.block_step m.catch_step m.group_step (Stmt-F.Break a))
at_stmt (Stmt-F.Continue a) = ap tree_stmt (fold-roll-Stmt m.Stmt m.Block m.Catch m.Group m.stmt_step m.block_step m.catch_step m.group_step (Stmt-F.Continue a))
at_stmt (Stmt-F.Return a) = ap tree_stmt (fold-roll-Stmt m.Stmt m.Block m.Catch m.Group m.stmt_step m.block_step m.catch_step m.group_step (Stmt-F.Return a)) ∙ rw (any_tree_plain_expr a) refl
at_stmt (Stmt-F.Throw a) = ap tree_stmt (fold-roll-Stmt m.Stmt m.Block m.Catch m.Group m.stmt_step m.block_step m.catch_step m.group_step (Stmt-F.Throw a)) ∙ rw (x.tree_plain_expr a) refl
at_stmt (Stmt-F.Try a b None) = ap tree_stmt (fold-roll-Stmt m.Stmt m.Block m.Catch m.Group m.stmt_step m.block_step m.catch_step m.group_step (Stmt-F.Try a.0 (map (λ p. p.0) b) None)) ∙ rw (a.1, backs_catches b) refl
at_stmt (Stmt-F.Try a b (Some c)) = ap tree_stmt (fold-roll-Stmt m.Stmt m.Block m.Catch m.Group m.stmt_step m.block_step m.catch_step m.group_step (Stmt-F.Try a.0 (map (λ p. p.0) b) (Some c.0))) ∙ rw (a.1, backs_catches b, c.1) refl
at_stmt (Stmt-F.CtorCall a b) = ap tree_stmt (fold-roll-Stmt m.Stmt m.Block m.Catch m.Group m.stmt_step m.block_step m.catch_step m.group_step (Stmt-F.CtorCall a b)) ∙ rw (x.tree_plain_exprs b) refl

at_block : (y : Block-F SuchStmt SuchBlock SuchCatch SuchGroup) → BackBlock (roll-Block (map-Block SuchStmt SuchBlock SuchCatch SuchGroup declared_stmt.Stmt declared_block.Block declared_catch.Catch declared_group.Group (λ p. p.0) (λ p. p.0) (λ p. p.0) (λ p. p.0) y))
at_block y = ap tree_block (fold-roll-Block m.Stmt m.Block m.Catch m.Group m.stmt_step m.block_step m.catch_step m.group_step (map-Block SuchStmt SuchBlock SuchCatch SuchGroup declared_stmt.Stmt declared_block.Block declared_catch.Catch declared_group.Group (λ p. p.0) (λ p. p.0) (λ p. p.0) (λ p. p.0) y)) ∙ rw (backs_stmts y.stmts) refl

at_catch : (y : Catch-F SuchStmt SuchBlock SuchCatch SuchGroup) → BackCatch (roll-Catch (map-Catch SuchStmt SuchBlock SuchCatch SuchGroup declared_stmt.Stmt declared_block.Block declared_catch.Catch declared_group.Group (λ p. p.0) (λ p. p.0) (λ p. p.0) (λ p. p.0) y))
at_catch y = ap tree_catch (fold-roll-Catch m.Stmt m.Block m.Catch m.Group m.stmt_step m.block_step m.catch_step m.group_step (map-Catch SuchStmt SuchBlock SuchCatch SuchGroup declared_stmt.Stmt declared_block.Block declared_catch.Catch declared_group.Group (λ p. p.0) (λ p. p.0) (λ p. p.0) (λ p. p.0) y)) ∙ rw (y.body.1) refl

at_group : (y : Group-F SuchStmt SuchBlock SuchCatch SuchGroup) → BackGroup (roll-Group (map-Group SuchStmt SuchBlock SuchCatch SuchGroup declared_stmt.Stmt declared_block.Block declared_catch.Catch declared_group.Group (λ p. p.0) (λ p. p.0) (λ p. p.0) (λ p. p.0) y))
at_group y = ap tree_group (fold-roll-Group m.Stmt m.Block m.Catch m.Group m.stmt_step m.block_step m.catch_step m.group_step (map-Group SuchStmt SuchBlock SuchCatch SuchGroup declared_stmt.Stmt declared_block.Block declared_catch.Catch declared_group.Group (λ p. p.0) (λ p. p.0) (λ p. p.0) (λ p. p.0) y)) ∙ rw (tree_plain_labels y.labels, backs_stmts y.stmts) refl

pub tree_plain_stmt : (y : declared_stmt.Stmt) → BackStmt y
tree_plain_stmt = ind-Stmt BackStmt BackBlock BackCatch BackGroup (λ z y h. subst (λ z. BackStmt (roll-Stmt z)) h (at_stmt y)) (λ z y h. subst (λ z. BackBlock (roll-Block z)) h (at_block y)) (λ z y h. subst (λ z. BackCatch (roll-Catch z)) h (at_catch y)) (λ z y h. subst (λ z. BackGroup (roll-Group z)) h (at_group y))

pub tree_plain_block : (y : declared_block.Block) → BackBlock y
tree_plain_block = ind-Block BackStmt BackBlock BackCatch BackGroup (λ z y h. subst (λ z. BackStmt (roll-Stmt z)) h (at_stmt y)) (λ z y h. subst (λ z. BackBlock (roll-Block z)) h (at_block y)) (λ z y h. subst (λ z. BackCatch (roll-Catch z)) h (at_catch y)) (λ z y h. subst (λ z. BackGroup (roll-Group z)) h (at_group y))

pub tree_plain_catch : (y : declared_catch.Catch) → BackCatch y
tree_plain_catch = ind-Catch BackStmt BackBlock BackCatch BackGroup (λ z y h. subst (λ z. BackStmt (roll-Stmt z)) h (at_stmt y)) (λ z y h. subst (λ z. BackBlock (roll-Block z)) h (at_block y)) (λ z y h. subst (λ z. BackCatch (roll-Catch z)) h (at_catch y)) (λ z y h. subst (λ z. BackGroup (roll-Group z)) h (at_group y))

pub tree_plain_group : (y : declared_group.Group) → BackGroup y
tree_plain_group = ind-Group BackStmt BackBlock BackCatch BackGroup (λ z y h. subst (λ z. BackStmt (roll-Stmt z)) h (at_stmt y)) (λ z y h. subst (λ z. BackBlock (roll-Block z)) h (at_block y)) (λ z y h. subst (λ z. BackCatch (roll-Catch z)) h (at_catch y)) (λ z y h. subst (λ z. BackGroup (roll-Group z)) h (at_group y))

pub tree_plain_groups : (all : List declared_group.Group) → tree_groups (m.plain_groups all) ≡ all
tree_plain_groups [] = refl
tree_plain_groups (a ∷ all) = rw (tree_plain_group a, tree_plain_groups all) refl

pub tree_plain_catches : (all : List declared_catch.Catch) → tree_catches (m.plain_catches all) ≡ all
tree_plain_catches [] = refl
tree_plain_catches (a ∷ all) = rw (tree_plain_catch a, tree_plain_catches all) refl

pub tree_plain_stmts : (all : List declared_stmt.Stmt) → tree_stmts (m.plain_stmts all) ≡ all
tree_plain_stmts [] = refl
tree_plain_stmts (a ∷ all) = rw (tree_plain_stmt a, tree_plain_stmts all) refl
