-- Statements as plain data, and what a statement of the program is as such (JLS 14).
use Rattle.std.specs.Prelude.{ℕ, Bool, List, [], ◌∷◌, map, Option, Some, None}
use Rattle.std.specs.Option.{option_map}
use Rattle.jr_base.specs.declared.text.Text.{Text}
use Rattle.jr_tree.specs.declared.tree.TypeUse.{TypeUse}
use Rattle.jr_tree.specs.declared.tree.Param.{Param}
use Rattle.jr_tree.specs.declared.tree.ThisOrSuper.{ThisOrSuper}
use Rattle.jr_tree.specs.declared.tree.Declarator as declared_declarator
use Rattle.jr_tree.specs.declared.tree.ForInit as declared_for
use Rattle.jr_tree.specs.declared.tree.ForInit.TheVariants as for
use Rattle.jr_tree.specs.declared.tree.SwitchLabel as declared_label
use Rattle.jr_tree.specs.declared.tree.SwitchLabel.TheVariants as label
use Rattle.jr_tree.specs.declared.tree.Stmt as declared_stmt
use Rattle.jr_tree.specs.declared.tree.Block as declared_block
use Rattle.jr_tree.specs.declared.tree.Catch as declared_catch
use Rattle.jr_tree.specs.declared.tree.Group as declared_group
use Rattle.jr_tree.specs.declared.tree.Stmt.TheOpen.{Stmt-F, Block-F, Catch-F, Group-F}
use Rattle.jr_tree.specs.declared.tree.Stmt.TheFolds.{fold-Stmt, fold-Block, fold-Catch, fold-Group}
use Rattle.jr_tree.specs.Mirror.Exprs as x

-- ---- what is not recursive, but holds expressions

pub data Declarator : Type 0 where
  DeclaratorOf : Text → ℕ → Option x.Init → Declarator

pub data ForInit : Type 0 where
  Locals : Bool → TypeUse → List Declarator → ForInit
  Exprs : x.Exprs → ForInit

pub data SwitchLabel : Type 0 where
  Case : x.Expr → SwitchLabel
  Default : SwitchLabel

abbrev pub plain_declarator : declared_declarator.Declarator → Declarator
plain_declarator d = DeclaratorOf d.name d.dims (option_map x.plain_init d.init)

abbrev pub plain_declarators : List declared_declarator.Declarator → List Declarator
plain_declarators all = map plain_declarator all

abbrev pub plain_for : declared_for.ForInit → ForInit
plain_for (for.Locals is_final ty decls) = Locals is_final ty (plain_declarators decls)
plain_for (for.Exprs exprs) = Exprs (x.plain_exprs exprs)

abbrev pub plain_label : declared_label.SwitchLabel → SwitchLabel
plain_label (label.Case value) = Case (x.plain_expr value)
plain_label label.Default = Default

abbrev pub plain_labels : List declared_label.SwitchLabel → List SwitchLabel
plain_labels all = map plain_label all

-- ---- statements

mutual
  pub data Stmt : Type 0 where
    Nest : Block → Stmt
    Local : Bool → TypeUse → List Declarator → Stmt
    Skip : Stmt
    Do : Stmt → x.Expr → Stmt
    While : x.Expr → Stmt → Stmt
    If : x.Expr → Stmt → AnyStmt → Stmt
    Eval : x.Expr → Stmt
    For : Option ForInit → Option x.Expr → x.Exprs → Stmt → Stmt
    Switch : x.Expr → Groups → Stmt
    Labeled : Text → Stmt → Stmt
    Break : Option Text → Stmt
    Continue : Option Text → Stmt
    Return : Option x.Expr → Stmt
    Throw : x.Expr → Stmt
    Try : Block → Catches → AnyBlock → Stmt
    CtorCall : ThisOrSuper → x.Exprs → Stmt

  pub data Block : Type 0 where
    BlockOf : Stmts → Block

  pub data Catch : Type 0 where
    CatchOf : Param → Block → Catch

  pub data Group : Type 0 where
    GroupOf : List SwitchLabel → Stmts → Group

  pub data Groups : Type 0 where
    no_groups : Groups
    more_groups : Group → Groups → Groups

  pub data Catches : Type 0 where
    no_catches : Catches
    more_catches : Catch → Catches → Catches

  pub data Stmts : Type 0 where
    no_stmts : Stmts
    more_stmts : Stmt → Stmts → Stmts

  pub data AnyStmt : Type 0 where
    no_stmt : AnyStmt
    a_stmt : Stmt → AnyStmt

  pub data AnyBlock : Type 0 where
    no_block : AnyBlock
    a_block : Block → AnyBlock

-- ---- lists and options of plain data

abbrev pub groups : List Group → Groups
groups [] = no_groups
groups (x ∷ xs) = more_groups x (groups xs)

abbrev pub catches : List Catch → Catches
catches [] = no_catches
catches (x ∷ xs) = more_catches x (catches xs)

abbrev pub stmts : List Stmt → Stmts
stmts [] = no_stmts
stmts (x ∷ xs) = more_stmts x (stmts xs)

abbrev pub any_stmt : Option Stmt → AnyStmt
any_stmt None = no_stmt
any_stmt (Some x) = a_stmt x

abbrev pub any_block : Option Block → AnyBlock
any_block None = no_block
any_block (Some x) = a_block x

-- ---- one level, with what each part is as plain data in its place

abbrev pub stmt_step : Stmt-F Stmt Block Catch Group → Stmt
stmt_step (Stmt-F.Nest a) = Nest a
stmt_step (Stmt-F.Local a b c) = Local a b (plain_declarators c)
stmt_step Stmt-F.Skip = Skip
stmt_step (Stmt-F.Do a b) = Do a (x.plain_expr b)
stmt_step (Stmt-F.While a b) = While (x.plain_expr a) b
stmt_step (Stmt-F.If a b c) = If (x.plain_expr a) b (any_stmt c)
stmt_step (Stmt-F.Eval a) = Eval (x.plain_expr a)
stmt_step (Stmt-F.For a b c d) = For (option_map plain_for a) (option_map x.plain_expr b) (x.plain_exprs c) d
stmt_step (Stmt-F.Switch a b) = Switch (x.plain_expr a) (groups b)
stmt_step (Stmt-F.Labeled a b) = Labeled a b
stmt_step (Stmt-F.Break a) = Break a
stmt_step (Stmt-F.Continue a) = Continue a
stmt_step (Stmt-F.Return a) = Return (option_map x.plain_expr a)
stmt_step (Stmt-F.Throw a) = Throw (x.plain_expr a)
stmt_step (Stmt-F.Try a b c) = Try a (catches b) (any_block c)
stmt_step (Stmt-F.CtorCall a b) = CtorCall a (x.plain_exprs b)

abbrev pub block_step : Block-F Stmt Block Catch Group → Block
block_step y = BlockOf (stmts y.stmts)

abbrev pub catch_step : Catch-F Stmt Block Catch Group → Catch
catch_step y = CatchOf y.param y.body

abbrev pub group_step : Group-F Stmt Block Catch Group → Group
group_step y = GroupOf (plain_labels y.labels) (stmts y.stmts)

-- ---- the views

abbrev pub plain_stmt : declared_stmt.Stmt → Stmt
plain_stmt = fold-Stmt Stmt Block Catch Group stmt_step block_step catch_step group_step

abbrev pub plain_block : declared_block.Block → Block
plain_block = fold-Block Stmt Block Catch Group stmt_step block_step catch_step group_step

abbrev pub plain_catch : declared_catch.Catch → Catch
plain_catch = fold-Catch Stmt Block Catch Group stmt_step block_step catch_step group_step

abbrev pub plain_group : declared_group.Group → Group
plain_group = fold-Group Stmt Block Catch Group stmt_step block_step catch_step group_step

abbrev pub plain_groups : List declared_group.Group → Groups
plain_groups all = groups (map plain_group all)

abbrev pub plain_catches : List declared_catch.Catch → Catches
plain_catches all = catches (map plain_catch all)

abbrev pub plain_stmts : List declared_stmt.Stmt → Stmts
plain_stmts all = stmts (map plain_stmt all)

abbrev pub plain_any_stmt : Option declared_stmt.Stmt → AnyStmt
plain_any_stmt any = any_stmt (option_map plain_stmt any)

abbrev pub plain_any_block : Option declared_block.Block → AnyBlock
plain_any_block any = any_block (option_map plain_block any)
