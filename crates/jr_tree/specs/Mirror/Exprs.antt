-- Expressions as plain data, and what an expression of the program is as such (JLS 15).
use Rattle.std.specs.Prelude.{ℕ, Bool, List, [], ◌∷◌, map, Option, Some, None}
use Rattle.std.specs.Option.{option_map}
use Rattle.jr_base.specs.declared.text.Text.{Text}
use Rattle.jr_base.specs.declared.kind.Kind.{Kind}
use Rattle.jr_base.specs.declared.kind.Symbol.{Symbol}
use Rattle.jr_tree.specs.declared.tree.Name.{Name}
use Rattle.jr_tree.specs.declared.tree.Base.{Base}
use Rattle.jr_tree.specs.declared.tree.TypeUse.{TypeUse}
use Rattle.jr_tree.specs.declared.tree.Expr as declared_expr
use Rattle.jr_tree.specs.declared.tree.Init as declared_init
use Rattle.jr_tree.specs.declared.tree.Receiver as declared_receiver
use Rattle.jr_tree.specs.declared.tree.InitList as declared_list
use Rattle.jr_tree.specs.declared.tree.Expr.TheOpen.{Expr-F, Init-F, Receiver-F, InitList-F}
use Rattle.jr_tree.specs.declared.tree.Expr.TheFolds.{fold-Expr, fold-Init, fold-Receiver, fold-InitList}

mutual
  pub data Expr : Type 0 where
    Assign : Expr → Symbol → Expr → Expr
    Cond : Expr → Expr → Expr → Expr
    Binary : Expr → Symbol → Expr → Expr
    IsA : Expr → TypeUse → Expr
    Unary : Symbol → Expr → Expr
    Cast : TypeUse → Expr → Expr
    PreStep : Symbol → Expr → Expr
    PostStep : Expr → Symbol → Expr
    Lit : Kind → Expr
    This : Option Name → Expr
    Paren : Expr → Expr
    NameExpr : Name → Expr
    Select : Expr → Text → Expr
    SuperSelect : Text → Expr
    Index : Expr → Expr → Expr
    Call : AnyReceiver → Text → Exprs → Expr
    New : Name → Exprs → Expr
    NewArray : Base → Exprs → ℕ → AnyList → Expr

  pub data Init : Type 0 where
    Value : Expr → Init
    Listed : InitList → Init

  pub data Receiver : Type 0 where
    Of : Expr → Receiver
    OfName : Name → Receiver
    Super : Receiver

  pub data InitList : Type 0 where
    ListOf : Inits → Bool → InitList

  pub data Exprs : Type 0 where
    no_exprs : Exprs
    more_exprs : Expr → Exprs → Exprs

  pub data Inits : Type 0 where
    no_inits : Inits
    more_inits : Init → Inits → Inits

  pub data AnyReceiver : Type 0 where
    no_receiver : AnyReceiver
    a_receiver : Receiver → AnyReceiver

  pub data AnyList : Type 0 where
    no_list : AnyList
    a_list : InitList → AnyList

-- ---- lists and options of plain data

abbrev pub exprs : List Expr → Exprs
exprs [] = no_exprs
exprs (x ∷ xs) = more_exprs x (exprs xs)

abbrev pub inits : List Init → Inits
inits [] = no_inits
inits (x ∷ xs) = more_inits x (inits xs)

abbrev pub any_receiver : Option Receiver → AnyReceiver
any_receiver None = no_receiver
any_receiver (Some x) = a_receiver x

abbrev pub any_list : Option InitList → AnyList
any_list None = no_list
any_list (Some x) = a_list x

-- ---- one level, with what each part is as plain data in its place

abbrev pub expr_step : Expr-F Expr Init Receiver InitList → Expr
expr_step (Expr-F.Assign a b c) = Assign a b c
expr_step (Expr-F.Cond a b c) = Cond a b c
expr_step (Expr-F.Binary a b c) = Binary a b c
expr_step (Expr-F.IsA a b) = IsA a b
expr_step (Expr-F.Unary a b) = Unary a b
expr_step (Expr-F.Cast a b) = Cast a b
expr_step (Expr-F.PreStep a b) = PreStep a b
expr_step (Expr-F.PostStep a b) = PostStep a b
expr_step (Expr-F.Lit a) = Lit a
expr_step (Expr-F.This a) = This a
expr_step (Expr-F.Paren a) = Paren a
expr_step (Expr-F.NameExpr a) = NameExpr a
expr_step (Expr-F.Select a b) = Select a b
expr_step (Expr-F.SuperSelect a) = SuperSelect a
expr_step (Expr-F.Index a b) = Index a b
expr_step (Expr-F.Call a b c) = Call (any_receiver a) b (exprs c)
expr_step (Expr-F.New a b) = New a (exprs b)
expr_step (Expr-F.NewArray a b c d) = NewArray a (exprs b) c (any_list d)

abbrev pub init_step : Init-F Expr Init Receiver InitList → Init
init_step (Init-F.Value a) = Value a
init_step (Init-F.List a) = Listed a

abbrev pub receiver_step : Receiver-F Expr Init Receiver InitList → Receiver
receiver_step (Receiver-F.Of a) = Of a
receiver_step (Receiver-F.OfName a) = OfName a
receiver_step Receiver-F.Super = Super

abbrev pub list_step : InitList-F Expr Init Receiver InitList → InitList
list_step y = ListOf (inits y.items) y.is_open_ended

-- ---- the views

abbrev pub plain_expr : declared_expr.Expr → Expr
plain_expr = fold-Expr Expr Init Receiver InitList expr_step init_step receiver_step list_step

abbrev pub plain_init : declared_init.Init → Init
plain_init = fold-Init Expr Init Receiver InitList expr_step init_step receiver_step list_step

abbrev pub plain_receiver : declared_receiver.Receiver → Receiver
plain_receiver = fold-Receiver Expr Init Receiver InitList expr_step init_step receiver_step list_step

abbrev pub plain_list : declared_list.InitList → InitList
plain_list = fold-InitList Expr Init Receiver InitList expr_step init_step receiver_step list_step

abbrev pub plain_exprs : List declared_expr.Expr → Exprs
plain_exprs all = exprs (map plain_expr all)

abbrev pub plain_inits : List declared_init.Init → Inits
plain_inits all = inits (map plain_init all)

abbrev pub plain_any_receiver : Option declared_receiver.Receiver → AnyReceiver
plain_any_receiver any = any_receiver (option_map plain_receiver any)

abbrev pub plain_any_list : Option declared_list.InitList → AnyList
plain_any_list any = any_list (option_map plain_list any)
