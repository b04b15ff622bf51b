-- Expressions of the program and plain data are the same things.
use Rattle.std.proofs.Common.{◌≡◌, refl, ap, ◌∙◌, subst, List, [], ◌∷◌, map, Option, Some, None}
use Rattle.jr_tree.specs.declared.tree.Expr as declared_expr
use Rattle.jr_tree.specs.declared.tree.Expr.{roll-Expr}
use Rattle.jr_tree.specs.declared.tree.Init as declared_init
use Rattle.jr_tree.specs.declared.tree.Init.{roll-Init}
use Rattle.jr_tree.specs.declared.tree.Receiver as declared_receiver
use Rattle.jr_tree.specs.declared.tree.Receiver.{roll-Receiver}
use Rattle.jr_tree.specs.declared.tree.InitList as declared_list
use Rattle.jr_tree.specs.declared.tree.InitList.{roll-InitList}
use Rattle.jr_tree.specs.declared.tree.Expr.TheOpen.{Expr-F, Init-F, Receiver-F, InitList-F}
use Rattle.jr_tree.specs.declared.tree.Expr.TheFolds.{map-Expr, map-Init, map-Receiver, map-InitList, fold-roll-Expr, fold-roll-Init, fold-roll-Receiver, fold-roll-InitList, ind-Expr, ind-Init, ind-Receiver, ind-InitList}
use Rattle.jr_tree.specs.Mirror.Exprs as m

-- ---- trees of plain data

abbrev mutual
  pub tree_expr : m.Expr → declared_expr.Expr
  tree_expr (m.Assign a b c) = roll-Expr (Expr-F.Assign (tree_expr a) b (tree_expr c))
  tree_expr (m.Cond a b c) = roll-Expr (Expr-F.Cond (tree_expr a) (tree_expr b) (tree_expr c))
  tree_expr (m.Binary a b c) = roll-Expr (Expr-F.Binary (tree_expr a) b (tree_expr c))
  tree_expr (m.IsA a b) = roll-Expr (Expr-F.IsA (tree_expr a) b)
  tree_expr (m.Unary a b) = roll-Expr (Expr-F.Unary a (tree_expr b))
  tree_expr (m.Cast a b) = roll-Expr (Expr-F.Cast a (tree_expr b))
  tree_expr (m.PreStep a b) = roll-Expr (Expr-F.PreStep a (tree_expr b))
  tree_expr (m.PostStep a b) = roll-Expr (Expr-F.PostStep (tree_expr a) b)
  tree_expr (m.Lit a) = roll-Expr (Expr-F.Lit a)
  tree_expr (m.This a) = roll-Expr (Expr-F.This a)
  tree_expr (m.Paren a) = roll-Expr (Expr-F.Paren (tree_expr a))
  tree_expr (m.NameExpr a) = roll-Expr (Expr-F.NameExpr a)
  tree_expr (m.Select a b) = roll-Expr (Expr-F.Select (tree_expr a) b)
  tree_expr (m.SuperSelect a) = roll-Expr (Expr-F.SuperSelect a)
  tree_expr (m.Index a b) = roll-Expr (Expr-F.Index (tree_expr a) (tree_expr b))
  tree_expr (m.Call a b c) = roll-Expr (Expr-F.Call (tree_any_receiver a) b (tree_exprs c))
  tree_expr (m.New a b) = roll-Expr (Expr-F.New a (tree_exprs b))
  tree_expr (m.NewArray a b c d) = roll-Expr (Expr-F.NewArray a (tree_exprs b) c (tree_any_list d))

  pub tree_init : m.Init → declared_init.Init
  tree_init (m.Value a) = roll-Init (Init-F.Value (tree_expr a))
  tree_init (m.Listed a) = roll-Init (Init-F.List (tree_list a))

  pub tree_receiver : m.Receiver → declared_receiver.Receiver
  tree_receiver (m.Of a) = roll-Receiver (Receiver-F.Of (tree_expr a))
  tree_receiver (m.OfName a) = roll-Receiver (Receiver-F.OfName a)
  tree_receiver m.Super = roll-Receiver Receiver-F.Super

  pub tree_list : m.InitList → declared_list.InitList
  tree_list (m.ListOf a b) = roll-InitList (record { items = tree_inits a; is_open_ended = b })

  pub tree_exprs : m.Exprs → List declared_expr.Expr
  tree_exprs m.no_exprs = []
  tree_exprs (m.more_exprs a all) = tree_expr a ∷ tree_exprs all

  pub tree_inits : m.Inits → List declared_init.Init
  tree_inits m.no_inits = []
  tree_inits (m.more_inits a all) = tree_init a ∷ tree_inits all

  pub tree_any_receiver : m.AnyReceiver → Option declared_receiver.Receiver
  tree_any_receiver m.no_receiver = None
  tree_any_receiver (m.a_receiver a) = Some (tree_receiver a)

  pub tree_any_list : m.AnyList → Option declared_list.InitList
  tree_any_list m.no_list = None
  tree_any_list (m.a_list a) = Some (tree_list a)

-- ---- plain data, made a tree and seen as plain data

mutual
  pub plain_tree_expr : (y : m.Expr) → m.plain_expr (tree_expr y) ≡ y
  plain_tree_expr (m.Assign a b c) = fold-roll-Expr m.Expr m.Init m.Receiver m.InitList m.expr_step m.init_step m.receiver_step m.list_step (Expr-F.Assign (tree_expr a) b (tree_expr c)) ∙ rw (plain_tree_expr a, plain_tree_expr c) refl
  plain_tree_expr (m.Cond a b c) = fold-roll-Expr m.Expr m.Init m.Receiver m.InitList m.expr_step m.init_step m.receiver_step m.list_step (Expr-F.Cond (tree_expr a) (tree_expr b) (tree_expr c)) ∙ rw (plain_tree_expr a, plain_tree_expr b, plain_tree_expr c) refl
  plain_tree_expr (m.Binary a b c) = fold-roll-Expr m.Expr m.Init m.Receiver m.InitList m.expr_step m.init_step m.receiver_step m.list_step (Expr-F.Binary (tree_expr a) b (tree_expr c)) ∙ rw (plain_tree_expr a, plain_tree_expr c) refl
  plain_tree_expr (m.IsA a b) = fold-roll-Expr m.Expr m.Init m.Receiver m.InitList m.expr_step m.init_step m.receiver_step m.list_step (Expr-F.IsA (tree_expr a) b) ∙ rw (plain_tree_expr a) refl
  plain_tree_expr (m.Unary a b) = fold-roll-Expr m.Expr m.Init m.Receiver m.InitList m.expr_step m.init_step m.receiver_step m.list_step (Expr-F.Unary a (tree_expr b)) ∙ rw (plain_tree_expr b) refl
  plain_tree_expr (m.Cast a b) = fold-roll-Expr m.Expr m.Init m.Receiver m.InitList m.expr_step m.init_step m.receiver_step m.list_step (Expr-F.Cast a (tree_expr b)) ∙ rw (plain_tree_expr b) refl
  plain_tree_expr (m.PreStep a b) = fold-roll-Expr m.Expr m.Init m.Receiver m.InitList m.expr_step m.init_step m.receiver_step m.list_step (Expr-F.PreStep a (tree_expr b)) ∙ rw (plain_tree_expr b) refl
  plain_tree_expr (m.PostStep a b) = fold-roll-Expr m.Expr m.Init m.Receiver m.InitList m.expr_step m.init_step m.receiver_step m.list_step (Expr-F.PostStep (tree_expr a) b) ∙ rw (plain_tree_expr a) refl
  plain_tree_expr (m.Lit a) = fold-roll-Expr m.Expr m.Init m.Receiver m.InitList m.expr_step m.init_step m.receiver_step m.list_step (Expr-F.Lit a)
  plain_tree_expr (m.This a) = fold-roll-Expr m.Expr m.Init m.Receiver m.InitList m.expr_step m.init_step m.receiver_step m.list_step (Expr-F.This a)
  plain_tree_expr (m.Paren a) = fold-roll-Expr m.Expr m.Init m.Receiver m.InitList m.expr_step m.init_step m.receiver_step m.list_step (Expr-F.Paren (tree_expr a)) ∙ rw (plain_tree_expr a) refl
  plain_tree_expr (m.NameExpr a) = fold-roll-Expr m.Expr m.Init m.Receiver m.InitList m.expr_step m.init_step m.receiver_step m.list_step (Expr-F.NameExpr a)
  plain_tree_expr (m.Select a b) = fold-roll-Expr m.Expr m.Init m.Receiver m.InitList m.expr_step m.init_step m.receiver_step m.list_step (Expr-F.Select (tree_expr a) b) ∙ rw (plain_tree_expr a) refl
  plain_tree_expr (m.SuperSelect a) = fold-roll-Expr m.Expr m.Init m.Receiver m.InitList m.expr_step m.init_step m.receiver_step m.list_step (Expr-F.SuperSelect a)
  plain_tree_expr (m.Index a b) = fold-roll-Expr m.Expr m.Init m.Receiver m.InitList m.expr_step m.init_step m.receiver_step m.list_step (Expr-F.Index (tree_expr a) (tree_expr b)) ∙ rw (plain_tree_expr a, plain_tree_expr b) refl
  plain_tree_expr (m.Call m.no_receiver b c) = fold-roll-Expr m.Expr m.Init m.Receiver m.InitList m.expr_step m.init_step m.receiver_step m.list_step (Expr-F.Call None b (tree_exprs c)) ∙ rw (plain_tree_exprs c) refl
  plain_tree_expr (m.Call (m.a_receiver a) b c) = fold-roll-Expr m.Expr m.Init m.Receiver m.InitList m.expr_step m.init_step m.receiver_step m.list_step (Expr-F.Call (Some (tree_receiver a)) b (tree_exprs c)) ∙ rw (plain_tree_receiver a, plain_tree_exprs c) refl
  plain_tree_expr (m.New a b) = fold-roll-Expr m.Expr m.Init m.Receiver m.InitList m.expr_step m.init_step m.receiver_step m.list_step (Expr-F.New a (tree_exprs b)) ∙ rw (plain_tree_exprs b) refl
  plain_tree_expr (m.NewArray a b c m.no_list) = fold-roll-Expr m.Expr m.Init m.Receiver m.InitList m.expr_step m.init_step m.receiver_step m.list_step (Expr-F.NewArray a (tree_exprs b) c None) ∙ rw (plain_tree_exprs b) refl
  plain_tree_expr (m.NewArray a b c (m.a_list d)) = fold-roll-Expr m.Expr m.Init m.Receiver m.InitList m.expr_step m.init_step m.receiver_step m.list_step (Expr-F.NewArray a (tree_exprs b) c (Some (tree_list d))) ∙ rw (plain_tree_exprs b, plain_tree_list d) refl

  pub plain_tree_init : (y : m.Init) → m.plain_init (tree_init y) ≡ y
  plain_tree_init (m.Value a) = fold-roll-Init m.Expr m.Init m.Receiver m.InitList m.expr_step m.init_step m.receiver_step m.list_step (Init-F.Value (tree_expr a)) ∙ rw (plain_tree_expr a) refl
  plain_tree_init (m.Listed a) = fold-roll-Init m.Expr m.Init m.Receiver m.InitList m.expr_step m.init_step m.receiver_step m.list_step (Init-F.List (tree_list a)) ∙ rw (plain_tree_list a) refl

  pub plain_tree_receiver : (y : m.Receiver) → m.plain_receiver (tree_receiver y) ≡ y
  plain_tree_receiver (m.Of a) = fold-roll-Receiver m.Expr m.Init m.Receiver m.InitList m.expr_step m.init_step m.receiver_step m.list_step (Receiver-F.Of (tree_expr a)) ∙ rw (plain_tree_expr a) refl
  plain_tree_receiver (m.OfName a) = fold-roll-Receiver m.Expr m.Init m.Receiver m.InitList m.expr_step m.init_step m.receiver_step m.list_step (Receiver-F.OfName a)
  plain_tree_receiver m.Super = fold-roll-Receiver m.Expr m.Init m.Receiver m.InitList m.expr_step m.init_step m.receiver_step m.list_step Receiver-F.Super

  pub plain_tree_list : (y : m.InitList) → m.plain_list (tree_list y) ≡ y
  plain_tree_list (m.ListOf a b) = fold-roll-InitList m.Expr m.Init m.Receiver m.InitList m.expr_step m.init_step m.receiver_step m.list_step (record { items = (tree_inits a); is_open_ended = b }) ∙ rw (plain_tree_inits a) refl

  pub plain_tree_exprs : (y : m.Exprs) → m.plain_exprs (tree_exprs y) ≡ y
  plain_tree_exprs m.no_exprs = refl
  plain_tree_exprs (m.more_exprs a all) = rw (plain_tree_expr a, plain_tree_exprs all) refl

  pub plain_tree_inits : (y : m.Inits) → m.plain_inits (tree_inits y) ≡ y
  plain_tree_inits m.no_inits = refl
  plain_tree_inits (m.more_inits a all) = rw (plain_tree_init a, plain_tree_inits all) refl

-- ---- a tree, seen as plain data and made a tree

abbrev BackExpr : declared_expr.Expr → Type 0
BackExpr y = tree_expr (m.plain_expr y) ≡ y

abbrev BackInit : declared_init.Init → Type 0
BackInit y = tree_init (m.plain_init y) ≡ y

abbrev BackReceiver : declared_receiver.Receiver → Type 0
BackReceiver y = tree_receiver (m.plain_receiver y) ≡ y

abbrev BackInitList : declared_list.InitList → Type 0
BackInitList y = tree_list (m.plain_list y) ≡ y

abbrev SuchExpr : Type 0
SuchExpr = (y : declared_expr.Expr) × BackExpr y

abbrev SuchInit : Type 0
SuchInit = (y : declared_init.Init) × BackInit y

abbrev SuchReceiver : Type 0
SuchReceiver = (y : declared_receiver.Receiver) × BackReceiver y

abbrev SuchInitList : Type 0
SuchInitList = (y : declared_list.InitList) × BackInitList y

backs_exprs : (all : List SuchExpr) → tree_exprs (m.plain_exprs (map (λ p. p.0) all)) ≡ map (λ p. p.0) all
backs_exprs [] = refl
backs_exprs (p ∷ all) = rw (p.1, backs_exprs all) refl

backs_inits : (all : List SuchInit) → tree_inits (m.plain_inits (map (λ p. p.0) all)) ≡ map (λ p. p.0) all
backs_inits [] = refl
backs_inits (p ∷ all) = rw (p.1, backs_inits all) refl

at_expr : (y : Expr-F SuchExpr SuchInit SuchReceiver SuchInitList) → BackExpr (roll-Expr (map-Expr SuchExpr SuchInit SuchReceiver SuchInitList declared_expr.Expr declared_init.Init declared_receiver.Receiver declared_list.InitList (λ p. p.0) (λ p. p.0) (λ p. p.0) (λ p. p.0) y))
at_expr (Expr-F.Assign a b c) = ap tree_expr (fold-roll-Expr m.Expr m.Init m.Receiver m.InitList m.expr_step m.init_step m.receiver_step m.list_step (Expr-F.Assign a.0 b c.0)) ∙ rw (a.1, c.1) refl
at_expr (Expr-F.Cond a b c) = ap tree_expr (fold-roll-Expr m.Expr m.Init m.Receiver m.InitList m.expr_step m.init_step m.receiver_step m.list_step (Expr-F.Cond a.0 b.0 c.0)) ∙ rw (a.1, b.1, c.1) refl
at_expr (Expr-F.Binary a b c) = ap tree_expr (fold-roll-Expr m.Expr m.Init m.Receiver m.InitList m.expr_step m.init_step m.receiver_step m.list_step (Expr-F.Binary a.0 b c.0)) ∙ rw (a.1, c.1) refl
at_expr (Expr-F.IsA a b) = ap tree_expr (fold-roll-Expr m.Expr m.Init m.Receiver m.InitList m.expr_step m.init_step m.receiver_step m.list_step (Expr-F.IsA a.0 b)) ∙ rw (a.1) refl
at_expr (Expr-F.Unary a b) = ap tree_expr (fold-roll-Expr m.Expr m.Init m.Receiver m.InitList m.expr_step m.init_step m.receiver_step m.list_step (Expr-F.Unary a b.0)) ∙ rw (b.1) refl
at_expr (Expr-F.Cast a b) = ap tree_expr (fold-roll-Expr m.Expr m.Init m.Receiver m.InitList m.expr_step m.init_step m.receiver_step m.list_step (Expr-F.Cast a b.0)) ∙ rw (b.1) refl
at_expr (Expr-F.PreStep a b) = ap tree_expr (fold-roll-Expr m.Expr m.Init m.Receiver m.InitList m.expr_step m.init_step m.receiver_step m.list_step (Expr-F.PreStep a b.0)) ∙ rw (b.1) refl
at_expr (Expr-F.PostStep a b) = ap tree_expr (fold-roll-Expr m.Expr m.Init m.Receiver m.InitList m.expr_step m.init_step m.receiver_step m.list_step (Expr-F.PostStep a.0 b)) ∙ rw (a.1) refl
at_expr (Expr-F.Lit a) = ap tree_expr (fold-roll-Expr m.Expr m.Init m.Receiver m.InitList m.expr_step m.init_step m.receiver_step m.list_step (Expr-F.Lit a))
at_expr (Expr-F.This a) = ap tree_expr (fold-roll-Expr m.Expr m.Init m.Receiver m.InitList m.expr_step m.init_step m.receiver_step m.list_step (Expr-F.This a))
at_expr (Expr-F.Paren a) = ap tree_expr (fold-roll-Expr m.Expr m.Init m.Receiver m.InitList m.expr_step m.init_step m.receiver_step m.list_step (Expr-F.Paren a.0)) ∙ rw (a.1) refl
at_expr (Expr-F.NameExpr a) = ap tree_expr (fold-roll-Expr m.Expr m.Init m.Receiver m.InitList m.expr_step m.init_step m.receiver_step m.list_step (Expr-F.NameExpr a))
at_expr (Expr-F.Select a b) = ap tree_expr (fold-roll-Expr m.Expr m.Init m.Receiver m.InitList m.expr_step m.init_step m.receiver_step m.list_step (Expr-F.Select a.0 b)) ∙ rw (a.1) refl
at_expr (Expr-F.SuperSelect a) = ap tree_expr (fold-roll-Expr m.Expr m.Init m.Receiver m.InitList m.expr_step m.init_step m.receiver_step m.list_step (Expr-F.SuperSelect a))
at_expr (Expr-F.Index a b) = ap tree_expr (fold-roll-Expr m.Expr m.Init m.Receiver m.InitList m.expr_step m.init_step m.receiver_step m.list_step (Expr-F.Index a.0 b.0)) ∙ rw (a.1, b.1) refl
at_expr (Expr-F.Call None b c) = ap tree_expr (fold-roll-Expr m.Expr m.Init m.Receiver m.InitList m.expr_step m.init_step m.receiver_step m.list_step (Expr-F.Call None b (map (λ p. p.0) c))) ∙ rw (backs_exprs c) refl
at_expr (Expr-F.Call (Some a) b c) = ap tree_expr (fold-roll-Expr m.Expr m.Init m.Receiver m.InitList m.expr_step m.init_step m.receiver_step m.list_step (Expr-F.Call (Some a.0) b (map (λ p. p.0) c))) ∙ rw (a.1, backs_exprs c) refl
at_expr (Expr-F.New a b) = ap tree_expr (fold-roll-Expr m.Expr m.Init m.Receiver m.InitList m.expr_step m.init_step m.receiver_step m.list_step (Expr-F.New a (map (λ p. p.0) b))) ∙ rw (backs_exprs b) refl
at_expr (Expr-F.NewArray a b c None) = ap tree_expr (fold-roll-Expr m.Expr m.Init m.Receiver m.InitList m.expr_step m.init_step m.receiver_step m.list_step (Expr-F.NewArray a (map (λ p. p.0) b) c None)) ∙ rw (backs_exprs b) refl
at_expr (Expr-F.NewArray a b c (Some d)) = ap tree_expr (fold-roll-Expr m.Expr m.Init m.Receiver m.InitList m.expr_step m.init_step m.receiver_step m.list_step (Expr-F.NewArray a (map (λ p. p.0) b) c (Some d.0))) ∙ rw (backs_exprs b, d.1) refl

at_init : (y : Init-F SuchExpr SuchInit SuchReceiver SuchInitList) → BackInit (roll-Init (map-Init SuchExpr SuchInit SuchReceiver SuchInitList declared_expr.Expr declared_init.Init declared_receiver.Receiver declared_list.InitList (λ p. p.0) (λ p. p.0) (λ p. p.0) (λ p. p.0) y))
at_init (Init-F.Value a) = ap tree_init (fold-roll-Init m.Expr m.Init m.Receiver m.InitList m.expr_step m.init_step m.receiver_step m.list_step (Init-F.Value a.0)) ∙ rw (a.1) refl
at_init (Init-F.List a) = ap tree_init (fold-roll-Init m.Expr m.Init m.Receiver m.InitList m.expr_step m.init_step m.receiver_step m.list_step (Init-F.List a.0)) ∙ rw (a.1) refl

at_receiver : (y : Receiver-F SuchExpr SuchInit SuchReceiver SuchInitList) → BackReceiver (roll-Receiver (map-Receiver SuchExpr SuchInit SuchReceiver SuchInitList declared_expr.Expr declared_init.Init declared_receiver.Receiver declared_list.InitList (λ p. p.0) (λ p. p.0) (λ p. p.0) (λ p. p.0) y))
at_receiver (Receiver-F.Of a) = ap tree_receiver (fold-roll-Receiver m.Expr m.Init m.Receiver m.InitList m.expr_step m.init_step m.receiver_step m.list_step (Receiver-F.Of a.0)) ∙ rw (a.1) refl
at_receiver (Receiver-F.OfName a) = ap tree_receiver (fold-roll-Receiver m.Expr m.Init m.Receiver m.InitList m.expr_step m.init_step m.receiver_step m.list_step (Receiver-F.OfName a))
at_receiver Receiver-F.Super = ap tree_receiver (fold-roll-Receiver m.Expr m.Init m.Receiver m.InitList m.expr_step m.init_step m.receiver_step m.list_step Receiver-F.Super)

at_list : (y : InitList-F SuchExpr SuchInit SuchReceiver SuchInitList) → BackInitList (roll-InitList (map-InitList SuchExpr SuchInit SuchReceiver SuchInitList declared_expr.Expr declared_init.Init declared_receiver.Receiver declared_list.InitList (λ p. p.0) (λ p. p.0) (λ p. p.0) (λ p. p.0) y))
at_list y = ap tree_list (fold-roll-InitList m.Expr m.Init m.Receiver m.InitList m.expr_step m.init_step m.receiver_step m.list_step (map-InitList SuchExpr SuchInit SuchReceiver SuchInitList declared_expr.Expr declared_init.Init declared_receiver.Receiver declared_list.InitList (λ p. p.0) (λ p. p.0) (λ p. p.0) (λ p. p.0) y)) ∙ rw (backs_inits y.items) refl

pub tree_plain_expr : (y : declared_expr.Expr) → BackExpr y
tree_plain_expr = ind-Expr BackExpr BackInit BackReceiver BackInitList (λ z y h. subst (λ z. BackExpr (roll-Expr z)) h (at_expr y)) (λ z y h. subst (λ z. BackInit (roll-Init z)) h (at_init y)) (λ z y h. subst (λ z. BackReceiver (roll-Receiver z)) h (at_receiver y)) (λ z y h. subst (λ z. BackInitList (roll-InitList z)) h (at_list y))

pub tree_plain_init : (y : declared_init.Init) → BackInit y
tree_plain_init = ind-Init BackExpr BackInit BackReceiver BackInitList (λ z y h. subst (λ z. BackExpr (roll-Expr z)) h (at_expr y)) (λ z y h. subst (λ z. BackInit (roll-Init z)) h (at_init y)) (λ z y h. subst (λ z. BackReceiver (roll-Receiver z)) h (at_receiver y)) (λ z y h. subst (λ z. BackInitList (roll-InitList z)) h (at_list y))

pub tree_plain_receiver : (y : declared_receiver.Receiver) → BackReceiver y
tree_plain_receiver = ind-Receiver BackExpr BackInit BackReceiver BackInitList (λ z y h. subst (λ z. BackExpr (roll-Expr z)) h (at_expr y)) (λ z y h. subst (λ z. BackInit (roll-Init z)) h (at_init y)) (λ z y h. subst (λ z. BackReceiver (roll-Receiver z)) h (at_receiver y)) (λ z y h. subst (λ z. BackInitList (roll-InitList z)) h (at_list y))

pub tree_plain_list : (y : declared_list.InitList) → BackInitList y
tree_plain_list = ind-InitList BackExpr BackInit BackReceiver BackInitList (λ z y h. subst (λ z. BackExpr (roll-Expr z)) h (at_expr y)) (λ z y h. subst (λ z. BackInit (roll-Init z)) h (at_init y)) (λ z y h. subst (λ z. BackReceiver (roll-Receiver z)) h (at_receiver y)) (λ z y h. subst (λ z. BackInitList (roll-InitList z)) h (at_list y))

pub tree_plain_exprs : (all : List declared_expr.Expr) → tree_exprs (m.plain_exprs all) ≡ all
tree_plain_exprs [] = refl
tree_plain_exprs (a ∷ all) = rw (tree_plain_expr a, tree_plain_exprs all) refl

pub tree_plain_inits : (all : List declared_init.Init) → tree_inits (m.plain_inits all) ≡ all
tree_plain_inits [] = refl
tree_plain_inits (a ∷ all) = rw (tree_plain_init a, tree_plain_inits all) refl
