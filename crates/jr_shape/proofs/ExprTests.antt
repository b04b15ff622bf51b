-- The tests of expressions tell what they are to tell.
use Rattle.std.proofs.Common.{ℕ, suc, ◌+◌, not, ◌&&◌, ◌||◌, add-one}
use Rattle.std.specs.Prelude.{nat_lt}
use Rattle.jr_tree.specs.Levels.{binary_level, is_assignment, is_unary, is_minus, is_step, is_literal}
use Rattle.jr_tree.specs.Shape.{level, is_least, is_target, is_statement, is_signed, is_name, is_named, is_new_array, has_expr, Fits, FitsBeforeDot, IsName, IsShapedExpr, IsShapedReceiver, AreShapedExprs, IsShapedList, IsShapedInit, AreShapedInits, IsWholeExpr, IsStatementExpr, AreStatementExprs}
use Rattle.jr_tree.specs.Mirror.Exprs as x
use Rattle.jr_shape.specs.Parts.{is_shaped_name}
use Rattle.jr_shape.specs.Exprs.{fits, is_shaped_expr, is_shaped_receiver, are_shaped_exprs, is_shaped_list, is_shaped_init, are_shaped_inits, is_operand, is_before_dot, is_statement_expr, are_statement_exprs}
use Rattle.jr_shape.proofs.Tells.{Tells, itself, always, both, three, four, like, least, below, maybe}
use Rattle.jr_shape.proofs.PartTests.{tells_name, tells_base, tells_type}

pub tells_fits : (n : ℕ) (e : x.Expr) → Tells (fits n e) (Fits n e)
tells_fits n e = both (least n (level e)) (itself (not (is_least e)))

-- an operand, by what its own test tells
pub operand : (n : ℕ) (e : x.Expr) → Tells (is_shaped_expr e) (IsShapedExpr e) → Tells (is_operand n e) (Fits n e × IsShapedExpr e)
operand n e p = both (tells_fits n e) p

pub tighter : (n : ℕ) (e : x.Expr) → Tells (is_shaped_expr e) (IsShapedExpr e) → Tells (is_operand (n + 1) e) (Fits (suc n) e × IsShapedExpr e)
tighter n e p = rw add-one (operand (suc n) e p)

pub before_dot : (e : x.Expr) → Tells (is_shaped_expr e) (IsShapedExpr e) → Tells (is_before_dot e) (FitsBeforeDot e × IsShapedExpr e)
before_dot e p = like (both (itself (not (is_name e))) (operand 14 e p)) (λ h. ((h.1.0, h.0), h.1.1)) (λ h. (h.0.1, (h.0.0, h.1)))

mutual
  pub tells_expr : (e : x.Expr) → Tells (is_shaped_expr e) (IsShapedExpr e)
  tells_expr (x.Assign target op value) =
      like (four (itself (is_assignment op)) (itself (is_target target)) (tells_expr target) (operand 0 value (tells_expr value)))
      (λ h. (h.0, h.1, h.2, h.3.0, h.3.1)) (λ h. (h.0, h.1, h.2, (h.3, h.4)))
  tells_expr (x.Cond c a b) =
      like (three (operand 2 c (tells_expr c)) (operand 0 a (tells_expr a)) (operand 1 b (tells_expr b)))
      (λ h. (h.0.0, h.0.1, h.1.0, h.1.1, h.2.0, h.2.1)) (λ h. ((h.0, h.1), (h.2, h.3), (h.4, h.5)))
  tells_expr (x.Binary left op right) =
      like (three (below 0 (binary_level op)) (operand (binary_level op) left (tells_expr left)) (tighter (binary_level op) right (tells_expr right)))
      (λ h. (h.0, h.1.0, h.1.1, h.2.0, h.2.1)) (λ h. (h.0, (h.1, h.2), (h.3, h.4)))
  tells_expr (x.IsA value ty) = like (both (tells_type ty) (operand 8 value (tells_expr value))) (λ h. (h.1.0, h.1.1, h.0)) (λ h. (h.2, (h.0, h.1)))
  tells_expr (x.Unary op value) = four (itself (is_unary op)) (least 12 (level value)) (itself (is_minus op || not (is_least value))) (tells_expr value)
  tells_expr (x.Cast ty value) =
      like (three (tells_type ty) (itself (not (is_named ty.base && is_signed value))) (operand 12 value (tells_expr value)))
      (λ h. (h.0, h.2.0, h.1, h.2.1)) (λ h. (h.0, h.2, (h.1, h.3)))
  tells_expr (x.PreStep op value) = like (both (itself (is_step op)) (operand 12 value (tells_expr value))) (λ h. (h.0, h.1.0, h.1.1)) (λ h. (h.0, (h.1, h.2)))
  tells_expr (x.PostStep value op) = like (both (itself (is_step op)) (operand 13 value (tells_expr value))) (λ h. (h.0, h.1.0, h.1.1)) (λ h. (h.0, (h.1, h.2)))
  tells_expr (x.Lit token) = itself (is_literal token)
  tells_expr (x.This class) = maybe is_shaped_name IsName tells_name class
  tells_expr (x.Paren inner) = operand 0 inner (tells_expr inner)
  tells_expr (x.NameExpr name) = tells_name name
  tells_expr (x.Select object name) = before_dot object (tells_expr object)
  tells_expr (x.SuperSelect name) = always
  tells_expr (x.Index array at) =
      like (three (itself (not (is_new_array array))) (operand 14 array (tells_expr array)) (operand 0 at (tells_expr at)))
      (λ h. ((h.1.0, h.0), h.1.1, h.2.0, h.2.1)) (λ h. (h.0.1, (h.0.0, h.1), (h.2, h.3)))
  tells_expr (x.Call x.no_receiver name args) = like (tells_exprs args) (λ h. (tt, h)) (λ h. h.1)
  tells_expr (x.Call (x.a_receiver r) name args) = both (tells_receiver r) (tells_exprs args)
  tells_expr (x.New class args) = both (tells_name class) (tells_exprs args)
  tells_expr (x.NewArray base dims more x.no_list) =
      like (three (tells_base base) (tells_exprs dims) (itself (has_expr dims))) (λ h. (h.0, h.1, h.2, tt)) (λ h. (h.0, h.1, h.2))
  tells_expr (x.NewArray base dims more (x.a_list l)) = four (tells_base base) (tells_exprs dims) (itself (not (has_expr dims) && nat_lt 0 more)) (tells_list l)

  pub tells_receiver : (r : x.Receiver) → Tells (is_shaped_receiver r) (IsShapedReceiver r)
  tells_receiver (x.Of object) = before_dot object (tells_expr object)
  tells_receiver (x.OfName name) = tells_name name
  tells_receiver x.Super = always

  pub tells_exprs : (all : x.Exprs) → Tells (are_shaped_exprs all) (AreShapedExprs all)
  tells_exprs x.no_exprs = always
  tells_exprs (x.more_exprs e all) = like (both (operand 0 e (tells_expr e)) (tells_exprs all)) (λ h. (h.0.0, h.0.1, h.1)) (λ h. ((h.0, h.1), h.2))

  pub tells_list : (l : x.InitList) → Tells (is_shaped_list l) (IsShapedList l)
  tells_list (x.ListOf all is_open_ended) = tells_inits all

  pub tells_init : (i : x.Init) → Tells (is_shaped_init i) (IsShapedInit i)
  tells_init (x.Value value) = operand 0 value (tells_expr value)
  tells_init (x.Listed l) = tells_list l

  pub tells_inits : (all : x.Inits) → Tells (are_shaped_inits all) (AreShapedInits all)
  tells_inits x.no_inits = always
  tells_inits (x.more_inits i all) = both (tells_init i) (tells_inits all)

pub tells_operand : (e : x.Expr) → Tells (is_operand 0 e) (IsWholeExpr e)
tells_operand e = operand 0 e (tells_expr e)

pub tells_statement : (e : x.Expr) → Tells (is_statement_expr e) (IsStatementExpr e)
tells_statement e = both (itself (is_statement e)) (tells_expr e)

pub tells_statements : (all : x.Exprs) → Tells (are_statement_exprs all) (AreStatementExprs all)
tells_statements x.no_exprs = always
tells_statements (x.more_exprs e all) = both (tells_statement e) (tells_statements all)
