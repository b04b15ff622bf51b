-- What the grammar asks of expressions, as tests (JLS 15).
use Rattle.std.specs.Prelude.{ℕ, ◌+◌, Bool, true, not, ◌&&◌, ◌||◌, nat_lt, nat_le}
use Rattle.std.specs.Option.{option_map_or}
use Rattle.jr_tree.specs.Levels.{binary_level, is_assignment, is_unary, is_minus, is_step, is_literal}
use Rattle.jr_tree.specs.Shape.{level, is_least, is_target, is_statement, is_signed, is_name, is_named, is_new_array, has_expr}
use Rattle.jr_tree.specs.Mirror.Exprs as x
use Rattle.jr_shape.specs.Parts.{is_shaped_name, is_shaped_base, is_shaped_type}

-- a level or tighter, and no number that wants a minus
abbrev pub fits : ℕ → x.Expr → Bool
fits least e = nat_le least (level e) && not (is_least e)

abbrev mutual
  pub is_shaped_expr : x.Expr → Bool
  is_shaped_expr (x.Assign target op value) = is_assignment op && is_target target && is_shaped_expr target && (fits 0 value && is_shaped_expr value)
  is_shaped_expr (x.Cond c a b) = (fits 2 c && is_shaped_expr c) && (fits 0 a && is_shaped_expr a) && (fits 1 b && is_shaped_expr b)
  is_shaped_expr (x.Binary left op right) =
      nat_lt 0 (binary_level op) && (fits (binary_level op) left && is_shaped_expr left) && (fits (binary_level op + 1) right && is_shaped_expr right)
  is_shaped_expr (x.IsA value ty) = is_shaped_type ty && (fits 8 value && is_shaped_expr value)
  is_shaped_expr (x.Unary op value) = is_unary op && nat_le 12 (level value) && (is_minus op || not (is_least value)) && is_shaped_expr value
  is_shaped_expr (x.Cast ty value) = is_shaped_type ty && not (is_named ty.base && is_signed value) && (fits 12 value && is_shaped_expr value)
  is_shaped_expr (x.PreStep op value) = is_step op && (fits 12 value && is_shaped_expr value)
  is_shaped_expr (x.PostStep value op) = is_step op && (fits 13 value && is_shaped_expr value)
  is_shaped_expr (x.Lit token) = is_literal token
  is_shaped_expr (x.This class) = option_map_or is_shaped_name class true
  is_shaped_expr (x.Paren inner) = fits 0 inner && is_shaped_expr inner
  is_shaped_expr (x.NameExpr name) = is_shaped_name name
  is_shaped_expr (x.Select object name) = not (is_name object) && (fits 14 object && is_shaped_expr object)
  is_shaped_expr (x.SuperSelect name) = true
  is_shaped_expr (x.Index array at) = not (is_new_array array) && (fits 14 array && is_shaped_expr array) && (fits 0 at && is_shaped_expr at)
  is_shaped_expr (x.Call x.no_receiver name args) = are_shaped_exprs args
  is_shaped_expr (x.Call (x.a_receiver r) name args) = is_shaped_receiver r && are_shaped_exprs args
  is_shaped_expr (x.New class args) = is_shaped_name class && are_shaped_exprs args
  is_shaped_expr (x.NewArray base dims more x.no_list) = is_shaped_base base && are_shaped_exprs dims && has_expr dims
  is_shaped_expr (x.NewArray base dims more (x.a_list l)) = is_shaped_base base && are_shaped_exprs dims && (not (has_expr dims) && nat_lt 0 more) && is_shaped_list l

  pub is_shaped_receiver : x.Receiver → Bool
  is_shaped_receiver (x.Of object) = not (is_name object) && (fits 14 object && is_shaped_expr object)
  is_shaped_receiver (x.OfName name) = is_shaped_name name
  is_shaped_receiver x.Super = true

  pub are_shaped_exprs : x.Exprs → Bool
  are_shaped_exprs x.no_exprs = true
  are_shaped_exprs (x.more_exprs e all) = (fits 0 e && is_shaped_expr e) && are_shaped_exprs all

  pub is_shaped_list : x.InitList → Bool
  is_shaped_list (x.ListOf all is_open_ended) = are_shaped_inits all

  pub is_shaped_init : x.Init → Bool
  is_shaped_init (x.Value value) = fits 0 value && is_shaped_expr value
  is_shaped_init (x.Listed l) = is_shaped_list l

  pub are_shaped_inits : x.Inits → Bool
  are_shaped_inits x.no_inits = true
  are_shaped_inits (x.more_inits i all) = is_shaped_init i && are_shaped_inits all

-- an operand of a level or tighter
abbrev pub is_operand : ℕ → x.Expr → Bool
is_operand least e = fits least e && is_shaped_expr e

-- what stands before a dot
abbrev pub is_before_dot : x.Expr → Bool
is_before_dot e = not (is_name e) && (fits 14 e && is_shaped_expr e)

-- an expression that stands as a statement (JLS 14.8)
abbrev pub is_statement_expr : x.Expr → Bool
is_statement_expr e = is_statement e && is_shaped_expr e

abbrev pub are_statement_exprs : x.Exprs → Bool
are_statement_exprs x.no_exprs = true
are_statement_exprs (x.more_exprs e all) = is_statement_expr e && are_statement_exprs all
