-- The readers' own choices and values, beside the reading functions.
use Rattle.std.specs.Prelude.{ℕ, suc, Bool, true, false, ◌&&◌, ◌||◌, not, if◌then◌else◌, nat_lt, List, [], ◌∷◌, ◌++◌, map, Option, Some, None, Result, Ok}
use Rattle.jr_base.specs.declared.text.Text.{Text}
use Rattle.jr_base.specs.declared.kind.Kind.{Kind}
use Rattle.jr_base.specs.declared.kind.Kind.TheVariants as kind
use Rattle.jr_base.specs.declared.kind.Symbol.{Symbol}
use Rattle.jr_base.specs.declared.kind.Symbol.TheVariants as y
use Rattle.jr_base.specs.declared.kind.Keyword.TheVariants as k
use Rattle.jr_tree.specs.Levels.{binary_level, is_assignment, is_step}
use Rattle.jr_tree.specs.Mirror.Exprs as x
use Rattle.jr_tree.specs.Shape.{level, is_target, is_new_array}
use Rattle.jr_parse_laws.specs.declared.fault.Fault.{Fault}
use Rattle.jr_parse_laws.specs.Parsers.{Outcome, Parser, Reads, ◌>>=◌, and_then, pure, refuse, many, begins_with, after_comma}
use Rattle.jr_parse_expr.specs.declared.creation.Sizes.{Sizes}
use Rattle.jr_parse_parts.specs.declared.listed.ListItems.{ListItems}
use Rattle.jr_parse_expr.specs.declared.suffix.Suffix.{Suffix}
use Rattle.jr_parse_expr.specs.declared.suffix.Suffix.TheVariants as s
use Rattle.jr_parse_expr.specs.declared.operator.Operation.{Operation}
use Rattle.jr_parse_expr.specs.declared.operator.Operation.TheVariants as o
use Rattle.jr_parse_starts.specs.Starts.{is_plain_literal}
use Rattle.jr_parse_expr.specs.Names.{dotted}
use Rattle.jr_parse_expr.specs.Exprs.{Lead, Nothing, arguments, after_dotted, closed, selected, indexed, choice, binary, assigned, tested}

-- how an operand goes on (JLS 15.11 to 15.14)
abbrev pub suffix_of : x.Expr → Option Symbol → Option Suffix
suffix_of left (Some y.Dot) = if not (nat_lt (level left) 14) then Some s.Member else None
suffix_of left (Some y.OpenBracket) = if not (nat_lt (level left) 14) && not (is_new_array left) then Some s.Index else None
suffix_of left (Some symbol) = if is_step symbol && not (nat_lt (level left) 13) then Some (s.Step symbol) else None
suffix_of left None = None

-- how an expression goes on with an operator that binds as tightly as least (JLS 15.17 to 15.26)
abbrev pub binary_operation_of : ℕ → x.Expr → Symbol → Option Operation
binary_operation_of least left op =
    if is_assignment op then (if nat_lt 0 least || not (is_target left) then None else Some (o.Assign op))
    else (if nat_lt (binary_level op) 1 || (nat_lt (binary_level op) least || nat_lt (level left) (binary_level op)) then None else Some (o.Binary op))

abbrev pub symbol_operation_of : ℕ → x.Expr → Symbol → Option Operation
symbol_operation_of least left y.Question = if nat_lt 1 least || nat_lt (level left) 2 then None else Some o.Choice
symbol_operation_of least left op = binary_operation_of least left op

abbrev pub operation_of : ℕ → x.Expr → Option Kind → Option Operation
operation_of least left (Some (kind.Sym op)) = symbol_operation_of least left op
operation_of least left (Some (kind.Word k.Instanceof)) = if nat_lt 8 least || nat_lt (level left) 8 then None else Some o.Test
operation_of least left _ = None

-- expressions, each behind a comma
abbrev pub more_exprs : (Lead → ℕ → Parser x.Expr) → Parser (List x.Expr)
more_exprs inner = many (begins_with y.Comma) (after_comma (inner Nothing 0))

-- a literal that stands anywhere
abbrev pub literal : Parser x.Expr
literal [] = refuse []
literal (token ∷ ts) = if is_plain_literal token then Ok (x.Lit token, ts) else refuse (token ∷ ts)

abbrev pub named_by : (Text → Parser x.Expr) → Parser x.Expr
named_by f (kind.Ident head ∷ ts) = f head ts
named_by f ts = refuse ts

module _ (room : ℕ) (inner : Lead → ℕ → Parser x.Expr) (list : Parser x.InitList) where
  -- a call, behind the open parenthesis
  abbrev pub called : x.AnyReceiver → Text → Parser x.Expr
  called receiver method = arguments room inner list >>= (λ args. pure (x.Call receiver method (x.exprs args)))

  -- an expression, and the parenthesis that closes it
  abbrev pub inner_closed : Lead → Parser x.Expr
  inner_closed lead = inner lead 0 >>= closed

  -- an operand that begins with a name
  abbrev pub named_operand : Parser x.Expr
  named_operand = named_by (λ head. dotted true [] head >>= after_dotted room inner list)

  -- a conditional, behind the colon
  abbrev pub otherwise : x.Expr → x.Expr → Parser x.Expr
  otherwise c a = inner Nothing 1 >>= (λ b. pure (x.Cond c a b))

  abbrev pub suffixed : x.Expr → Suffix → Parser x.Expr
  suffixed left s.Member = selected room inner list left
  suffixed left s.Index = indexed room inner list left
  suffixed left (s.Step symbol) = pure (x.PostStep left symbol)

  abbrev pub operated : x.Expr → Operation → Parser x.Expr
  operated left o.Choice = choice room inner list left
  operated left (o.Assign op) = assigned room inner list left op
  operated left (o.Binary op) = binary room inner list left op
  operated left o.Test = tested room inner list left

-- ---- what is read behind what was read before

abbrev pub with_sizes : List x.Expr → Outcome (List x.Expr × ℕ) → Outcome (List x.Expr × ℕ)
with_sizes front read = and_then read (λ r rest. Ok ((front ++ r.0, r.1), rest))

abbrev pub with_items : List x.Init → Outcome (List x.Init × Bool) → Outcome (List x.Init × Bool)
with_items front read = and_then read (λ r rest. Ok ((front ++ r.0, r.1), rest))

abbrev pub ReadsSizes : Outcome (List x.Expr × ℕ) → Result Sizes Fault → List Kind → Type 0
ReadsSizes = Reads (λ (n : Sizes). (map x.plain_expr n.dims.args, n.more))

abbrev pub ReadsItems : Outcome (List x.Init × Bool) → Result ListItems Fault → List Kind → Type 0
ReadsItems = Reads (λ (l : ListItems). (map x.plain_init l.items, l.is_open_ended))
