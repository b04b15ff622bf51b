-- Operands by how they begin: the same readers as those by the token, over fewer cases.
use Rattle.std.specs.Prelude.{ℕ, suc, nat_lt, not, ◌&&◌, if◌then◌else◌, List, [], ◌∷◌, drop, Option, Some, None, Ok}
use Rattle.jr_base.specs.declared.kind.Kind.{Kind}
use Rattle.jr_base.specs.declared.kind.Kind.TheVariants as kind
use Rattle.jr_base.specs.declared.kind.Symbol.{Symbol}
use Rattle.jr_base.specs.declared.kind.Symbol.TheVariants as y
use Rattle.jr_base.specs.declared.kind.Keyword.{Keyword}
use Rattle.jr_base.specs.declared.kind.Keyword.TheVariants as k
use Rattle.jr_tree.specs.declared.tree.Name.{Name}
use Rattle.jr_tree.specs.declared.tree.Primitive.{Primitive}
use Rattle.jr_tree.specs.Depth.{expr_depth}
use Rattle.jr_tree.specs.Levels.{is_assignment, is_unary, is_step}
use Rattle.jr_tree.specs.Mirror.Exprs as x
use Rattle.jr_tree.specs.Shape.{is_target, is_statement}
use Rattle.jr_parse_laws.specs.Parsers.{Parser, ◌>>=◌, pure, refuse, first, is_at}
use Rattle.jr_parse_expr.specs.declared.begin.OperandStart.{OperandStart}
use Rattle.jr_parse_expr.specs.declared.begin.OperandStart.TheVariants as start
use Rattle.jr_parse_expr.specs.declared.suffix.Suffix.{Suffix}
use Rattle.jr_parse_expr.specs.declared.suffix.Suffix.TheVariants as suffix
use Rattle.jr_parse_starts.specs.Starts.{is_plain_literal, next_is, over}
use Rattle.jr_parse_expr.specs.Names.{dotted, name, primitive_at}
use Rattle.jr_parse_expr.specs.Exprs.{Lead, Nothing, next_token, after_dotted, super_member, created_by, creation_by, creation, in_parens, negated, indexed, assigned}
use Rattle.jr_parse_expr.specs.Steps.{literal, named_by, named_operand, inner_closed, suffixed}

abbrev pub symbol_start : Symbol → OperandStart
symbol_start y.OpenParen = start.Parenthesis
symbol_start y.Minus = start.Minus
symbol_start s = start.Sign s

abbrev pub word_start : Keyword → OperandStart
word_start k.This = start.This
word_start k.Super = start.Super
word_start k.New = start.New
word_start _ = start.Literal

abbrev pub kind_start : Kind → OperandStart
kind_start (kind.Ident head) = start.Name
kind_start (kind.Sym s) = symbol_start s
kind_start (kind.Word w) = word_start w
kind_start _ = start.Literal

abbrev pub start_at : List Kind → Option OperandStart
start_at [] = None
start_at (token ∷ ts) = Some (kind_start token)

-- past the next token
abbrev pub behind : Parser x.Expr → Parser x.Expr
behind p ts = p (drop 1 ts)

module _ (room : ℕ) (inner : Lead → ℕ → Parser x.Expr) (list : Parser x.InitList) where
  -- at a sign or a step (JLS 15.15)
  abbrev pub signed : Symbol → Parser x.Expr
  signed s ts =
      if is_unary s then over 1 room (behind (inner Nothing 12 >>= (λ e. pure (x.Unary s e)))) ts
      else (if is_step s then over 1 room (behind (inner Nothing 12 >>= (λ e. pure (x.PreStep s e)))) ts
      else refuse ts)

  -- at the token that an operand begins with
  abbrev pub begun : OperandStart → Parser x.Expr
  begun start.Name = named_operand room inner list
  begun start.This = behind (pure (x.This None))
  begun start.Super = behind (super_member room inner list)
  begun start.New = behind (creation room inner list)
  begun start.Parenthesis = over 1 room (behind (in_parens room inner list))
  begun start.Minus = over 1 room (behind (negated room inner list))
  begun (start.Sign s) = signed s
  begun start.Literal = literal

  abbrev pub begun_by : Option OperandStart → Parser x.Expr
  begun_by None = refuse
  begun_by (Some begin) = begun begin

  abbrev pub new_operand : Parser x.Expr
  new_operand ts = begun_by (start_at ts) ts

  -- how an expression that stands as a statement ends, where it goes on with an assignment and where not
  abbrev pub effect_ended : x.Expr → Option Symbol → Parser x.Expr
  effect_ended left None ts = if is_statement left then Ok (left, ts) else refuse ts
  effect_ended left (Some op) ts = over (expr_depth left) room (behind (assigned room inner list left op)) ts

-- how an expression that stands as a statement goes on with an assignment, if it does (JLS 14.8, 15.26)
abbrev pub assignment_of : x.Expr → Option Symbol → Option Symbol
assignment_of left None = None
assignment_of left (Some op) = if is_assignment op && is_target left then Some op else None

-- how many levels below a statement are wanted for one of this height to go on so: an element of an array is no statement
abbrev pub levels_for : ℕ → Suffix → ℕ
levels_for height suffix.Index = suc height
levels_for height key = height

-- the same for an expression that stands as a statement, in low_room levels what is no statement by itself
module _ (room : ℕ) (inner : Lead → ℕ → Parser x.Expr) (list : Parser x.InitList) (low_room : ℕ) (low : Lead → ℕ → Parser x.Expr) (low_list : Parser x.InitList) where
  abbrev pub effect_named : Parser x.Expr
  effect_named = named_by (λ head. dotted (not (nat_lt room 1)) [] head >>= after_dotted room inner list)

  abbrev pub effect_created : Name → Parser x.Expr
  effect_created n ts = if is_at y.OpenBracket ts then next_token (created_by low_room low low_list n) ts else next_token (created_by room inner list n) ts

  abbrev pub effect_creation_by : Option Primitive → Parser x.Expr
  effect_creation_by None = name >>= effect_created
  effect_creation_by (Some p) = creation_by low_room low low_list (Some p)

  abbrev pub effect_creation : Parser x.Expr
  effect_creation ts = effect_creation_by (primitive_at ts) ts

  abbrev pub effect_literal : Parser x.Expr
  effect_literal ts = if next_is is_plain_literal (first ts) then over 1 room literal ts else refuse ts

  -- at the token that one begins with
  abbrev pub effect_begun : OperandStart → Parser x.Expr
  effect_begun start.Name = effect_named
  effect_begun start.This = over 1 room (behind (pure (x.This None)))
  effect_begun start.Super = behind (super_member room inner list)
  effect_begun start.New = behind effect_creation
  effect_begun start.Parenthesis = over 2 room (behind (inner_closed low_room low low_list Nothing))
  effect_begun start.Minus = refuse
  effect_begun (start.Sign s) = λ ts. if is_step s then signed room inner list s ts else refuse ts
  effect_begun start.Literal = effect_literal

  abbrev pub effect_begun_by : Option OperandStart → Parser x.Expr
  effect_begun_by None = refuse
  effect_begun_by (Some begin) = effect_begun begin

  abbrev pub new_effect : Parser x.Expr
  new_effect ts = effect_begun_by (start_at ts) ts

  -- behind the token that one goes on with
  abbrev pub effect_suffixed : x.Expr → Suffix → Parser x.Expr
  effect_suffixed left suffix.Index = indexed low_room low low_list left
  effect_suffixed left key = suffixed room inner list left key
