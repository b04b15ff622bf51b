-- What cannot follow an expression, since it would belong to it (JLS 15), and what the laws of reading say.
use Rattle.std.specs.Prelude.{◌≡◌, ℕ, suc, ◌≤◌, Bool, true, false, not, ◌&&◌, ◌||◌, if◌then◌else◌, nat_lt, Option, Some, None, ⊤}
use Rattle.jr_base.specs.declared.kind.Kind.{Kind}
use Rattle.jr_base.specs.declared.kind.Kind.TheVariants as kind
use Rattle.jr_base.specs.declared.kind.Symbol.{Symbol}
use Rattle.jr_base.specs.declared.kind.Symbol.TheVariants as y
use Rattle.jr_base.specs.declared.kind.Keyword.TheVariants as k
use Rattle.jr_tree.specs.declared.tree.TypeUse.{TypeUse}
use Rattle.jr_tree.specs.Mirror.Exprs as x
use Rattle.jr_tree.specs.Levels.{binary_level, is_assignment, is_step}
use Rattle.jr_tree.specs.Shape.{level, is_target, is_least, is_name, is_named, is_new_array, IsName, Fits, IsShapedExpr, IsStatementExpr}
use Rattle.jr_tree.specs.Depth.{expr_depth}
use Rattle.jr_parse_laws.specs.Parsers.{begins_with, symbol_of}
use Rattle.jr_parse_starts.specs.Starts.{begins_cast_operand, next_is}
use Rattle.jr_parse_expr.specs.Names.{Plain, Enclosing}
use Rattle.jr_parse_expr.specs.Exprs.{Lead, Nothing, Named, Indexed, This, Super}

abbrev pub symbol_next : Option Kind → Option Symbol
symbol_next None = None
symbol_next (Some token) = symbol_of token

-- ---- whether an expression goes on

abbrev pub is_tight : x.Expr → ℕ → Bool
is_tight e least = not (nat_lt (level e) least)

-- a dot, a bracket or a step that would make e a part of a longer operand
abbrev pub has_suffix : x.Expr → Option Symbol → Bool
has_suffix e (Some y.Dot) = is_tight e 14
has_suffix e (Some y.OpenBracket) = is_tight e 14 && not (is_new_array e)
has_suffix e (Some s) = is_step s && is_tight e 13
has_suffix e None = false

-- an operator that binds as tightly as least, and can take e
abbrev pub has_operator_by : ℕ → x.Expr → Symbol → Bool
has_operator_by least e op =
    if is_assignment op then not (nat_lt 0 least || not (is_target e))
    else not (nat_lt (binary_level op) 1 || (nat_lt (binary_level op) least || nat_lt (level e) (binary_level op)))

abbrev pub has_operator : ℕ → x.Expr → Option Kind → Bool
has_operator least e (Some (kind.Sym y.Question)) = not (nat_lt 1 least || nat_lt (level e) 2)
has_operator least e (Some (kind.Sym op)) = has_operator_by least e op
has_operator least e (Some (kind.Word k.Instanceof)) = not (nat_lt 8 least || nat_lt (level e) 8)
has_operator least e _ = false

-- e itself does not go on
abbrev pub IsOver : ℕ → x.Expr → Option Kind → Type 0
IsOver least e o = (has_suffix e (symbol_next o) ≡ false) × (has_operator least e o ≡ false)

-- ---- whether its last part goes on

abbrev pub Unless : Bool → Type 0 → Type 0
Unless true P = ⊤
Unless false P = P

abbrev pub DotFree : Bool → Option Kind → Type 0
DotFree true o = begins_with y.Dot o ≡ false
DotFree false o = ⊤

abbrev pub is_plain_name : TypeUse → Bool
is_plain_name t = is_named t.base && nat_lt t.dims 1

-- a name takes dots, and each type takes brackets
abbrev pub TypeEnds : TypeUse → Option Kind → Type 0
TypeEnds t o = (begins_with y.OpenBracket o ≡ false) × DotFree (is_plain_name t) o

-- the last part of e does not go on: a name could go on as a longer name or a call, a name in parentheses as a cast
abbrev pub LastEnds : x.Expr → Option Kind → Type 0
LastEnds (x.Assign target op value) o = LastEnds value o × IsOver 0 value o
LastEnds (x.Cond c a b) o = LastEnds b o × IsOver 1 b o
LastEnds (x.Binary left op right) o = LastEnds right o × IsOver (suc (binary_level op)) right o
LastEnds (x.IsA value ty) o = TypeEnds ty o
LastEnds (x.Unary op value) o = Unless (is_least value) (LastEnds value o × IsOver 12 value o)
LastEnds (x.Cast ty value) o = LastEnds value o × IsOver 12 value o
LastEnds (x.PreStep op value) o = LastEnds value o × IsOver 12 value o
LastEnds (x.Paren inner) o = Unless (not (is_name inner)) (next_is begins_cast_operand o ≡ false)
LastEnds (x.NameExpr n) o = (begins_with y.Dot o ≡ false) × (begins_with y.OpenParen o ≡ false)
LastEnds (x.Select object name) o = begins_with y.OpenParen o ≡ false
LastEnds (x.SuperSelect name) o = begins_with y.OpenParen o ≡ false
LastEnds (x.NewArray element dims more x.no_list) o = begins_with y.OpenBracket o ≡ false
LastEnds _ o = ⊤

-- an expression read from a level on ends before o
abbrev pub Ends : ℕ → x.Expr → Option Kind → Type 0
Ends least e o = LastEnds e o × IsOver least e o

-- an expression that stands as a statement ends before o
abbrev pub EffectEnds : x.Expr → Option Kind → Type 0
EffectEnds e o = LastEnds e o × (has_suffix e (symbol_next o) ≡ false)

abbrev pub InitEnds : x.Init → Option Kind → Type 0
InitEnds (x.Value value) o = Ends 0 value o
InitEnds (x.Listed l) o = ⊤

-- ---- what is read

-- an expression from a level on, of at most so many levels
pub record IsExpr (room least : ℕ) (e : x.Expr) : Type 0 where
  pub shaped : IsShapedExpr e
  pub fits : Fits least e
  pub low : expr_depth e ≤ room

-- an expression that stands as a statement, of at most so many levels
pub record IsEffect (room : ℕ) (e : x.Expr) : Type 0 where
  pub is : IsStatementExpr e
  pub low : expr_depth e ≤ room

-- what the caller has read is all of the name that stands there
abbrev pub IsLed : Lead → Option Kind → Type 0
IsLed Nothing o = ⊤
IsLed (Named (Plain before last)) o = begins_with y.Dot o ≡ false
IsLed (Named (Enclosing before last)) o = ⊤
IsLed (Indexed n) o = IsName n
IsLed This o = ⊤
IsLed Super o = ⊤
