-- What the first token of an expression is.
use Rattle.std.proofs.Common.{◌≡◌, ◌≤◌, true, false, not, List, [], ◌∷◌, Option, Some, None, refl, arith}
use Rattle.std.proofs.lemmas.Bool.{or_right, not-true}
use Rattle.jr_base.specs.declared.text.Text.{Text}
use Rattle.jr_base.specs.declared.kind.Kind.{Kind}
use Rattle.jr_base.specs.declared.kind.Kind.TheVariants as kind
use Rattle.jr_base.specs.declared.kind.Symbol.{Symbol}
use Rattle.jr_base.specs.declared.kind.Symbol.TheVariants as y
use Rattle.jr_tree.specs.Levels.{binary_level, is_literal, is_least_kind}
use Rattle.jr_tree.specs.Shape.{is_empty, level, is_target, is_least, is_signed, IsShapedExpr}
use Rattle.jr_tree.specs.Mirror.Exprs as x
use Rattle.jr_parse_laws.specs.Parsers.{first}
use Rattle.jr_parse_starts.specs.Starts.{begins_primary, begins_cast_operand, begins_operand, next_is, starts_expr}
use Rattle.jr_parse_expr.specs.Writing.{write_all, write_expr}

pub binary_low : (op : Symbol) → binary_level op ≤ 11
binary_low y.OrOr = omega arith
binary_low y.AndAnd = omega arith
binary_low y.Or = omega arith
binary_low y.Caret = omega arith
binary_low y.And = omega arith
binary_low y.Equal = omega arith
binary_low y.NotEqual = omega arith
binary_low y.Less = omega arith
binary_low y.Greater = omega arith
binary_low y.LessEqual = omega arith
binary_low y.GreaterEqual = omega arith
binary_low y.ShiftLeft = omega arith
binary_low y.ShiftRight = omega arith
binary_low y.ShiftRightUnsigned = omega arith
binary_low y.Plus = omega arith
binary_low y.Minus = omega arith
binary_low y.Star = omega arith
binary_low y.Slash = omega arith
binary_low y.Percent = omega arith
binary_low _ = omega arith

pub tight_unsigned : (e : x.Expr) → 13 ≤ level e → is_signed e ≡ false
tight_unsigned (x.Unary op value) h = absurd (omega arith)
tight_unsigned (x.PreStep op value) h = absurd (omega arith)
tight_unsigned e h = refl

pub target_not_least : (e : x.Expr) → is_target e ≡ true → is_least e ≡ false
target_not_least (x.Lit token) h = absurd (cc)
target_not_least e h = refl

pub target_tight : (e : x.Expr) → is_target e ≡ true → level e ≡ 14
target_tight (x.NameExpr n) h = refl
target_tight (x.Select object name) h = refl
target_tight (x.SuperSelect name) h = refl
target_tight (x.Index array at) h = refl
target_tight e h = absurd (cc)

name_begins : (parts : List Text) (ts : List Kind) → not (is_empty parts) ≡ true → next_is begins_cast_operand (first (write_all parts ts)) ≡ true
name_begins [] ts h = absurd (cc)
name_begins (part ∷ parts) ts h = refl

literal_begins : (token : Kind) → is_literal token ≡ true → is_least_kind token ≡ false → begins_cast_operand token ≡ true
literal_begins (kind.Word w) h g = or_right (begins_primary w) _ (rw h refl)
literal_begins (kind.Ident name) h g = absurd (cc)
literal_begins (kind.Sym s) h g = absurd (cc)
literal_begins kind.IntMin h g = absurd (cc)
literal_begins kind.LongMin h g = absurd (cc)
literal_begins token h g = refl

-- an operand that a cast to a name takes
pub begins_tight : (e : x.Expr) (rest : List Kind) → IsShapedExpr e → 12 ≤ level e → is_signed e ≡ false → is_least e ≡ false → next_is begins_cast_operand (first (write_expr e rest)) ≡ true
begins_tight (x.Assign target op value) rest s t g l = absurd (omega arith)
begins_tight (x.Cond c a b) rest s t g l = absurd (omega arith)
begins_tight (x.Binary left op right) rest s t g l = absurd (let b = binary_low op in omega arith)
begins_tight (x.IsA value ty) rest s t g l = absurd (omega arith)
begins_tight (x.Unary y.Plus value) rest s t g l = absurd (cc)
begins_tight (x.Unary y.Minus value) rest s t g l = absurd (cc)
begins_tight (x.Unary y.Tilde value) rest s t g l = refl
begins_tight (x.Unary y.Not value) rest s t g l = refl
begins_tight (x.Unary _ value) rest s t g l = absurd (cc)
begins_tight (x.Cast ty value) rest s t g l = refl
begins_tight (x.PreStep op value) rest s t g l = absurd (cc)
begins_tight (x.PostStep value op) rest s t g l =
    let tight : 13 ≤ level value = s.1.0 in
    begins_tight value (kind.Sym op ∷ rest) s.2 (omega arith) (tight_unsigned value tight) (not-true _ s.1.1)
begins_tight (x.Lit token) rest s t g l = literal_begins token s l
begins_tight (x.This None) rest s t g l = refl
begins_tight (x.This (Some n)) rest s t g l = name_begins n.parts _ s
begins_tight (x.Paren inner) rest s t g l = refl
begins_tight (x.NameExpr n) rest s t g l = name_begins n.parts rest s
begins_tight (x.Select object name) rest s t g l =
    let tight : 14 ≤ level object = s.0.0.0 in
    begins_tight object _ s.1 (omega arith) (tight_unsigned object (omega arith)) (not-true _ s.0.0.1)
begins_tight (x.SuperSelect name) rest s t g l = refl
begins_tight (x.Index array at) rest s t g l =
    let tight : 14 ≤ level array = s.0.0.0 in
    begins_tight array _ s.1 (omega arith) (tight_unsigned array (omega arith)) (not-true _ s.0.0.1)
begins_tight (x.Call x.no_receiver name args) rest s t g l = refl
begins_tight (x.Call (x.a_receiver (x.Of object)) name args) rest s t g l =
    let tight : 14 ≤ level object = s.0.0.0.0 in
    begins_tight object _ s.0.1 (omega arith) (tight_unsigned object (omega arith)) (not-true _ s.0.0.0.1)
begins_tight (x.Call (x.a_receiver (x.OfName n)) name args) rest s t g l = name_begins n.parts _ s.0
begins_tight (x.Call (x.a_receiver x.Super) name args) rest s t g l = refl
begins_tight (x.New class args) rest s t g l = refl
begins_tight (x.NewArray element dims more list) rest s t g l = refl

wider : (token : Kind) → begins_cast_operand token ≡ true → begins_operand token ≡ true
wider (kind.Sym s) h = rw h refl
wider token h = h

next_wider : (o : Option Kind) → next_is begins_cast_operand o ≡ true → starts_expr o ≡ true
next_wider None h = h
next_wider (Some token) h = wider token h

-- an expression
pub begins_any : (e : x.Expr) (rest : List Kind) → IsShapedExpr e → is_least e ≡ false → starts_expr (first (write_expr e rest)) ≡ true
begins_any (x.Assign target op value) rest s l = begins_any target _ s.2 (target_not_least target s.1)
begins_any (x.Cond c a b) rest s l = begins_any c _ s.1 (not-true _ s.0.1)
begins_any (x.Binary left op right) rest s l = begins_any left _ s.2 (not-true _ s.1.1)
begins_any (x.IsA value ty) rest s l = begins_any value _ s.1 (not-true _ s.0.1)
begins_any (x.Unary y.Plus value) rest s l = refl
begins_any (x.Unary y.Minus value) rest s l = refl
begins_any (x.Unary y.Tilde value) rest s l = refl
begins_any (x.Unary y.Not value) rest s l = refl
begins_any (x.Unary _ value) rest s l = absurd (let h = s.0 in cc)
begins_any (x.PreStep y.PlusPlus value) rest s l = refl
begins_any (x.PreStep y.MinusMinus value) rest s l = refl
begins_any (x.PreStep _ value) rest s l = absurd (let h = s.0 in cc)
begins_any e rest s l = next_wider (first (write_expr e rest)) (begins_tight e rest s (omega arith) refl l)
