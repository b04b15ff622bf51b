-- What may follow an expression, so that no part of it goes on.
use Rattle.std.proofs.Common.{◌≡◌, ℕ, suc, ◌<◌, ◌≤◌, max, Bool, true, false, not, cond, ◌||◌, ltb, Option, Some, None, refl, inl, inr, arith}
use Rattle.std.proofs.lemmas.Bool.{cases_Bool, lt-ltb, ltb-false}
use Rattle.jr_base.specs.declared.kind.Kind.{Kind}
use Rattle.jr_base.specs.declared.kind.Kind.TheVariants as kind
use Rattle.jr_base.specs.declared.kind.Symbol.{Symbol}
use Rattle.jr_base.specs.declared.kind.Symbol.TheVariants as y
use Rattle.jr_base.specs.declared.kind.Keyword.TheVariants as k
use Rattle.jr_tree.specs.Levels.{binary_level, is_assignment}
use Rattle.jr_tree.specs.Shape.{level, is_least, is_name, is_new_array, IsShapedExpr}
use Rattle.jr_tree.specs.Mirror.Exprs as x
use Rattle.jr_parse_laws.specs.Parsers.{begins_with}
use Rattle.jr_parse_starts.specs.Starts.{begins_cast_operand, next_is}
use Rattle.jr_parse_expr.specs.Follow.{symbol_next, has_suffix, has_operator_by, has_operator, IsOver, Unless, DotFree, is_plain_name, LastEnds, Ends}
use Rattle.jr_parse_expr.proofs.Beginnings.{binary_low}

-- how tightly what stands before the token must bind for the token to go on with it; 0 where it never does
abbrev pub needs : Option Kind → ℕ
needs (Some (kind.Sym y.Question)) = 2
needs (Some (kind.Sym y.Dot)) = 14
needs (Some (kind.Sym y.OpenBracket)) = 14
needs (Some (kind.Sym y.PlusPlus)) = 13
needs (Some (kind.Sym y.MinusMinus)) = 13
needs (Some (kind.Sym op)) = cond (is_assignment op) 14 (binary_level op)
needs (Some (kind.Word k.Instanceof)) = 8
needs _ = 0

pub suffix_free : (e : x.Expr) (o : Option Kind) → needs o ≤ 12 → has_suffix e (symbol_next o) ≡ false
suffix_free e None h = refl
suffix_free e (Some (kind.Sym y.Dot)) h = absurd (omega arith)
suffix_free e (Some (kind.Sym y.OpenBracket)) h = absurd (omega arith)
suffix_free e (Some (kind.Sym y.PlusPlus)) h = absurd (omega arith)
suffix_free e (Some (kind.Sym y.MinusMinus)) h = absurd (omega arith)
suffix_free e (Some token) h = refl

not_or : (a b : Bool) → a ≡ true → not (a || b) ≡ false
not_or a b h = rw h refl

not_second : (a b c : Bool) → b ≡ true → not (a || (b || c)) ≡ false
not_second true b c h = refl
not_second false b c h = rw h refl

binary_two : (op : Symbol) → 0 < binary_level op → 2 ≤ binary_level op
binary_two y.OrOr h = omega arith
binary_two y.AndAnd h = omega arith
binary_two y.Or h = omega arith
binary_two y.Caret h = omega arith
binary_two y.And h = omega arith
binary_two y.Equal h = omega arith
binary_two y.NotEqual h = omega arith
binary_two y.Less h = omega arith
binary_two y.Greater h = omega arith
binary_two y.LessEqual h = omega arith
binary_two y.GreaterEqual h = omega arith
binary_two y.ShiftLeft h = omega arith
binary_two y.ShiftRight h = omega arith
binary_two y.ShiftRightUnsigned h = omega arith
binary_two y.Plus h = omega arith
binary_two y.Minus h = omega arith
binary_two y.Star h = omega arith
binary_two y.Slash h = omega arith
binary_two y.Percent h = omega arith
binary_two _ h = absurd (omega arith)

by_free : (least : ℕ) (e : x.Expr) (op : Symbol) → cond (is_assignment op) 14 (binary_level op) < max 2 least → has_operator_by least e op ≡ false
by_free least e op h =
    elim (cases_Bool (is_assignment op)) [
      | inl t ↦ (let g : 14 < max 2 least = rw t at h in rw t (not_or _ _ (lt-ltb 0 least (omega arith))))
      | inr f ↦
          (let g : binary_level op < max 2 least = rw f at h in
          rw f (elim (cases_Bool (ltb (binary_level op) 1)) [
            | inl t ↦ not_or _ _ t
            | inr g1 ↦ not_second _ _ _ (lt-ltb (binary_level op) least (let p = ltb-false (binary_level op) 1 g1 in let q = binary_two op (omega arith) in omega arith))
          ]))
    ]

pub operator_free : (least : ℕ) (e : x.Expr) (o : Option Kind) → needs o < max 2 least → has_operator least e o ≡ false
operator_free least e None h = refl
operator_free least e (Some (kind.Sym y.Question)) h = not_or _ _ (lt-ltb 1 least (omega arith))
operator_free least e (Some (kind.Sym y.Dot)) h = refl
operator_free least e (Some (kind.Sym y.OpenBracket)) h = refl
operator_free least e (Some (kind.Sym y.PlusPlus)) h = refl
operator_free least e (Some (kind.Sym y.MinusMinus)) h = refl
operator_free least e (Some (kind.Sym op)) h = by_free least e op h
operator_free least e (Some (kind.Word k.Instanceof)) h = not_or _ _ (lt-ltb 8 least (omega arith))
operator_free least e (Some token) h = refl

-- no operator binds so tightly
by_tight : (least : ℕ) (e : x.Expr) (op : Symbol) → 12 ≤ least → has_operator_by least e op ≡ false
by_tight least e op h =
    elim (cases_Bool (is_assignment op)) [
      | inl t ↦ rw t (not_or _ _ (lt-ltb 0 least (omega arith)))
      | inr f ↦ rw f (not_second _ _ _ (lt-ltb (binary_level op) least (let b = binary_low op in omega arith)))
    ]

pub operator_tight : (least : ℕ) (e : x.Expr) (o : Option Kind) → 12 ≤ least → has_operator least e o ≡ false
operator_tight least e None h = refl
operator_tight least e (Some (kind.Sym y.Question)) h = not_or _ _ (lt-ltb 1 least (omega arith))
operator_tight least e (Some (kind.Sym op)) h = by_tight least e op h
operator_tight least e (Some (kind.Word k.Instanceof)) h = not_or _ _ (lt-ltb 8 least (omega arith))
operator_tight least e (Some token) h = refl

pub dot_needs : (o : Option Kind) → needs o ≤ 13 → begins_with y.Dot o ≡ false
dot_needs None h = refl
dot_needs (Some (kind.Sym y.Dot)) h = absurd (omega arith)
dot_needs (Some token) h = refl

pub bracket_needs : (o : Option Kind) → needs o ≤ 13 → begins_with y.OpenBracket o ≡ false
bracket_needs None h = refl
bracket_needs (Some (kind.Sym y.OpenBracket)) h = absurd (omega arith)
bracket_needs (Some token) h = refl

pub paren_free : (o : Option Kind) → next_is begins_cast_operand o ≡ false → begins_with y.OpenParen o ≡ false
paren_free None h = refl
paren_free (Some (kind.Sym y.OpenParen)) h = absurd (cc)
paren_free (Some token) h = refl

dot_free : (b : Bool) (o : Option Kind) → begins_with y.Dot o ≡ false → DotFree b o
dot_free true o h = h
dot_free false o h = tt

pub unless : (b : Bool) (P : Type 0) → (b ≡ false → P) → Unless b P
unless true P h = tt
unless false P h = h refl

unless_be : (b : Bool) (P : Type 0) → P → Unless b P
unless_be true P h = tt
unless_be false P h = h

-- a token that takes nothing that binds more loosely than e
pub last_ends : (e : x.Expr) (o : Option Kind) → IsShapedExpr e → next_is begins_cast_operand o ≡ false → needs o ≤ level e
    → (is_name e ≡ true → begins_with y.Dot o ≡ false) → (is_new_array e ≡ true → begins_with y.OpenBracket o ≡ false) → LastEnds e o
last_ends (x.Assign target op value) o s c n d b =
    (last_ends value o s.4 c (omega arith) (λ _. dot_needs o (omega arith)) (λ _. bracket_needs o (omega arith)), (suffix_free value o (omega arith), operator_free 0 value o (omega arith)))
last_ends (x.Cond q a z) o s c n d b =
    let l : 1 ≤ level z = s.4.0 in
    (last_ends z o s.5 c (omega arith) (λ _. dot_needs o (omega arith)) (λ _. bracket_needs o (omega arith)), (suffix_free z o (omega arith), operator_free 1 z o (omega arith)))
last_ends (x.Binary left op right) o s c n d b =
    let l : suc (binary_level op) ≤ level right = s.3.0 in
    let low = binary_low op in (
      last_ends right o s.4 c (omega arith) (λ _. dot_needs o (omega arith)) (λ _. bracket_needs o (omega arith)),
      (suffix_free right o (omega arith), operator_free (suc (binary_level op)) right o (omega arith)),
    )
last_ends (x.IsA value ty) o s c n d b = (bracket_needs o (omega arith), dot_free (is_plain_name ty) o (dot_needs o (omega arith)))
last_ends (x.Unary op value) o s c n d b =
    let l : 12 ≤ level value = s.1 in
    unless (is_least value) (LastEnds value o × IsOver 12 value o) (λ _. (
      last_ends value o s.3 c (omega arith) (λ _. dot_needs o (omega arith)) (λ _. bracket_needs o (omega arith)),
      (suffix_free value o (omega arith), operator_tight 12 value o (omega arith)),
    ))
last_ends (x.Cast ty value) o s c n d b =
    let l : 12 ≤ level value = s.1.0 in
    (last_ends value o s.3 c (omega arith) (λ _. dot_needs o (omega arith)) (λ _. bracket_needs o (omega arith)), (suffix_free value o (omega arith), operator_tight 12 value o (omega arith)))
last_ends (x.PreStep op value) o s c n d b =
    let l : 12 ≤ level value = s.1.0 in
    (last_ends value o s.2 c (omega arith) (λ _. dot_needs o (omega arith)) (λ _. bracket_needs o (omega arith)), (suffix_free value o (omega arith), operator_tight 12 value o (omega arith)))
last_ends (x.Paren inner) o s c n d b = unless_be (not (is_name inner)) _ c
last_ends (x.NameExpr name) o s c n d b = (d refl, paren_free o c)
last_ends (x.Select object name) o s c n d b = paren_free o c
last_ends (x.SuperSelect name) o s c n d b = paren_free o c
last_ends (x.NewArray element dims more x.no_list) o s c n d b = b refl
last_ends _ o s c n d b = tt

-- a token that goes on with nothing
pub record Closes (o : Option Kind) : Type 0 where
  pub cast : next_is begins_cast_operand o ≡ false
  pub none : needs o ≡ 0

pub ends_before : (least : ℕ) (e : x.Expr) (o : Option Kind) → IsShapedExpr e → Closes o → Ends least e o
ends_before least e o s c =
    let z : needs o ≡ 0 = c.none in
    (last_ends e o s c.cast (omega arith) (λ _. dot_needs o (omega arith)) (λ _. bracket_needs o (omega arith)), (suffix_free e o (omega arith), operator_free least e o (omega arith)))
