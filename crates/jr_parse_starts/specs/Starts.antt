-- Which tokens begin what (JLS 15), and where a reader must stop for want of levels.
use Rattle.std.specs.Prelude.{ℕ, Bool, true, false, ◌&&◌, ◌||◌, not, nat_lt, if◌then◌else◌, Option, Some, None, ◌∷◌}
use Rattle.jr_base.specs.declared.kind.Kind.{Kind}
use Rattle.jr_base.specs.declared.kind.Kind.TheVariants as kind
use Rattle.jr_base.specs.declared.kind.Symbol.TheVariants as y
use Rattle.jr_base.specs.declared.kind.Keyword.{Keyword}
use Rattle.jr_base.specs.declared.kind.Keyword.TheVariants as k
use Rattle.jr_tree.specs.Levels.{is_unary, is_step, is_literal, is_least_kind}
use Rattle.jr_parse_laws.specs.Parsers.{Parser, first, deep, refuse}

-- a literal that stands anywhere
abbrev pub is_plain_literal : Kind → Bool
is_plain_literal token = is_literal token && not (is_least_kind token)

-- this, super and new
abbrev pub begins_primary : Keyword → Bool
begins_primary k.This = true
begins_primary k.Super = true
begins_primary k.New = true
begins_primary _ = false

-- an operand of a cast to a name: no sign and no step (JLS 15.16)
abbrev pub begins_cast_operand : Kind → Bool
begins_cast_operand (kind.Ident name) = true
begins_cast_operand (kind.Sym y.OpenParen) = true
begins_cast_operand (kind.Sym y.Not) = true
begins_cast_operand (kind.Sym y.Tilde) = true
begins_cast_operand (kind.Sym s) = false
begins_cast_operand (kind.Word w) = begins_primary w || is_plain_literal (kind.Word w)
begins_cast_operand token = is_plain_literal token

abbrev pub begins_operand : Kind → Bool
begins_operand (kind.Sym s) = begins_cast_operand (kind.Sym s) || is_unary s || is_step s
begins_operand token = begins_cast_operand token

-- an expression statement, which has no sign in front (JLS 14.8)
abbrev pub begins_effect : Kind → Bool
begins_effect (kind.Sym y.OpenParen) = true
begins_effect (kind.Sym s) = is_step s
begins_effect token = begins_cast_operand token

-- the same of what comes next
abbrev pub next_is : (Kind → Bool) → Option Kind → Bool
next_is test None = false
next_is test (Some token) = test token

abbrev pub starts_expr : Option Kind → Bool
starts_expr = next_is begins_operand

abbrev pub starts_effect : Option Kind → Bool
starts_effect = next_is begins_effect

abbrev pub is_open_brace : Kind → Bool
is_open_brace (kind.Sym y.OpenBrace) = true
is_open_brace _ = false

abbrev pub starts_list : Option Kind → Bool
starts_list = next_is is_open_brace

abbrev pub starts_init : Option Kind → Bool
starts_init = next_is (λ token. is_open_brace token || begins_operand token)

-- ---- levels left

-- a tree begins here, but there is no level for it
abbrev pub no_level : {A : Type 0} → (Option Kind → Bool) → Parser A
no_level starts ts = if starts (first ts) then deep ts else refuse ts

-- a token that forces so many levels below
abbrev pub within : {A : Type 0} → ℕ → ℕ → Kind → Parser A → Parser A
within levels room token p ts = if nat_lt room levels then deep (token ∷ ts) else p ts

-- the next token goes on with a tree of this height, which becomes a part of a higher one
abbrev pub over : {A : Type 0} → ℕ → ℕ → Parser A → Parser A
over height room p ts = if nat_lt room height then deep ts else p ts
