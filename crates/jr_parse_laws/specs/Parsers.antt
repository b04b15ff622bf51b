-- Readers as functions on lists of kinds: what they answer, and how they are put together.
use Rattle.std.specs.Prelude.{◌≡◌, ℕ, zero, suc, Bool, false, if◌then◌else◌, List, [], ◌∷◌, ◌++◌, length, map, Option, Some, None, Result, Ok, Err}
use Rattle.std.specs.Borrow.{Bor}
use denote.Enum.Bare.{sameb}
use Rattle.jr_base.specs.declared.text.Text.{Text}
use Rattle.jr_base.specs.declared.kind.Keyword.{Keyword}
use Rattle.jr_base.specs.contracts.kind.Keyword.{the_type as word_type}
use Rattle.jr_base.specs.declared.kind.Symbol.{Symbol}
use Rattle.jr_base.specs.declared.kind.Symbol.TheVariants as y
use Rattle.jr_base.specs.contracts.kind.Symbol.{the_type as symbol_type}
use Rattle.jr_base.specs.declared.kind.Kind.{Kind}
use Rattle.jr_base.specs.declared.kind.Kind.TheVariants.{Word, Ident, Sym}
use Rattle.jr_parse_laws.specs.declared.cursor.Cursor.{Cursor}
use Rattle.jr_parse_laws.specs.declared.fault.Fault.{Fault}
use Rattle.jr_parse_laws.specs.declared.fault.Fault.TheVariants.{NoTree, TooDeep, OutOfMemory}

-- the kinds of the tokens that are still to be read
abbrev pub kinds : Cursor → List Kind
kinds cursor = map (λ t. t.kind) cursor.rest.now

-- what was read and the tokens after it, or the fault and the tokens from the one where it shows
abbrev pub Outcome : Type 0 → Type 0
Outcome A = Result (A × List Kind) (Fault × List Kind)

abbrev pub Parser : Type 0 → Type 0
Parser A = List Kind → Outcome A

-- ---- one after the other

abbrev pub and_then : {A B : Type 0} → Outcome A → (A → Parser B) → Outcome B
and_then (Ok p) f = f p.0 p.1
and_then (Err e) f = Err e

infixl 10 ◌>>=◌
abbrev pub ◌>>=◌ : {A B : Type 0} → Parser A → (A → Parser B) → Parser B
p >>= f = λ ts. and_then (p ts) f

infixl 10 ◌>>◌
abbrev pub ◌>>◌ : {A B : Type 0} → Parser A → Parser B → Parser B
p >> q = p >>= (λ _. q)

abbrev pub pure : {A : Type 0} → A → Parser A
pure a = λ ts. Ok (a, ts)

-- no tree goes on here
abbrev pub refuse : {A : Type 0} → Parser A
refuse = λ ts. Err (NoTree, ts)

-- a deeper tree goes on here
abbrev pub deep : {A : Type 0} → Parser A
deep = λ ts. Err (TooDeep, ts)

-- ---- the next token

abbrev pub first : List Kind → Option Kind
first [] = None
first (k ∷ ts) = Some k

abbrev pub SeesFirst : List Kind → Option (Bor Kind) → Type 0
SeesFirst [] o = o ≡ None
SeesFirst (k ∷ ts) None = ⊥
SeesFirst (k ∷ ts) (Some b) = b.now ≡ k

abbrev pub symbol_of : Kind → Option Symbol
symbol_of (Sym s) = Some s
symbol_of _ = None

abbrev pub symbol_at : List Kind → Option Symbol
symbol_at [] = None
symbol_at (k ∷ ts) = symbol_of k

abbrev pub is_symbol : Symbol → Kind → Bool
is_symbol s (Sym t) = sameb symbol_type t s
is_symbol s _ = false

abbrev pub is_word : Keyword → Kind → Bool
is_word w (Word v) = sameb word_type v w
is_word w _ = false

abbrev pub is_at : Symbol → List Kind → Bool
is_at s [] = false
is_at s (k ∷ ts) = is_symbol s k

abbrev pub is_at_word : Keyword → List Kind → Bool
is_at_word w [] = false
is_at_word w (k ∷ ts) = is_word w k

abbrev pub expect : Symbol → Parser (Unit {0})
expect s [] = refuse []
expect s (k ∷ ts) = if is_symbol s k then Ok (tt, ts) else refuse (k ∷ ts)

abbrev pub expect_word : Keyword → Parser (Unit {0})
expect_word w [] = refuse []
expect_word w (k ∷ ts) = if is_word w k then Ok (tt, ts) else refuse (k ∷ ts)

abbrev pub identifier : Parser Text
identifier (Ident name ∷ ts) = Ok (name, ts)
identifier ts = refuse ts

-- ---- lists

-- items, as long as one begins; each takes a token
abbrev pub many_from : {A : Type 0} → (Option Kind → Bool) → Parser A → ℕ → Parser (List A)
many_from starts item zero ts = Ok ([], ts)
many_from starts item (suc turns) ts =
    if starts (first ts) then and_then (item ts) (λ a rest. and_then (many_from starts item turns rest) (λ all rest. Ok (a ∷ all, rest))) else Ok ([], ts)

unfoldable pub many : {A : Type 0} → (Option Kind → Bool) → Parser A → Parser (List A)
many starts item ts = many_from starts item (length ts) ts

-- an item, if one begins
abbrev pub optional : {A : Type 0} → (Option Kind → Bool) → Parser A → Parser (Option A)
optional starts item ts = if starts (first ts) then and_then (item ts) (λ a rest. Ok (Some a, rest)) else Ok (None, ts)

abbrev pub begins_with : Symbol → Option Kind → Bool
begins_with s None = false
begins_with s (Some k) = is_symbol s k

-- an item behind a comma
abbrev pub after_comma : {A : Type 0} → Parser A → Parser A
after_comma item = expect y.Comma >> item

-- one item or more, with commas between them
abbrev pub commas : {A : Type 0} → Parser A → Parser (List A)
commas item ts = and_then (item ts) (λ a rest. and_then (many (begins_with y.Comma) (after_comma item) rest) (λ all rest. Ok (a ∷ all, rest)))

-- ---- what a function of the program ensures

abbrev pub done : Unit {0} → Unit {0}
done u = tt

-- want of memory is free
abbrev pub Fails : {A : Type 0} → Outcome A → Fault → List Kind → Type 0
Fails outcome OutOfMemory ts = Unit {0}
Fails outcome NoTree ts = outcome ≡ Err (NoTree, ts)
Fails outcome TooDeep ts = outcome ≡ Err (TooDeep, ts)

-- the program's answer, seen as plain data, and where it leaves its cursor
abbrev pub Reads : {A B : Type 0} → (B → A) → Outcome A → Result B Fault → List Kind → Type 0
Reads view outcome (Ok b) new = outcome ≡ Ok (view b, new)
Reads view outcome (Err e) new = Fails outcome e new

-- these, and then those that are still to be read
abbrev pub with_front : {A : Type 0} → List A → Outcome (List A) → Outcome (List A)
with_front front read = and_then read (λ all rest. Ok (front ++ all, rest))
