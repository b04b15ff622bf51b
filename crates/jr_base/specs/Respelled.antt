-- A text in which chosen identifiers are spelled otherwise, and the tokens of it.
use Rattle.std.specs.Prelude.{◌≡◌, ℕ, ◌+◌, ◌-◌, List, [], ◌∷◌, ◌++◌, length, drop, map, All, slice_range, Option, Some, None}
use Rattle.jr_base.specs.Identifiers.{IsIdentifier}
use Rattle.jr_base.specs.Reading.{Lex}
use Rattle.jr_base.specs.declared.kind.Kind.{Kind}
use Rattle.jr_base.specs.declared.kind.Kind.TheVariants.{Ident}
use Rattle.jr_base.specs.declared.token.Token.{Token}

-- a token, with the identifier that is to stand in its place, or None where it stays
abbrev pub Choice : Type 0
Choice = Token × Option (List ℕ)

-- only an identifier token is spelled otherwise, and by an identifier
abbrev pub IsChoice : Choice → Type 0
IsChoice (t, None) = Unit {0}
IsChoice (t, Some name) = ((old : List ℕ) × (t.kind ≡ Ident old)) × IsIdentifier name

abbrev pub new_kind : Choice → Kind
new_kind (t, None) = t.kind
new_kind (t, Some name) = Ident name

-- what is written for the token
abbrev pub new_spelling : List ℕ → Choice → List ℕ
new_spelling bytes (t, None) = slice_range bytes t.span.start t.span.end
new_spelling bytes (t, Some name) = name

-- how many bytes that is
abbrev pub new_width : Choice → ℕ
new_width (t, None) = t.span.end - t.span.start
new_width (t, Some name) = length name

-- the bytes from a place on, with the tokens there written by their choices and all between them kept
abbrev pub respelled : List ℕ → ℕ → List Choice → List ℕ
respelled bytes from [] = drop from bytes
respelled bytes from (c ∷ cs) =
    slice_range bytes from c.0.span.start ++ (new_spelling bytes c ++ respelled bytes c.0.span.end cs)

-- the token of the choice, moved to the place
abbrev pub moved_token : ℕ → Choice → Token
moved_token start c = record { kind = new_kind c; span = record { start = start; end = start + new_width c } }

-- the tokens of that text, where the old place `from` has come to the new place `at`
abbrev pub moved_tokens : ℕ → ℕ → List Choice → List Token
moved_tokens from at [] = []
moved_tokens from at (c ∷ cs) =
    let start = at + (c.0.span.start - from) in
    moved_token start c ∷ moved_tokens c.0.span.end (start + new_width c) cs

-- the law: the new text has the old tokens, with the chosen ones replaced and all moved
abbrev pub RespelledReads : Type 0
RespelledReads = (bytes : List ℕ) (choices : List Choice) → Lex bytes (map (λ c. c.0) choices) → All IsChoice choices
    → Lex (respelled bytes 0 choices) (moved_tokens 0 0 choices)
