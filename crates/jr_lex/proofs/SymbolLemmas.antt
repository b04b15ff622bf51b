-- How long the symbols are that a text begins with.
use Rattle.std.proofs.Common.{◌≡◌, ◌≢◌, ⊎_elim, ℕ, ◌<◌, ◌≤◌, List, length, take, sym, ◌∙◌, ap, arith}
use Rattle.std.proofs.lemmas.List.{length-take-le}
use Rattle.jr_base.specs.declared.kind.Symbol.{Symbol}
use Rattle.jr_base.specs.Spellings.{symbol_text}
use Rattle.jr_lex.specs.Items.{HasSymbol}
use Rattle.jr_lex.proofs.SpellingTables.{symbol_some, symbol_short}
use Rattle.jr_lex.proofs.ByteLemmas.{le_or_lt}

pub symbol_len : (text : List ℕ) (len : ℕ) (s : Symbol) → HasSymbol text len s → len ≡ length (symbol_text s)
symbol_len text len s h = sym (length-take-le len text h.inside) ∙ ap length h.spells

pub symbol_bounds : (text : List ℕ) (len : ℕ) (s : Symbol) → HasSymbol text len s → (0 < len) × (len < 5)
symbol_bounds text len s h = (omega (arith, symbol_len text len s h, symbol_some s), omega (arith, symbol_len text len s h, symbol_short s))

pub shorter : (text : List ℕ) (n len : ℕ) (s : Symbol) → ((r : Symbol) → symbol_text r ≢ take n text) → HasSymbol text len s → len ≤ n → len < n
shorter text n len s none h l = ⊎_elim
    (λ m. absurd (none s (sym h.spells ∙ ap (λ k. take k text) (let e : len ≡ n = omega arith in e))))
    (λ m. m)
    (le_or_lt n len)
