use Rattle.std.proofs.Common.{◌<◌, ℕ}
use Rattle.jr_base.specs.declared.kind.Symbol.{Symbol}
use Rattle.jr_lex.specs.Items.{HasSymbol}
use Rattle.jr_lex.proofs.symbols.symbol_at.Given as goal

-- no symbol that the text begins with is as long as one that was tried
abbrev pub invariant-loop-len : goal.invariant-loop-len
invariant-loop-len l = (len : ℕ) (s : Symbol) → HasSymbol l.text len s → len < l.len
