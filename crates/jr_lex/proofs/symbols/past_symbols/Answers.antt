use Rattle.std.proofs.Common.{sym, ◌∙◌, arith}
use Rattle.jr_lex.proofs.CandidateRows.{second_len}
use Rattle.jr_lex.proofs.SymbolLemmas.{symbol_bounds}
use Rattle.jr_lex.proofs.symbols.past_symbols.Goals as goal

pub returns-then-text-lt2 : goal.returns-then-text-lt2
returns-then-text-lt2 c len s h = omega (arith, h.inside, c.if-text-lt2.true)

pub returns-then-is_second : goal.returns-then-is_second
returns-then-is_second c len s h = (symbol_bounds c.args.text.now len s h).1

pub returns-else-is_second : goal.returns-else-is_second
returns-else-is_second c len s h = omega (arith, second_len c.args.text.now len s (sym c.is_second.ensures ∙ c.if-is_second.false) h)
