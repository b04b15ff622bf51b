use Rattle.std.proofs.Common.{sym, ◌∙◌, arith}
use Rattle.jr_lex.proofs.CandidateRows.{lone_found, lone_len, nonzero}
use Rattle.jr_lex.proofs.SymbolLemmas.{symbol_bounds, shorter}
use Rattle.jr_lex.proofs.symbols.symbol_at.Goals as goal

pub returns-in-Some : goal.returns-in-Some
returns-in-Some c =
    (lone_found c.args.text.now _ (nonzero _ (sym c.is_empty.ensures ∙ c.if-is_empty.false)) c.in-Some.ensures.0, λ len s h. lone_len c.args.text.now len s c.in-Some.ensures.1 h)

pub returns-in-Some-symbol_of : goal.returns-in-Some-symbol_of
returns-in-Some-symbol_of c =
    (record { inside = c.if-len-text.true; spells = sym c.in-Some-symbol_of.ensures }, λ len s h. omega (arith, c.loop-len.invariant len s h))

pub loop-len-preserved-in_default-symbol_of : goal.loop-len-preserved-in_default-symbol_of
loop-len-preserved-in_default-symbol_of c len s h =
    shorter _ _ len s (rw c.in_default-symbol_of.is at c.symbol_of.ensures) h (omega (arith, c.loop-len.invariant len s h))

pub returns : goal.returns
returns c len s h = absurd (omega (arith, symbol_bounds _ len s h, c.loop-len.invariant len s h, c.loop-len-test.false))
