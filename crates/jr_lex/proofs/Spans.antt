-- Spans rise.
use Rattle.std.proofs.Common.{ℕ, ◌≤◌, List, [], ◌∷◌, drop, arith}
use Rattle.jr_base.specs.Reading.{Reads, here, gap, token}
use Rattle.jr_base.specs.declared.token.Token.{Token}
use Rattle.jr_lex.specs.Laws.{Rising, SpansRise}
use Rattle.jr_lex.proofs.Classes.{token_some}

earlier : (a b stop : ℕ) (ts : List Token) → a ≤ b → Rising b ts stop → Rising a ts stop
earlier a b stop [] l h = omega arith
earlier a b stop (t ∷ ts) l h = (omega (arith, h.0), h.1, h.2)

rising : {bytes : List ℕ} {start stop : ℕ} {ts : List Token} → Reads bytes start ts stop → Rising start ts stop
rising here = omega arith
rising {stop = stop} {ts = ts} (gap {start = start} {end = end} g r) = earlier start end stop ts (omega (arith, g.1)) (rising r)
rising {bytes} (token {start = start} {t = t} p l r) = (omega arith, omega (arith, l.1, token_some (drop start bytes) l.0 t.kind l.2.stands), rising r)

pub spans_rise : SpansRise
spans_rise bytes ts h = rising h.reads
