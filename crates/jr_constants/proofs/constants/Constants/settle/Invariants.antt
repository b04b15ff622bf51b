use Rattle.jr_supers.specs.Tabled.{IsSized}
use Rattle.jr_constants.specs.Known.{IsKnown}
use Rattle.jr_constants.proofs.constants.Constants.settle.Given as goal

abbrev pub invariant-loop-turn : goal.invariant-loop-turn
invariant-loop-turn l = IsSized l.under.rows.now → IsKnown l.under l.constant l.fn.self → IsKnown l.under l.constant l.self
