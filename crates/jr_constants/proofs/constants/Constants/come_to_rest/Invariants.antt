use Rattle.jr_supers.specs.Tabled.{IsSized}
use Rattle.jr_constants.specs.Known.{IsKnown}
use Rattle.jr_constants.proofs.constants.Constants.come_to_rest.Given as goal

abbrev pub invariant-loop-round : goal.invariant-loop-round
invariant-loop-round l = IsSized l.under.rows.now → IsKnown l.under l.constant l.fn.self → IsKnown l.under l.constant l.self
