use Rattle.jr_supers.specs.Tabled.{IsSized}
use Rattle.jr_constants.specs.Known.{IsKnown}
use Rattle.jr_constants.proofs.constants.Constants.set_all.Given as goal

abbrev pub invariant-loop-part : goal.invariant-loop-part
invariant-loop-part l = IsSized l.under.rows.now → IsKnown l.under l.constant l.fn.self → IsKnown l.under l.constant l.self
