use Rattle.std.specs.Prelude.{ℕ, ◌<◌}
use Rattle.jr_defs.specs.Referents.{entries}
use Rattle.jr_supers.specs.Tabled.{IsSized}
use Rattle.jr_constants.specs.Resting.{IsRestingAt}
use Rattle.jr_constants.proofs.constants.Constants.is_at_rest.Given as goal

abbrev pub invariant-loop-at : goal.invariant-loop-at
invariant-loop-at l = IsSized l.under.rows.now → (d : ℕ) → d < l.at → IsRestingAt l.under.rows.now (entries l.under.table.now) l.self d
