use Rattle.std.specs.Prelude.{◌≡◌, length}
use Rattle.jr_tree.specs.Tree.{IsTree}
use Rattle.jr_defs.specs.Referents.{entries}
use Rattle.jr_supers.specs.Tabled.{IsSized}
use Rattle.jr_constants.specs.Tables.{picks}
use Rattle.jr_constants.specs.Known.{IsKnown}
use Rattle.jr_constants.specs.Resting.{IsStableFrom}
use Rattle.jr_constants.proofs.constants.Constants.set_rows.Given as goal

abbrev pub invariant-loop-at : goal.invariant-loop-at
invariant-loop-at l = IsSized l.under.rows.now → IsKnown l.under l.constant l.fn.self
    → IsKnown l.under l.constant l.self × (IsTree l.under.rows.now → l.count ≡ length l.under.rows.now → IsStableFrom l.under.rows.now (entries l.under.table.now) (picks l.constant) l.self l.at)
