use Rattle.std.specs.Prelude.{ℕ, Bool}
use Rattle.jr_defs.specs.Referents.{entries}
use Rattle.jr_supers.specs.Tabled.{IsSized}
use Rattle.jr_constants.specs.Tables.{AreKnown}
use Rattle.jr_constants.proofs.constants.Constants.find_all.Given as goal

abbrev pub invariant-loop-at : goal.invariant-loop-at
invariant-loop-at l = (k : ℕ → Bool) → IsSized l.under.rows.now → AreKnown l.under.rows.now (entries l.under.table.now) k l.fn.self.texts l.fn.self.variables.items l.fn.self.values.items
    → AreKnown l.under.rows.now (entries l.under.table.now) k l.self.texts l.self.variables.items l.self.values.items
