use Rattle.std.proofs.Common.{ℕ, ◌<◌}
use Rattle.jr_defs.specs.Referents.{Table}
use Rattle.jr_dispatch.specs.Methods.{AreMethods}
use Rattle.jr_edges.specs.Dispatched.{KeepsClass}
use Rattle.jr_edges.proofs.dispatched.lost_before.Given as goal

abbrev pub invariant-loop-class : goal.invariant-loop-class
invariant-loop-class l = (t u : Table) → AreMethods l.old.under.rows.now t l.old → AreMethods l.locked.under.rows.now u l.locked → (c : ℕ) → c < l.class
    → KeepsClass l.locked.under.rows.now u l.copy l.old.under.rows.now t c
