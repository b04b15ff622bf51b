use Rattle.std.proofs.Common.{◌≡◌, ◌++◌, drop, flat_map}
use Rattle.jr_defs.specs.Referents.{Table}
use Rattle.jr_dispatch.specs.Methods.{AreMethods}
use Rattle.jr_dispatch.specs.Dispatching.{declared_methods}
use Rattle.jr_dispatch.proofs.dispatch.Methods.all_declared.Given as goal

abbrev pub invariant-loop-over : goal.invariant-loop-over
invariant-loop-over l = (t : Table) → AreMethods l.self.under.rows.now t l.self
    → l.all.items ++ flat_map (declared_methods l.self.under.rows.now) (drop l.over-index l.overs) ≡ flat_map (declared_methods l.self.under.rows.now) l.overs
