use Rattle.std.proofs.Common.{◌≡◌, drop}
use Rattle.std.specs.List.{list_any}
use Rattle.jr_defs.specs.Referents.{Table}
use Rattle.jr_plain.specs.Supertypes.{is_at_or_above}
use Rattle.jr_supers.specs.Supers.{AreSupersOf}
use Rattle.jr_flow_faults.proofs.thrown.is_any_above.Given as goal

abbrev pub invariant-loop-over : goal.invariant-loop-over
invariant-loop-over l = (t : Table) → AreSupersOf l.under.rows.now t l.supers → list_any (is_at_or_above l.under.rows.now t l.class) (drop l.over-index l.declared) ≡ list_any (is_at_or_above l.under.rows.now t l.class) l.declared
