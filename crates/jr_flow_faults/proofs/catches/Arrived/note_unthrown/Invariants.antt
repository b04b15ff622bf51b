use Rattle.std.proofs.Common.{ℕ, Bool}
use Rattle.jr_defs.specs.Referents.{entries}
use Rattle.jr_plain.specs.Overloads.{Types}
use Rattle.jr_plain.specs.Search.{all_such}
use Rattle.jr_rule.specs.declared.Rule.TheVariants as rule
use Rattle.jr_rule.specs.Faults.{AreFaultsOf}
use Rattle.jr_faults.specs.Added.{is_rule, AreOnly}
use Rattle.jr_flow_faults.specs.Arriving.{IsTelling, AreAllArrived}
use Rattle.jr_flow_faults.specs.ExceptionTests.{is_unthrown}
use Rattle.jr_flow_faults.proofs.catches.Arrived.note_unthrown.Given as goal

abbrev pub invariant-loop-at : goal.invariant-loop-at
invariant-loop-at l = AreOnly (is_rule rule.UnthrownCatch) l.fn.out.items l.out.items
    × (IsTelling l.under l.supers l.roots l.self → (type_of : Types) → (completes : ℕ → Bool) → AreAllArrived l.under type_of completes l.self
    → AreFaultsOf rule.UnthrownCatch (all_such l.at (is_unthrown l.under.rows.now (entries l.under.table.now) type_of completes)) l.fn.out.items l.out.items)
