use Rattle.std.proofs.Common.{◌-◌, length}
use Rattle.jr_rules.specs.OperandTests.{denotes_variable}
use Rattle.jr_type_facts.specs.Facts.{rows_of, table_of, AreSeenFacts}
use Rattle.jr_type_faults.proofs.Denoting.{IsSought}
use Rattle.jr_type_faults.proofs.operands.denotes_variable.Given as goal

abbrev pub invariant-loop-turn : goal.invariant-loop-turn
invariant-loop-turn l = AreSeenFacts l.facts → IsSought (rows_of l.facts) (table_of l.facts) (length (rows_of l.facts) - l._turn) l.here (denotes_variable (rows_of l.facts) (table_of l.facts) l.at)
