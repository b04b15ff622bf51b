use Rattle.std.proofs.Common.{◌≡◌, None, length, replicate}
use Rattle.jr_defs.specs.Referents.{entries}
use Rattle.jr_type_facts.specs.Rounds.{called_to}
use Rattle.jr_type_facts.proofs.rounds.put_calls.Given as goal

abbrev pub invariant-loop-call : goal.invariant-loop-call
invariant-loop-call l = l.fn.all.items ≡ replicate (length l.under.rows.now) None → l.all.items ≡ called_to l.under.rows.now (entries l.under.table.now) l.call
