use Rattle.std.proofs.Common.{◌≡◌}
use Rattle.jr_elab.specs.Stacked.{stacks_in}
use Rattle.jr_elab.proofs.Bodied.{WaitsSo}
use Rattle.jr_elab.proofs.statements.make_below.Given as goal

abbrev pub invariant-loop-row : goal.invariant-loop-row
invariant-loop-row l = record {
  waits : WaitsSo l.source l.fn.making.result_type l.at l.row (stacks_in l.fn.making) (stacks_in l.making);
  kept : l.making.result_type ≡ l.fn.making.result_type;
}
