use Rattle.std.proofs.Common.{sym, ◌∙◌, arith}
use Rattle.jr_delete.specs.Deleting.{is_use}
use Rattle.jr_delete.proofs.Finding.{found_at, found_none}
use Rattle.jr_delete.proofs.uses.first_among.Goals as goal

pub returns-then-is_use : goal.returns-then-is_use
returns-then-is_use c = sym (found_at (is_use c.args.old.now c.args.range) c.args.order.now c.loop-at.at-index (omega arith) (sym c.is_use.ensures ∙ c.if-is_use.true) c.loop-at.invariant)

pub returns : goal.returns
returns c = sym (found_none (is_use c.args.old.now c.args.range) c.args.order.now (λ k lt. c.loop-at.invariant k (omega arith)))
