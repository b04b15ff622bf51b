use Rattle.std.proofs.Common.{subst, arith}
use Rattle.jr_bind.specs.Filled.{HoldsHeaders}
use Rattle.jr_bind.proofs.Clearing.{headers_start}
use Rattle.jr_bind.proofs.filling.headers_of.Goals as goal

pub loop-at-init : goal.loop-at-init
loop-at-init c = headers_start c.args.stages.now c.args.table.now _ c.in_ok-kept.ensures

pub returns : goal.returns
returns c = subst (HoldsHeaders c.args.stages.now c.args.table.now c.loop-at.kept.items) (omega (arith, c.in-Ok.ensures)) c.loop-at.invariant
