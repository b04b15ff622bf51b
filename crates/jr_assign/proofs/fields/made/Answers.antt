use Rattle.std.proofs.Common.{sym, subst}
use Rattle.jr_assign.specs.Made.{AreBefore}
use Rattle.jr_assign.proofs.fields.made.Goals as goal

pub loop-turn-preserved : goal.loop-turn-preserved
loop-turn-preserved c = subst (λ k. AreBefore c.args.group c.args.body c.args.is_static k c.in_ok-word.word) (sym c.in_ok-at.ensures) (c.in_ok-word.ensures c.loop-turn.invariant)
