use Rattle.std.proofs.Common.{◌≡◌, sym, subst, arith}
use Rattle.jr_bind.specs.Confirmed.{rows_of, table_of}
use Rattle.jr_bind.specs.Rebound.{AreReboundTo}
use Rattle.jr_bind.proofs.Locked.{rebound_start, rebound_next}
use Rattle.jr_bind.proofs.rebinding.all_rebound.Goals as goal

pub loop-at-init : goal.loop-at-init
loop-at-init c = λ can. subst (AreReboundTo (rows_of c.args.sight) (table_of c.args.sight) 0) (sym c.new-all.ensures.items) (rebound_start (rows_of c.args.sight) (table_of c.args.sight))

pub loop-at-preserved : goal.loop-at-preserved
loop-at-preserved c = λ can. rebound_next (rows_of c.args.sight) (table_of c.args.sight) c.loop-at.at c.loop-at.all.items _ c.in_ok-answer.answer (c.loop-at.invariant can) (c.in_ok-answer.ensures (can c.loop-at.at c.loop-at-test.true)) c.in_ok-push_if.ensures

pub returns : goal.returns
returns c = λ can. let all : c.loop-at.at ≡ c.args.end = omega arith in subst (λ n. AreReboundTo (rows_of c.args.sight) (table_of c.args.sight) n c.loop-at.all.items) all (c.loop-at.invariant can)
