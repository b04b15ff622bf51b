use Rattle.std.proofs.Common.{arith}
use Rattle.std.proofs.lemmas.List.{drop_more, drop_all}
use Rattle.jr_run.proofs.Naming.{dots_end, dots_more}
use Rattle.jr_run.proofs.names.add_behind_dots.Goals as goal

pub loop-at-preserved : goal.loop-at-preserved
loop-at-preserved c = dots_more c.args.rows.now _ _ _ _ _ _ _ _ (drop_more c.args.some.now c.loop-at.at-index _ (omega arith)) c.in_ok-push.ensures.items
    c.in_ok-extend_from_slice.ensures.items c.name_at.ensures c.loop-at.invariant

pub returns : goal.returns
returns c = dots_end c.args.rows.now _ _ _ (drop_all c.loop-at.at-index c.args.some.now (omega arith)) c.loop-at.invariant
