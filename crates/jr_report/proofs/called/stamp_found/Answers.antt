use Rattle.std.proofs.Common.{arith, length}
use Rattle.std.proofs.lemmas.List.{drop_more, drop_all}
use Rattle.jr_members.proofs.Each.{item_in}
use Rattle.jr_report.specs.Listed.{rows_in, table_in}
use Rattle.jr_report.proofs.Gathering.{gather_more, gather_end, method_below}
use Rattle.jr_report.proofs.called.stamp_found.Goals as goal

pub loop-other-init : goal.loop-other-init
loop-other-init c = λ whole here below method named gathered. gathered

pub loop-other-preserved : goal.loop-other-preserved
loop-other-preserved c = λ whole here below method named gathered.
    let of = named.methods _ (item_in c.args.others.now c.loop-other.other-index _ (omega arith)) in
    let old = c.loop-other.invariant whole here below method named gathered in
    gather_more (rows_in c.args.world.now) (table_in c.args.world.now) c.args.method _ _ _ _ _ _ (drop_more c.args.others.now c.loop-other.other-index _ (omega arith))
    (c.in_ok-is_such.ensures whole here below method of) (c.stamp_if.ensures (length (rows_in c.args.world.now)) old.counted) (method_below (rows_in c.args.world.now) _ of) old

pub returns : goal.returns
returns c = λ whole here below method named gathered. gather_end (rows_in c.args.world.now) (table_in c.args.world.now) c.args.method _ _ (drop_all c.loop-other.other-index c.args.others.now (omega arith)) (c.loop-other.invariant whole here below method named gathered)
