use Rattle.std.proofs.Common.{◌<◌, arith, length}
use Rattle.jr_member_faults.proofs.Topped.{tops_start, tops_more, tops_end}
use Rattle.jr_member_faults.proofs.tops.put_faults.Goals as goal

pub loop-row-init : goal.loop-row-init
loop-row-init c = λ placed whole are. tops_start c.args.rows.now c.args.places.now _ c.args.out.now.items c.new-types.ensures

pub loop-row-preserved : goal.loop-row-preserved
loop-row-preserved c = λ placed whole are. let lt : c.loop-row.row < length c.args.rows.now = omega arith in
    tops_more c.args.rows.now c.args.places.now c.loop-row.row _ _ c.args.units.now c.top_entry-entry.result _ _ _ placed are (c.top_entry-entry.ensures placed.are lt) c.in_ok-add_entry.ensures c.in_ok-top_fault.ensures
    (c.loop-row.invariant placed whole are)

pub returns : goal.returns
returns c = λ placed whole are. tops_end c.args.rows.now c.args.places.now c.loop-row.row _ c.args.out.now.items _ (omega arith) (c.loop-row.invariant placed whole are)
