use Rattle.std.proofs.Common.{arith, length}
use Rattle.jr_inline.specs.Retyping.{comparison, is_retyped}
use Rattle.jr_inline.proofs.Comparing.{found_all, found_more, none_below}
use Rattle.jr_inline.proofs.retyped.Retyping.first.Goals as goal

pub loop-row-init : goal.loop-row-init
loop-row-init c = λ ordered. none_below (is_retyped (comparison c.args.self.now)) c.args.marks.now

pub loop-row-preserved : goal.loop-row-preserved
loop-row-preserved c = λ ordered. found_more (is_retyped (comparison c.args.self.now)) c.args.marks.now c.loop-row.row c.loop-row.first c.first_with-first.result (c.first_with-first.ensures ordered) (c.loop-row.invariant ordered)

pub returns : goal.returns
returns c = λ ordered few. let count = c.count_of-row-end.ensures few in
    found_all (is_retyped (comparison c.args.self.now)) c.args.marks.now c.loop-row.row (length c.args.self.now.origin.now) c.loop-row.first (omega arith) (c.loop-row.invariant ordered)
