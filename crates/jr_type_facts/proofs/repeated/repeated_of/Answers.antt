use Rattle.std.proofs.Common.{◌<◌, arith, length}
use Rattle.jr_type_facts.specs.Views.{rows_in, types_in, constants_in}
use Rattle.jr_type_facts.proofs.Meeting.{met_start, table_more, table_told}
use Rattle.jr_type_facts.proofs.repeated.repeated_of.Goals as goal

pub loop-at-init : goal.loop-at-init
loop-at-init c = λ right whole. (met_start (rows_in c.args.view.now) (constants_in c.args.view.now) (types_in c.args.view.now) _ c.new.ensures.empty c.in_ok-new.ensures, c.new-all.ensures.items)

pub loop-at-preserved : goal.loop-at-preserved
loop-at-preserved c = λ right whole. let inv = c.loop-at.invariant right whole in let lt : c.loop-at.at < length (rows_in c.args.view.now) = omega (arith, whole) in
    (c.in_ok-is_met.ensures.met right lt inv.0, table_more (rows_in c.args.view.now) (constants_in c.args.view.now) (types_in c.args.view.now) _ c.loop-at.at _ _ _ inv.1 (c.in_ok-is_met.ensures.told right lt inv.0) c.in_ok-push.ensures.items)

pub returns : goal.returns
returns c = λ right whole. let inv = c.loop-at.invariant right whole in table_told (rows_in c.args.view.now) (constants_in c.args.view.now) (types_in c.args.view.now) right.seen.placed.local.tree _ c.loop-at.at (omega (arith, whole)) inv.1
