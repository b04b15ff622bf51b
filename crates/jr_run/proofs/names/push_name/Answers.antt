use Rattle.std.proofs.Common.{◌≤◌, ◌-◌, arith}
use Rattle.jr_tree.specs.Rows.{end}
use Rattle.jr_run.proofs.Naming.{names_all, names_more, names_none}
use Rattle.jr_run.proofs.names.push_name.Goals as goal

pub loop-at-init : goal.loop-at-init
loop-at-init c = names_none c.args.rows.now c.args.last (c.args.last - c.args.last) _ (omega arith)

pub loop-at-preserved : goal.loop-at-preserved
loop-at-preserved c = names_more c.args.rows.now c.args.last c.loop-at.at _ _ _ (omega arith) c.in_ok-push.ensures.items c.loop-at.invariant

pub returns : goal.returns
returns c = λ few lt.
    let stop = c.end_at-at-end.ensures few in
    let up : end c.args.rows.now c.args.last ≤ c.loop-at.at = omega arith in
    let down : c.loop-at.at ≤ end c.args.rows.now c.args.last = omega arith in
    names_all c.args.rows.now c.args.last c.loop-at.at c.loop-at.all.items _ lt up down c.loop-at.invariant
