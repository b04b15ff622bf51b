use Rattle.std.proofs.Common.{◌<◌, ◌≤◌, length, arith}
use Rattle.std.proofs.lemmas.Result.{on_ok_weaker}
use Rattle.jr_run.proofs.Naming.{path_end, path_last, path_more, path_start}
use Rattle.jr_run.proofs.names.push_path.Goals as goal

pub loop-turn-init : goal.loop-turn-init
loop-turn-init c = path_start c.args.rows.now c.args.class _

pub loop-turn-preserved : goal.loop-turn-preserved
loop-turn-preserved c =
    let lt : c.loop-turn._turn < length c.args.rows.now = omega arith in
    path_more c.args.rows.now c.args.class c.loop-turn._turn c.loop-turn.at _ _ _ _ _ c.loop-turn.invariant lt c.declaring_type.ensures c.in-Some.is c.in_ok-push.ensures.items

pub returns-in-None : goal.returns-in-None
returns-in-None c = λ placed few.
    let lt : c.loop-turn._turn < length c.args.rows.now = omega arith in
    on_ok_weaker c.push_package.result
    (λ h. path_last c.args.rows.now c.args.class c.loop-turn._turn c.loop-turn.at _ _ _ c.push_package.new.all.items _ c.loop-turn.invariant lt c.declaring_type.ensures c.in-None.is c.in_ok-push.ensures.items h) (c.push_package.ensures placed few)

pub returns : goal.returns
returns c = λ placed few.
    let le : length c.args.rows.now ≤ c.loop-turn._turn = omega arith in
    path_end c.args.rows.now c.args.class c.loop-turn._turn c.loop-turn.at _ _ c.loop-turn.invariant le
