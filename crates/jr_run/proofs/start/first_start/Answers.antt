use Rattle.std.proofs.Common.{arith, ◌<◌, ◌≤◌, length}
use Rattle.std.proofs.lemmas.List.{drop_more, drop_all}
use Rattle.jr_run.specs.Starting.{rows_in, table_in}
use Rattle.jr_run.proofs.Started.{method_at, starts_first, starts_more, starts_none}
use Rattle.jr_run.proofs.start.first_start.Goals as goal

pub loop-at-init : goal.loop-at-init
loop-at-init c = λ read lists. starts_first (rows_in c.args.world.now) (table_in c.args.world.now) c.args.class c.args.methods.now lists

pub loop-at-preserved : goal.loop-at-preserved
loop-at-preserved c = λ read lists.
    let lt : c.loop-at.at-index < length c.args.methods.now = omega arith in
    starts_more (rows_in c.args.world.now) (table_in c.args.world.now) c.args.class _ _ _ _ (c.loop-at.invariant read lists) (drop_more c.args.methods.now c.loop-at.at-index _ lt)
    (c.in_ok-is_such.ensures read (method_at (rows_in c.args.world.now) (table_in c.args.world.now) c.args.class c.loop-at.at-index _ c.args.methods.now lists lt)) c.if-is_such.false

pub returns-then-is_such : goal.returns-then-is_such
returns-then-is_such c = λ read lists.
    let lt : c.loop-at.at-index < length c.args.methods.now = omega arith in
    (c.in_ok-is_such.ensures read (method_at (rows_in c.args.world.now) (table_in c.args.world.now) c.args.class c.loop-at.at-index _ c.args.methods.now lists lt)).0 c.if-is_such.true

pub returns : goal.returns
returns c = λ read lists. let le : length c.args.methods.now ≤ c.loop-at.at-index = omega arith in
    starts_none (rows_in c.args.world.now) (table_in c.args.world.now) c.args.class _ (c.loop-at.invariant read lists) (drop_all c.loop-at.at-index c.args.methods.now le)
