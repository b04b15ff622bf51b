use Rattle.std.proofs.Common.{◌∙◌, sym}
use Rattle.std.proofs.lemmas.Result.{IfOk-weaker}
use Rattle.jr_run.specs.Starting.{rows_in, table_in}
use Rattle.jr_run.proofs.Started.{start_if, start_not}
use Rattle.jr_run.proofs.start.is_start.Goals as goal

pub returns-then-not-is_main : goal.returns-then-not-is_main
returns-then-not-is_main c = λ read method. start_not (rows_in c.args.world.now) (table_in c.args.world.now) c.args.class c.args.at (sym (c.is_main.ensures read method) ∙ c.if-not-is_main.true)

pub returns : goal.returns
returns c = λ read method. IfOk-weaker c.is_member.result _ _
    (λ is d. start_if (rows_in c.args.world.now) (table_in c.args.world.now) c.args.class c.args.at is method (sym (c.is_main.ensures read method) ∙ c.if-not-is_main.false) d)
    (c.is_member.ensures (table_in c.args.world.now) read.whole.world_is)
