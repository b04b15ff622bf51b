use Rattle.std.proofs.lemmas.Result.{IfOk-weaker}
use Rattle.jr_kept.proofs.Begun.{started_told}
use Rattle.jr_kept.proofs.starting.node_started.Goals as goal

pub returns-clause-acts : goal.returns-clause-acts
returns-clause-acts c = λ m seen is. IfOk-weaker c.node_in.result _ _ (λ found acts. started_told c.args.old.now.marks.rows.now m c.args.body c.args.class is (c.is_started.ensures c.if-not-is_started.false) found acts) (c.node_in.ensures.acts m seen is.few)

pub returns-clause-large : goal.returns-clause-large
returns-clause-large c = λ m seen is. c.node_in.ensures.large m seen is.few
