use Rattle.std.proofs.Common.{sym, ◌∙◌}
use Rattle.std.proofs.lemmas.Result.{IfOk-weaker}
use Rattle.jr_kept.proofs.Begun.{some_started}
use Rattle.jr_kept.proofs.creating.node_of.Goals as goal

pub returns-clause-acts : goal.returns-clause-acts
returns-clause-acts c = λ m seen is. IfOk-weaker c.node_in.result _ _ (λ found acts. some_started c.args.old.now.marks.rows.now m c.args.body c.in-Some.other is (sym c.initialized_by.ensures ∙ c.in-Some.is) found acts) (c.node_in.ensures.acts m seen is.few)

pub returns-clause-large : goal.returns-clause-large
returns-clause-large c = λ m seen is. c.node_in.ensures.large m seen is.few
