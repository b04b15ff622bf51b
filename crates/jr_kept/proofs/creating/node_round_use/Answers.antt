use Rattle.std.proofs.lemmas.Result.{IfOk-weaker}
use Rattle.jr_kept.proofs.Begun.{first_told}
use Rattle.jr_kept.proofs.creating.node_round_use.Goals as goal

pub returns-clause-begins : goal.returns-clause-begins
returns-clause-begins c = λ m seen. IfOk-weaker c.node_round.result _ _ (λ found inside. first_told c.args.old.now.marks.rows.now m c.args.local c.args.row (c.refers_to.ensures m seen c.if-not-refers_to.false) found inside) (c.node_round.ensures.creates m seen)

pub returns-clause-large : goal.returns-clause-large
returns-clause-large c = λ m seen. c.node_round.ensures.large m seen
