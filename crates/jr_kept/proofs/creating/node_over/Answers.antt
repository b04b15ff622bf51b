use Rattle.std.proofs.Common.{◌≡◌, subst, IfSome}
use Rattle.std.proofs.lemmas.Result.{IfOk-weaker}
use Rattle.jr_tree.specs.declared.label.Label.TheVariants as is
use Rattle.jr_tree.specs.Rows.{label}
use Rattle.jr_kept.proofs.Begun.{creation_told}
use Rattle.jr_kept.proofs.creating.node_over.Goals as goal

pub returns-clause-creates : goal.returns-clause-creates
returns-clause-creates c = λ m seen. let p = c.args.old.now.marks.rows.now in
    IfOk-weaker c.node_begun.result _ _ (λ found acts. creation_told p m c.args.over (subst (λ o. IfSome o (λ class. label p c.args.over ≡ is.New)) c.in-Some.is c.created_at.ensures) found acts) (c.node_begun.ensures.acts m seen)

pub returns-clause-large : goal.returns-clause-large
returns-clause-large c = λ m seen. c.node_begun.ensures.large m seen
