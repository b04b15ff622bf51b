use Rattle.std.proofs.Common.{subst, refl, IfErr, OnOk}
use Rattle.std.proofs.lemmas.Bool.{false≢true}
use Rattle.jr_flow.specs.Views.{rows_in}
use Rattle.jr_flow.specs.Coded.{IsTooLarge}
use Rattle.jr_flow.specs.Numbered.{OnlyWhere}
use Rattle.jr_flow.proofs.Bounding.{small_tells}
use Rattle.jr_flow.proofs.limit.is_too_large.Goals as goal

pub returns-in-Err-TooManyPoints : goal.returns-in-Err-TooManyPoints
returns-in-Err-TooManyPoints c = λ m view tree lt has. let Large = IsTooLarge (rows_in c.args.view.now) m c.args.body in
    ((λ e. subst (OnlyWhere Large) c.in-Err-TooManyPoints.field-0-is (subst (λ r. IfErr r (OnlyWhere Large)) c.in-Err-TooManyPoints.is (c.count_points.ensures.large m view tree lt))), λ large. refl)

pub returns-then-is_small : goal.returns-then-is_small
returns-then-is_small c = λ m view tree lt has. ((λ e. absurd (false≢true e)), λ large. absurd (small_tells (rows_in c.args.view.now) m c.args.body tree lt has (c.is_small.ensures tree view.few lt c.if-is_small.true) large))

pub returns-in-Ok : goal.returns-in-Ok
returns-in-Ok c = λ m view tree lt has. ((λ e. absurd (false≢true e)), λ large. absurd (subst (λ r. OnOk r (IsTooLarge (rows_in c.args.view.now) m c.args.body → ⊥)) c.in-Ok.is (c.count_points.ensures.small m view tree lt) large))
