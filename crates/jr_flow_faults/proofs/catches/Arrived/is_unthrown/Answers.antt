use Rattle.std.proofs.Common.{◌≡◌, sym, ◌∙◌, subst, false, Some, Decides}
use Rattle.std.proofs.lemmas.Result.{IfOk-weaker}
use Rattle.jr_defs.specs.Referents.{entries}
use Rattle.jr_flow_faults.specs.Arriving.{IsUnthrownClass, IsUnthrownCatch}
use Rattle.jr_flow_faults.specs.ExceptionTests.{catch_class}
use Rattle.jr_flow_faults.proofs.Arriving.{unthrown_some, unthrown_none}
use Rattle.jr_flow_faults.proofs.catches.Arrived.is_unthrown.Goals as goal

pub returns-in-None : goal.returns-in-None
returns-in-None c = λ t is sized above roots are. subst (λ x. Decides false (IsUnthrownCatch c.args.under.now.rows.now x c.args.self.now.thrown c.args.at)) is
    (unthrown_none c.args.under.now.rows.now (entries c.args.under.now.table.now) c.args.self.now.thrown c.args.at (sym (c.catch_class.ensures sized) ∙ c.in-None.is))

pub returns-in-Some : goal.returns-in-Some
returns-in-Some c = λ t is sized above roots are. let p = c.args.under.now.rows.now in let thrown = c.args.self.now.thrown in
    let found : catch_class p t c.args.at ≡ Some c.in-Some.class = subst (λ x. catch_class p x c.args.at ≡ Some c.in-Some.class) is (sym (c.catch_class.ensures sized) ∙ c.in-Some.is) in
    IfOk-weaker c.is_unthrown_class.result _ _
    (λ b h. unthrown_some p t thrown c.args.at c.in-Some.class b found (subst (λ o. Decides b (IsUnthrownClass p t thrown o c.in-Some.class)) c.parent_at.ensures h))
    (c.is_unthrown_class.ensures t above roots are)
