use Rattle.std.proofs.Common.{sym, ◌∙◌, ap}
use Rattle.jr_supers.specs.Tabled.{is_callable}
use Rattle.jr_dispatch.proofs.Overridden.{above_refused, above_allowed}
use Rattle.jr_dispatch.proofs.dispatch.Methods.is_above_method.Goals as goal

pub returns-then-not-may_override : goal.returns-then-not-may_override
returns-then-not-may_override c = λ t supers signed method other. let p = c.args.self.under.rows.now in
    above_refused p t c.args.method c.args.other _ (c.are_same-are_same.ensures p t signed (ap is_callable method) (ap is_callable other)) method other
    (sym c.may_override.ensures ∙ c.if-not-may_override.true)

pub returns : goal.returns
returns c = λ t supers signed method other. let p = c.args.self.under.rows.now in
    c.is_declared_below.ensures t supers
    ∙ above_allowed p t c.args.method c.args.other _ (c.are_same-are_same.ensures p t signed (ap is_callable method) (ap is_callable other)) method other
    (sym c.may_override.ensures ∙ c.if-not-may_override.false)
