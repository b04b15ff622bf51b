use Rattle.std.proofs.Common.{sym, ◌∙◌}
use Rattle.jr_dispatch.proofs.Having.{above_then}
use Rattle.jr_dispatch.proofs.Overriding.{overrides_not, overrides_at_once, overrides_by_steps}
use Rattle.jr_dispatch.proofs.dispatch.Methods.overrides.Goals as goal

pub returns-then-not-is_above_method : goal.returns-then-not-is_above_method
returns-then-not-is_above_method c = λ t h m k. overrides_not c.args.self.under.rows.now t h.supers.well.headed (λ a b d f g. above_then c.args.self.under.rows.now t h.bare f g) c.args.method c.args.other
    (sym (c.is_above_method.ensures t h.supers h.signatures m k) ∙ c.if-not-is_above_method.true)

pub returns-then-is_reachable : goal.returns-then-is_reachable
returns-then-is_reachable c = λ t h m k. overrides_at_once c.args.self.under.rows.now t h.supers.well.headed (λ a b d f g. above_then c.args.self.under.rows.now t h.bare f g) c.args.method c.args.other
    (sym (c.is_above_method.ensures t h.supers h.signatures m k) ∙ c.if-not-is_above_method.false) (sym (c.is_reachable.ensures t h) ∙ c.if-is_reachable.true)

pub returns : goal.returns
returns c = λ t h m k. overrides_by_steps c.args.self.under.rows.now t h.supers.well.headed (λ a b d f g. above_then c.args.self.under.rows.now t h.bare f g) c.args.method c.args.other _
    (sym (c.is_above_method.ensures t h.supers h.signatures m k) ∙ c.if-not-is_above_method.false) (c.in_ok-is.ensures t h m)
