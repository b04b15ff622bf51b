use Rattle.std.proofs.Common.{sym, ◌∙◌}
use Rattle.jr_dispatch.proofs.Overriding.{directly_not, directly_by}
use Rattle.jr_dispatch.proofs.dispatch.Methods.overrides_directly.Goals as goal

pub returns-then-not-is_reachable : goal.returns-then-not-is_reachable
returns-then-not-is_reachable c = λ t h m k. directly_not c.args.self.under.rows.now t c.args.method c.args.other (sym (c.is_reachable.ensures t h) ∙ c.if-not-is_reachable.true)

pub returns : goal.returns
returns c = λ t h m k. c.is_above_method.ensures t h.supers h.signatures m k ∙ directly_by c.args.self.under.rows.now t c.args.method c.args.other (sym (c.is_reachable.ensures t h) ∙ c.if-not-is_reachable.false)
