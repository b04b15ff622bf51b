use Rattle.std.proofs.Common.{sym, ◌∙◌}
use Rattle.jr_dispatch.proofs.Having.{has_none, has_unheld, has_held}
use Rattle.jr_dispatch.proofs.dispatch.Methods.has_method.Goals as goal

pub returns-then-not-is_method : goal.returns-then-not-is_method
returns-then-not-is_method c = λ t supers bare. has_none c.args.self.under.rows.now t c.args.over c.args.at (sym c.is_method.ensures ∙ c.if-not-is_method.true)

pub returns-in-Some : goal.returns-in-Some
returns-in-Some c = λ t supers bare. has_held c.args.self.under.rows.now t bare c.args.over c.args.at _ _ (sym c.is_method.ensures ∙ c.if-not-is_method.false) (sym c.in-Some.ensures) (c.is_at_or_above.ensures t supers)

pub returns-in-None : goal.returns-in-None
returns-in-None c = λ t supers bare. has_unheld c.args.self.under.rows.now t c.args.over c.args.at (sym c.in-None.ensures)
