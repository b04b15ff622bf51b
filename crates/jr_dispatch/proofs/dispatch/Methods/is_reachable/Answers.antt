use Rattle.std.proofs.Common.{sym, ◌∙◌}
use Rattle.jr_dispatch.proofs.Overriding.{reached_public, reached_protected, reached_package}
use Rattle.jr_dispatch.proofs.dispatch.Methods.is_reachable.Goals as goal

pub returns-then-is_public : goal.returns-then-is_public
returns-then-is_public c = λ t h. reached_public c.args.self.under.rows.now c.args.method c.args.other (sym c.is_public.ensures ∙ c.if-is_public.true)

pub returns-then-is_protected : goal.returns-then-is_protected
returns-then-is_protected c = λ t h. reached_protected c.args.self.under.rows.now c.args.method c.args.other (sym c.is_public.ensures ∙ c.if-is_public.false) (sym c.is_protected.ensures ∙ c.if-is_protected.true)

pub returns : goal.returns
returns c = λ t h. c.is_one_package.ensures c.args.self.under.rows.now h.places h.local h.packages
    ∙ reached_package c.args.self.under.rows.now c.args.method c.args.other (sym c.is_public.ensures ∙ c.if-is_public.false) (sym c.is_protected.ensures ∙ c.if-is_protected.false)
