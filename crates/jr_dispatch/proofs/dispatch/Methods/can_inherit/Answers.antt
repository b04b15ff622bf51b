use Rattle.std.proofs.Common.{sym, ◌∙◌}
use Rattle.jr_dispatch.proofs.Inheriting.{inherits_not, inherits_by}
use Rattle.jr_dispatch.proofs.dispatch.Methods.can_inherit.Goals as goal

pub returns-then-is_private : goal.returns-then-is_private
returns-then-is_private c = λ t h. inherits_not c.args.self.under.rows.now c.args.at c.args.method (sym c.is_private.ensures ∙ c.if-is_private.true)

pub returns : goal.returns
returns c = λ t h. inherits_by c.args.self.under.rows.now c.args.at c.args.method _ (sym c.is_private.ensures ∙ c.if-is_private.false) (c.is_reachable.ensures t h)
