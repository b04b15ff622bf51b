use Rattle.std.proofs.Common.{sym, ◌∙◌}
use Rattle.std.proofs.lemmas.Result.{IfOk-weaker}
use Rattle.jr_members.proofs.Objects.{public_not, public_left}
use Rattle.jr_members.proofs.members.World.is_public_left.Goals as goal

pub returns-then-not-is_public_instance : goal.returns-then-not-is_public_instance
returns-then-not-is_public_instance c = λ t h method. public_not c.args.self.under.rows.now t c.args.above.now c.args.at (sym c.is_public_instance.ensures ∙ c.if-not-is_public_instance.true)

pub returns : goal.returns
returns c = λ t h method. IfOk-weaker c.is_left_above.result _ _ (λ b left. public_left c.args.self.under.rows.now t c.args.above.now c.args.at b (sym c.is_public_instance.ensures ∙ c.if-not-is_public_instance.false) left) (c.is_left_above.ensures t h method)
