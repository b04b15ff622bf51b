use Rattle.std.proofs.Common.{subst}
use Rattle.std.proofs.lemmas.Result.{IfOk-weaker}
use Rattle.jr_codes.specs.Reads.{facts}
use Rattle.jr_elab.specs.Cores.{IsValueBelow}
use Rattle.jr_elab.proofs.bodies.initial_value.Goals as goal

pub returns : goal.returns
returns c = IfOk-weaker c.value_below-value.result _ _
    (λ found made all inside. subst (λ o. IsValueBelow (facts c.args.source.now) o c.args.at found) c.new-making.ensures.typed (made all inside c.new-making.ensures.empty)) c.value_below-value.ensures
