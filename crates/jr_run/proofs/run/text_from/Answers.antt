use Rattle.std.proofs.Common.{refl}
use Rattle.std.proofs.lemmas.Result.{IfOk-weaker}
use Rattle.jr_run.proofs.Ran.{source_placed, source_read}
use Rattle.jr_run.proofs.run.text_from.Goals as goal

pub returns : goal.returns
returns c = λ world. IfOk-weaker c.text_of_core.result _ _
    (λ text is. record { source = _; of_view = refl; numbered = c.in_ok-ids.ensures; core = c.in_ok-core.core; is_core = c.in_ok-core.ensures (source_read _ world); runs = is })
    (c.text_of_core.ensures (source_placed _ (source_read _ world)))
