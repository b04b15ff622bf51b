use Rattle.std.proofs.Common.{◌∙◌, ap, ◌++◌, ◌∷◌, drop, ◌+◌, List, ℕ}
use Rattle.jr_index.proofs.Adding.{rest_is}
use Rattle.jr_front.proofs.Placing.{behind_more}
use Rattle.jr_front.proofs.placed.behind_folder.Goals as goal

pub loop-part-preserved : goal.loop-part-preserved
loop-part-preserved c = behind_more c.args.path.now c.loop-part.rest.now c.in_ok-rest.rest.now c.args.parts.now (drop c.loop-part.part-index c.args.parts.now) (drop (c.loop-part.part-index + 1) c.args.parts.now) c.part-item.result
    (rest_is c.args.parts.now c.loop-part.part-index c.part-item.result c.loop-part-test.true c.part-item.is)
    (c.in_ok-rest.ensures ∙ ap (λ (part : List ℕ). part ++ (47 ∷ c.in_ok-rest.rest.now)) c.bytes.ensures) c.loop-part.invariant
