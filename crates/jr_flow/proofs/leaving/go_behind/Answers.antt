use Rattle.std.proofs.Common.{◌∙◌, ap, ◌++◌, ◌∷◌, []}
use Rattle.std.proofs.lemmas.Result.{on_ok_weaker}
use Rattle.jr_flow_defs.specs.States.{plainly, ending}
use Rattle.jr_flow.specs.Places.{ways_seen}
use Rattle.jr_flow.proofs.leaving.go_behind.Goals as goal

pub returns : goal.returns
returns c = λ lists all k e. on_ok_weaker c.go.result
    (λ ways. ways ∙ ap (λ a. ways_seen lists c.args.out.now.items ++ plainly a ∷ []) (c.ending.ensures lists ∙ ap (ending c.args.body) (c.part_left-to.ensures lists all k e)))
    (c.go.ensures lists)
