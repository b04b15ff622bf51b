use Rattle.std.proofs.Common.{◌∙◌}
use Rattle.jr_bind.proofs.LeftOut.{taking_lower, taking_counts}
use Rattle.jr_bind.proofs.rounds.take_edge.Goals as goal

pub returns : goal.returns
returns c = λ edges bound left rest h. taking_counts edges bound _ left _ rest _ _ c.deref.ensures.value
    (c.in_ok-put_if_free.ensures edges bound left rest (taking_lower edges bound _ left _ rest _ _ c.args.at (c.deref.ensures.value ∙ c.lower.ensures.counts) h))
