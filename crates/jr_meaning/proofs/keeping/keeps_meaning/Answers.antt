use Rattle.std.proofs.Common.{◌∙◌}
use Rattle.jr_meaning.proofs.keeping.keeps_meaning.Goals as goal

pub returns : goal.returns
returns c = λ m w change old new copies here there changed.
    c.keeps_among.ensures (record { switched = c.deref.ensures.value ∙ c.in_ok-targets.ensures; looped = c.deref-2.ensures.value ∙ c.in_ok-loops.ensures }) m w change old new copies here there changed
