use Rattle.std.proofs.Common.{◌∙◌, ap₂, ◌&&◌}
use Rattle.jr_lookup.proofs.choice.is_applicable.Goals as goal

pub returns : goal.returns
returns c = λ t h m. c.both.ensures ∙ ap₂ (λ a b. a && b) (c.is_accessible-accessible.ensures t h.seen) (c.takes-fits.ensures t h m)
