use Rattle.std.proofs.Common.{sym, ◌∙◌}
use Rattle.jr_plain.proofs.Enclosed.{declaring_finds}
use Rattle.jr_bind.proofs.edges.outer_of.Goals as goal

pub returns-clause-none : goal.returns-clause-none
returns-clause-none c = λ none e d. c.unless_before.ensures.none none e (c.declaring_type-over.ensures ∙ (declaring_finds c.args.ranked.now.sight.world.under.rows.now c.args.at e).1 d)

pub returns-clause-some : goal.returns-clause-some
returns-clause-some c = λ s e. let w = c.unless_before.ensures.some s e in ((declaring_finds c.args.ranked.now.sight.world.under.rows.now c.args.at s).0 (sym c.declaring_type-over.ensures ∙ w.0), w.1)
