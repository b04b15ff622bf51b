use Rattle.std.proofs.Common.{sym, ◌∙◌, ap}
use Rattle.jr_lookup.specs.Imports.{brought_type}
use Rattle.jr_lookup.proofs.imports.brought_type.Goals as goal

pub returns-in-Some : goal.returns-in-Some
returns-in-Some c = λ p places local below. c.foreign_entry.ensures p places local (below c.in-Some.row c.in-Some.is) ∙ ap (brought_type p c.args.unit) (sym c.in-Some.is)

pub returns-in-None : goal.returns-in-None
returns-in-None c = λ p places local below. ap (brought_type p c.args.unit) (sym c.in-None.is)
