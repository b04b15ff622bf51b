use Rattle.std.proofs.Common.{sym, ◌∙◌, ap, Some}
use Rattle.std.specs.Prelude.{option_map}
use Rattle.jr_codes.specs.Reads.{facts}
use Rattle.jr_elab.specs.Cores.{outer_of, type_row}
use Rattle.jr_elab.proofs.classes.outer_type.Goals as goal

pub returns-in-Some : goal.returns-in-Some
returns-in-Some c = ap Some c.type_at.ensures ∙ ap (option_map (type_row (facts c.args.source.now))) (sym c.in-Some.is ∙ c.outer_of.ensures ∙ ap (λ p. outer_of p c.args.at) c.rows.ensures)

pub returns-in-None : goal.returns-in-None
returns-in-None c = ap (option_map (type_row (facts c.args.source.now))) (sym c.in-None.is ∙ c.outer_of.ensures ∙ ap (λ p. outer_of p c.args.at) c.rows.ensures)
