use Rattle.std.proofs.Common.{sym, ◌∙◌, ap}
use Rattle.jr_plain.specs.Declarations.{is_type}
use Rattle.jr_spell.proofs.Leading.{type_stands, no_type_stands}
use Rattle.jr_spell.proofs.speller.Speller.in_type.Goals as goal

pub returns-then-is_type : goal.returns-then-is_type
returns-then-is_type c = type_stands c.args.self.now c.args.row (sym (c.is_type.ensures ∙ ap (λ p. is_type p c.args.row) c.rows.ensures) ∙ c.if-is_type.true)

pub returns-else-is_type : goal.returns-else-is_type
returns-else-is_type c = no_type_stands c.args.self.now c.args.row (sym (c.is_type.ensures ∙ ap (λ p. is_type p c.args.row) c.rows.ensures) ∙ c.if-is_type.false)
