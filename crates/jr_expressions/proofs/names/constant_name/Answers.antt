use Rattle.std.proofs.Common.{sym, ◌∙◌, ap, cond, None}
use Rattle.jr_constants.specs.Values.{value_in_if}
use Rattle.jr_codes.specs.Reads.{texts_of, facts}
use Rattle.jr_expressions.proofs.names.constant_name.Goals as goal

pub returns-then-has_constant_form : goal.returns-then-has_constant_form
returns-then-has_constant_form c = λ read. ap (value_in_if (texts_of c.args.source.now)) c.variable.ensures ∙ sym (ap (λ b. cond b ((facts c.args.source.now).variable c.args.row) None) (sym (c.has_constant_form.ensures read) ∙ c.if-has_constant_form.true))

pub returns-else-has_constant_form : goal.returns-else-has_constant_form
returns-else-has_constant_form c = λ read. sym (ap (λ b. cond b ((facts c.args.source.now).variable c.args.row) None) (sym (c.has_constant_form.ensures read) ∙ c.if-has_constant_form.false))
