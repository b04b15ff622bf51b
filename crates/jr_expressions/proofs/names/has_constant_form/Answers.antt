use Rattle.std.proofs.Common.{sym, ◌∙◌}
use Rattle.jr_codes.specs.Reads.{facts}
use Rattle.jr_expressions.proofs.Named.{simple_form, form_behind}
use Rattle.jr_expressions.proofs.Operated.{one_counted}
use Rattle.jr_expressions.proofs.names.has_constant_form.Goals as goal

pub returns : goal.returns
returns c = λ read. simple_form (facts c.args.source.now) c.args.at (sym (c.has_child.ensures (one_counted read)) ∙ c.if-has_child.false)

pub returns-then-has_child : goal.returns-then-has_child
returns-then-has_child c = λ read. c.is_some.ensures ∙ form_behind (facts c.args.source.now) c.args.at c.type_before.result (sym (c.has_child.ensures (one_counted read)) ∙ c.if-has_child.true) (c.type_before.ensures read.sized.few)
