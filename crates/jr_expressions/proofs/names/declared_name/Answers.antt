use Rattle.std.proofs.Common.{sym, ◌∙◌, ap}
use Rattle.std.proofs.lemmas.Result.{on_ok_weaker}
use Rattle.jr_constants.specs.Values.{value_in_if}
use Rattle.jr_codes.specs.Reads.{texts_of, facts}
use Rattle.jr_expressions.specs.Names.{declared_made}
use Rattle.jr_expressions.proofs.Named.{read_along}
use Rattle.jr_expressions.proofs.names.declared_name.Goals as goal

pub returns-in-Some : goal.returns-in-Some
returns-in-Some c = on_ok_weaker c.constant.result (read_along (λ o parts. declared_made o (facts c.args.source.now) c.args.at c.args.row c.args.level parts) (λ read. sym (c.constant_name.ensures read) ∙ ap (value_in_if (texts_of c.args.source.now)) c.in-Some.is)) c.constant.ensures

pub returns-in-None : goal.returns-in-None
returns-in-None c = on_ok_weaker c.variable.result (read_along (λ o parts. declared_made o (facts c.args.source.now) c.args.at c.args.row c.args.level parts) (λ read. sym (c.constant_name.ensures read) ∙ ap (value_in_if (texts_of c.args.source.now)) c.in-None.is)) c.variable.ensures
