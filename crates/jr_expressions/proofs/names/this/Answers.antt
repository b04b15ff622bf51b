use Rattle.std.proofs.Common.{sym, ◌∙◌}
use Rattle.std.proofs.lemmas.Result.{on_ok_weaker}
use Rattle.jr_expressions.proofs.Called.{this_becomes}
use Rattle.jr_expressions.proofs.names.this.Goals as goal

pub returns-in-Some : goal.returns-in-Some
returns-in-Some c = on_ok_weaker c.push_this.result (this_becomes c.args.is_qualified (λ read. sym c.in-Some.is ∙ c.class_of_this.ensures read)) c.push_this.ensures
