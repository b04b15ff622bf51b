use Rattle.std.proofs.lemmas.Result.{on_ok_weaker}
use Rattle.jr_expressions.proofs.Named.{behind_becomes}
use Rattle.jr_expressions.proofs.Operated.{one_counted}
use Rattle.jr_expressions.proofs.names.field_behind.Goals as goal

pub returns : goal.returns
returns c = on_ok_weaker c.push.result (λ pushed. behind_becomes c.args.row _ (λ read. c.first.ensures (one_counted read)) c.in_ok-on.ensures (rw c.decl-field.ensures at pushed)) c.push.ensures
