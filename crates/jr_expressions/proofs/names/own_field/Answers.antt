use Rattle.std.proofs.lemmas.Result.{on_ok_weaker}
use Rattle.jr_expressions.proofs.Named.{own_becomes}
use Rattle.jr_expressions.proofs.names.own_field.Goals as goal

pub returns : goal.returns
returns c = on_ok_weaker c.push.result (λ pushed. own_becomes c.args.row c.args.level c.in_ok-this_at.ensures (rw c.decl-field.ensures at pushed)) c.push.ensures
