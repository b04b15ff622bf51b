use Rattle.std.proofs.lemmas.Result.{on_ok_weaker}
use Rattle.jr_elab.proofs.Stated.{nest_becomes}
use Rattle.jr_elab.proofs.statements.nest.Goals as goal

pub returns : goal.returns
returns c = on_ok_weaker c.push.result (nest_becomes c.end.ensures c.in_ok-stmts.ensures) c.push.ensures
