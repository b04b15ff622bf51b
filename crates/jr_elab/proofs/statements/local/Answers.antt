use Rattle.std.proofs.lemmas.Result.{on_ok_weaker}
use Rattle.jr_elab.proofs.Stated.{local_becomes}
use Rattle.jr_elab.proofs.statements.local.Goals as goal

pub returns : goal.returns
returns c = on_ok_weaker c.push.result (λ pushed. local_becomes _ c.child.ensures c.in_ok-init.ensures (rw c.decl-local.ensures at pushed)) c.push.ensures
