use Rattle.std.proofs.Common.{ap}
use Rattle.jr_elab.proofs.Callable.{callable_is}
use Rattle.jr_elab.proofs.bodies.callable.Goals as goal

pub returns : goal.returns
returns c = λ reads inside. callable_is c.args.source.now c.args.result_type c.args.at _ c.args.is_static _ _ _ _ _ _ c.in_ok-class.ensures c.decl-decl.ensures c.type_id-class.ensures (ap (λ m. m.is_native) (rw c.rows.ensures at c.written_at-written.ensures)) c.in_ok-ty.ensures c.in_ok-params.ensures (c.in_ok-code.ensures reads inside)
