use Rattle.jr_elab.proofs.Callable.{field_is}
use Rattle.jr_elab.proofs.bodies.field.Goals as goal

pub returns : goal.returns
returns c = λ reads inside. field_is c.args.source.now c.args.at _ _ _ _ _ _ _ _ _ c.in_ok-class.ensures c.decl-decl.ensures c.type_id-class.ensures c.is_static_at-is_static.ensures (c.in_ok-declared.ensures _ (reads.read _ inside)) c.in_ok-ty.ensures c.in_ok-constant.ensures c.new-params.ensures (c.in_ok-code.ensures reads inside)
