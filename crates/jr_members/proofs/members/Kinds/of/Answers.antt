use Rattle.std.proofs.Common.{sym, subst, IfOk}
use Rattle.std.proofs.lemmas.Result.{err_from_is_err_and}
use Rattle.jr_members.specs.Worlds.{AreKinds}
use Rattle.jr_members.proofs.members.Kinds.of.Goals as goal

pub returns-in_err-methods : goal.returns-in_err-methods
returns-in_err-methods c = λ t seen signed. let p = err_from_is_err_and c.from_residual-in_err-methods.result c.from_residual-in_err-methods.ensures.1 in
    subst (λ r. IfOk r (λ kinds. AreKinds c.args.under.rows.now t c.args.supers.now kinds)) (sym p.1) tt

pub returns : goal.returns
returns c = λ t seen signed. let fields = c.in_ok-fields.ensures t (record { seen = seen; signed = tt }) c.in_ok-met.ensures.counted in let types = c.in_ok-types.ensures t (record { seen = seen; signed = tt }) fields.counted in
    let methods = c.in_ok-methods.ensures t (record { seen = seen; signed = signed }) types.counted in record { fields = fields.named_is; types = types.named_is; methods = methods.named_is }
