use Rattle.std.proofs.lemmas.Result.{on_ok_weaker}
use Rattle.jr_core.specs.declared.code.Code.TheVariants as v
use Rattle.jr_codes.specs.Reads.{facts}
use Rattle.jr_expressions.specs.Calls.{is_super_of}
use Rattle.jr_expressions.proofs.Passed.{arguments_become}
use Rattle.jr_expressions.proofs.calls.constructor_of.Goals as goal

pub returns : goal.returns
returns c = on_ok_weaker c.push.result (λ pushed. arguments_become (v.CtorCall (is_super_of c.args.which) ((facts c.args.source.now).decl c.args.row)) c.end.ensures c.in_ok-args.ensures (rw (c.decl-ctor.ensures, c.is_super_of-is_super.ensures) at pushed)) c.push.ensures
