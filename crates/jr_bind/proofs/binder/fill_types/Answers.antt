use Rattle.std.proofs.lemmas.Result.{on_ok_weaker}
use Rattle.jr_bind.specs.declared.stages.Stage.TheVariants as stage
use Rattle.jr_bind.proofs.Keeping.{rest_then}
use Rattle.jr_bind.proofs.Final.{types_filled}
use Rattle.jr_bind.proofs.binder.fill_types.Goals as goal

pub returns-clause-rest : goal.returns-clause-rest
returns-clause-rest c = on_ok_weaker c.fill.result (λ h. rest_then c.args.filling.now c.fill_imports.new.filling c.fill.new.self c.in_ok-imports.ensures.rest h.rest) c.fill.ensures

pub returns-clause-types : goal.returns-clause-types
returns-clause-types c = λ late binds. on_ok_weaker c.fill.result (λ h. types_filled c.args.setting.rows.now c.args.stages.now stage.Type c.fill_imports.new.filling c.fill.new.self (λ n of. (late.1 n stage.Type of).0) h
    (c.in_ok-imports.ensures.types late binds)) c.fill.ensures
