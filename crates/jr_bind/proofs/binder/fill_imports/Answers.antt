use Rattle.jr_bind.specs.declared.stages.Stage.TheVariants as stage
use Rattle.jr_bind.specs.Naming.{BindsTypes}
use Rattle.jr_bind.proofs.Keeping.{on_any}
use Rattle.jr_bind.proofs.Final.{types_filled}
use Rattle.jr_bind.proofs.binder.fill_imports.Goals as goal

pub returns-clause-rest : goal.returns-clause-rest
returns-clause-rest c = on_any c.imports_of.result _ c.in_ok-fill.ensures.rest

pub returns-clause-types : goal.returns-clause-types
returns-clause-types c = λ late binds. on_any c.imports_of.result (BindsTypes c.args.known.setting.rows.now c.fill.new.self.table.items)
    (types_filled c.args.known.setting.rows.now c.args.stages.now stage.Import c.args.filling.now c.fill.new.self (λ n of. (late.1 n stage.Import of).0) c.in_ok-fill.ensures binds)
