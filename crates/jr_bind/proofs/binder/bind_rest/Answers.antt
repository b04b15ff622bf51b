use Rattle.std.proofs.Common.{ap}
use Rattle.jr_bind.proofs.Keeping.{ready_then}
use Rattle.jr_bind.proofs.Clearing.{headers_bind}
use Rattle.jr_bind.proofs.Final.{binds_same}
use Rattle.jr_bind.proofs.binder.bind_rest.Goals as goal

pub returns-clause-tables : goal.returns-clause-tables
returns-clause-tables c = λ late. c.bind_names.ensures.tables late (ready_then c.args.setting.rows.now c.in_ok-filling.filling c.fill_types.new.filling c.in_ok-filling.ensures.ready c.in_ok-fill_types.ensures.rest)

pub returns-clause-bound : goal.returns-clause-bound
returns-clause-bound c = λ late. let p = c.args.setting.rows.now in c.bind_names.ensures.bound late (ready_then p c.in_ok-filling.filling c.fill_types.new.filling c.in_ok-filling.ensures.ready c.in_ok-fill_types.ensures.rest)
    (c.in_ok-fill_types.ensures.types late (binds_same p c.in_ok-filling.filling.table.items c.in_ok-headers.headers.items (ap (λ v. v.items) c.in_ok-filling.ensures.same)
    (headers_bind p c.args.stages.now c.deref.result.now c.in_ok-headers.headers.items _ late c.in_ok-headers.ensures)))
