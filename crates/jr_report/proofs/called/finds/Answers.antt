use Rattle.std.proofs.Common.{sym, subst}
use Rattle.jr_dispatch.specs.Dispatching.{IsFoundAs}
use Rattle.jr_dispatch.specs.Methods.{AreMethods}
use Rattle.jr_report.specs.Listed.{rows_in, table_in}
use Rattle.jr_report.proofs.Finding.{finds_tells}
use Rattle.jr_report.proofs.called.finds.Goals as goal

pub returns : goal.returns
returns c = λ whole.
    let t = table_in c.args.world.now in
    let methods = subst (λ u. AreMethods u.rows.now t c.of.result) (sym c.of.ensures.under) (c.of.ensures.methods t whole) in
    let found = subst (λ u. IsFoundAs u.rows.now t c.args.class c.args.other c.in_ok-found.found) c.of.ensures.under (c.in_ok-found.ensures t methods) in
    finds_tells (rows_in c.args.world.now) t c.args.class c.args.other c.args.method c.in_ok-found.found _ whole.world_is.seen.above.well found c.is_this.ensures
