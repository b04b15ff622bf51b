use Rattle.std.proofs.Common.{sym, subst}
use Rattle.std.proofs.lemmas.Result.{IfOk-weaker}
use Rattle.jr_defs.specs.Overriding.{Has}
use Rattle.jr_supers.specs.Supers.{ListsOnce}
use Rattle.jr_dispatch.specs.Methods.{AreMethods}
use Rattle.jr_run.specs.Starting.{table_in}
use Rattle.jr_run.proofs.start.methods_of.Goals as goal

pub returns : goal.returns
returns c = λ read. IfOk-weaker c.methods_of.result _ _
    (λ all lists. subst (λ u. ListsOnce all.items (Has u.rows.now (table_in c.args.world.now) c.args.class)) c.of.ensures.under lists)
    (c.methods_of.ensures (table_in c.args.world.now) (subst (λ u. AreMethods u.rows.now (table_in c.args.world.now) c.of.result) (sym c.of.ensures.under) (c.of.ensures.methods (table_in c.args.world.now) read.whole)))
