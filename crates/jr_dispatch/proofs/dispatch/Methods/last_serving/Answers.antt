use Rattle.std.proofs.Common.{subst, arith, sym}
use Rattle.std.proofs.lemmas.List.{drop_all}
use Rattle.jr_defs.specs.Overriding.{Serves}
use Rattle.jr_dispatch.specs.Dispatching.{IsLastOf}
use Rattle.jr_dispatch.proofs.Searching.{at_in}
use Rattle.jr_dispatch.proofs.Serving.{last_step}
use Rattle.jr_dispatch.proofs.dispatch.Methods.last_serving.Goals as goal

pub loop-method-preserved : goal.loop-method-preserved
loop-method-preserved c = λ t h class m rows found last. c.loop-method.invariant t h class m rows found
    (last_step (Serves c.args.self.under.rows.now t c.args.class c.args.called) c.args.all.now c.loop-method.method-index _ c.loop-method.last _ _ found (omega arith)
    (c.in_ok-is_serving.ensures t h class (rows _ (at_in c.args.all.now c.loop-method.method-index _ (omega arith))) m) c.latest-last.ensures last)

pub returns : goal.returns
returns c = λ t h class m rows. c.loop-method.invariant t h class m rows c.loop-method.last
    (subst (λ xs. IsLastOf (Serves c.args.self.under.rows.now t c.args.class c.args.called) c.loop-method.last xs c.loop-method.last) (sym (drop_all c.loop-method.method-index c.args.all.now (omega arith))) IsLastOf.end)
