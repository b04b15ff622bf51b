use Rattle.std.proofs.Common.{arith, subst, sym}
use Rattle.std.proofs.lemmas.List.{drop_more, drop_all}
use Rattle.jr_dispatch.proofs.Edging.{AreEdgesTo, edges_start, edges_next, edges_end}
use Rattle.jr_dispatch.proofs.dispatch.Methods.all_found.Goals as goal

pub loop-method-init : goal.loop-method-init
loop-method-init c = λ t h listed. subst (λ xs. AreEdgesTo c.args.self.under.rows.now t c.args.class c.args.methods.now c.args.methods.now xs) (sym c.new-all.ensures.items)
    (edges_start c.args.self.under.rows.now t c.args.class c.args.methods.now listed)

pub loop-method-preserved : goal.loop-method-preserved
loop-method-preserved c = λ t h listed. edges_next c.args.self.under.rows.now t c.args.class c.args.methods.now _ _ _ _ _ (drop_more c.args.methods.now c.loop-method.method-index _ (omega arith)) (c.loop-method.invariant t h listed)
    (c.in_ok-add_found.ensures t h)

pub returns : goal.returns
returns c = λ t h listed. edges_end c.args.self.under.rows.now t c.args.class c.args.methods.now _ _ (drop_all c.loop-method.method-index c.args.methods.now (omega arith)) listed (c.loop-method.invariant t h listed)
