use Rattle.std.proofs.Common.{sym, ◌∙◌, ap, subst}
use Rattle.std.proofs.lemmas.Result.{IfOk-weaker}
use Rattle.jr_dispatch.specs.Dispatching.{AreFoundIn}
use Rattle.jr_dispatch.specs.Methods.{AreMethods, IsWholeWorld}
use Rattle.jr_codes.specs.Reads.{table_of}
use Rattle.jr_elab.proofs.classes.edges_of.Goals as goal

pub returns : goal.returns
returns c = λ whole.
    IfOk-weaker c.found_in.result _ _
    (λ edges are. subst (λ u. AreFoundIn u.rows.now (table_of c.args.source.now) c.args.at edges.items) (c.of.ensures.under ∙ ap (λ w. w.under) c.world.ensures) are)
    (c.found_in.ensures (table_of c.args.source.now) (subst (λ u. AreMethods u.rows.now (table_of c.args.source.now) c.of.result) (sym c.of.ensures.under)
    (c.of.ensures.methods (table_of c.args.source.now) (subst (λ w. IsWholeWorld (table_of c.args.source.now) w) (sym c.world.ensures) whole))))
