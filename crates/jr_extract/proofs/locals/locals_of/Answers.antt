use Rattle.std.proofs.Common.{◌∙◌, ap₂, subst, sym, None}
use Rattle.jr_defs.specs.Referents.{entries}
use Rattle.jr_flow.specs.Reached.{AreReaching, steps_of}
use Rattle.jr_extract.specs.Handing.{AreLocalsBy, leaving_by, lowest}
use Rattle.jr_extract.proofs.Found.{handed_so}
use Rattle.jr_extract.proofs.locals.locals_of.Goals as goal

pub returns : goal.returns
returns c = λ sized. let p = c.args.under.now.rows.now in let t = entries c.args.under.now.table.now in let reaching = c.in_ok-pairs.ensures.pairs in
    handed_so c.args.graph.now c.args.run c.in_ok-pairs.pairs.items reaching p t c.in_ok-entering.entering.items c.first_leaving-leaving.result c.in_ok-locals.locals
    (c.in_ok-entering.ensures (subst (AreReaching c.args.graph.now.points.items (steps_of c.args.graph.now)) (sym c.deref.ensures.value) reaching))
    (c.first_leaving-leaving.ensures ∙ ap₂ (λ points pairs. lowest (leaving_by points c.args.run) None pairs) c.deref-2.ensures.value c.deref-3.ensures.value)
    (subst (λ xs. AreLocalsBy p t c.args.run xs c.first_leaving-leaving.result c.in_ok-locals.locals) c.deref-4.ensures.value (c.in_ok-locals.ensures sized))
