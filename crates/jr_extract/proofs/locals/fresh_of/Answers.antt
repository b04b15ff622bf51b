use Rattle.std.proofs.Common.{◌∙◌, ap}
use Rattle.jr_defs.specs.Referents.{entries}
use Rattle.jr_extract.specs.Handing.{variables_of, without}
use Rattle.jr_extract.proofs.Found.{fresh_so}
use Rattle.jr_extract.proofs.locals.fresh_of.Goals as goal

pub returns : goal.returns
returns c = λ sized. let p = c.args.under.now.rows.now in let t = entries c.args.under.now.table.now in fresh_so p t c.args.run c.args.entering.now c.in_ok-named.named.items c.in_ok-others.others.items _ c.in_ok-named.ensures
    (c.in_ok-others.ensures ∙ ap (λ xs. without xs c.args.entering.now) c.deref.ensures.value) (c.in_ok-all.ensures sized ∙ ap (variables_of p t) c.deref-2.ensures.value)
