use Rattle.std.proofs.Common.{◌∙◌, ap, ◌++◌}
use Rattle.jr_supers.specs.Tabled.{is_callable}
use Rattle.jr_dispatch.proofs.families.add_like.Goals as goal

pub returns : goal.returns
returns c = λ t h m. c.in_ok-extend_from_slice.ensures.items
    ∙ ap (λ xs. c.args.all.now.items ++ xs) (c.deref.ensures.value ∙ c.in_ok-like.ensures c.args.methods.under.rows.now t h.callables h.signatures (ap is_callable m))
