use Rattle.std.proofs.Common.{◌∙◌, ap}
use Rattle.jr_extract.proofs.Found.{entering_lists, sorted_lists}
use Rattle.jr_extract.specs.Handing.{Enters, entering_by, given}
use Rattle.jr_extract.proofs.locals.entering.Goals as goal

pub returns : goal.returns
returns c = λ reaching. sorted_lists (Enters c.args.graph.now c.args.run) c.in_ok-all.all.items _ _
    (entering_lists c.args.graph.now c.args.run c.args.pairs.now reaching _ (c.in_ok-all.ensures ∙ ap (λ points. given (entering_by points c.args.run) c.args.pairs.now) c.deref.ensures.value)) c.deref_mut.ensures.value c.in_ok-out.ensures
