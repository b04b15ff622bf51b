use Rattle.std.proofs.Common.{◌++◌, sym, ◌∙◌, ap, ap₂, subst}
use Rattle.jr_flow.specs.Reached.{steps_of}
use Rattle.jr_flow_defs.specs.Graphs.{ReachesByNumbers}
use Rattle.jr_kept.specs.Gathered.{pairs_of, ArePairs}
use Rattle.jr_kept.proofs.Gathers.{reached_pairs}
use Rattle.jr_kept.proofs.gathering.row_pairs.Goals as goal

pub returns : goal.returns
returns c = let points = c.args.graph.now.points.items in let steps = steps_of c.args.graph.now in
    subst (λ xs. ArePairs xs (ReachesByNumbers points steps))
    (sym (c.in_ok-put_pairs.ensures ∙ ap (λ xs. xs ++ pairs_of c.as_slice.result.now c.deref.result.now) c.new-pairs.ensures.items ∙ ap₂ (λ ps xs. pairs_of ps xs) c.as_slice.ensures.value c.deref.ensures.value))
    (reached_pairs points steps c.in_ok-all.all.items c.in_ok-all.ensures.pairs)
