use Rattle.std.proofs.Common.{sym, ◌∙◌, ap, slice_get}
use Rattle.jr_flow.specs.Walked.{end_in}
use Rattle.jr_flow.proofs.Shortening.{end_set}
use Rattle.jr_flow.proofs.drawing.shorten_one.Goals as goal

pub returns-in-Some : goal.returns-in-Some
returns-in-Some c = λ states g h. end_set states g c.args.ends.now.items c.put.new.all.items c.args.place c.in-Some.end c.item-next.result h
    (sym (c.end_at.ensures ∙ ap (λ xs. slice_get xs c.args.place) c.deref.ensures.value) ∙ c.in-Some.is) (c.item-next.ensures ∙ ap (λ xs. end_in xs c.in-Some.end) c.deref-in-Some.ensures.value) c.put.ensures
