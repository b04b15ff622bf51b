use Rattle.std.proofs.Common.{◌≡◌, ◌∙◌, ap, ap₂, Some, slice_set}
use Rattle.jr_supers.specs.Pairs.{with_pairs}
use Rattle.jr_supers.specs.Above.{link_for, is_some_item, highs_of}
use Rattle.jr_supers.proofs.above.Above.with_new.Goals as goal

pub returns : goal.returns
returns c =
    let p = c.args.rows.now in let xs = c.args.supers.now in let old = c.args.self.links.items in
    let same : c.in_ok-highs.highs.items ≡ highs_of old c.args.self.pairs xs = c.in_ok-highs.ensures ∙ ap (λ ls. highs_of ls c.args.self.pairs xs) c.deref.ensures.value in
    let links : c.put.new.links.items ≡ _ = c.put.ensures ∙ ap (λ l. slice_set old c.args.at (Some l)) (c.in_ok-link.ensures ∙ ap₂ (λ ls b. link_for p ls c.args.at xs b) c.deref-2.ensures.value (c.has_items.ensures ∙ ap is_some_item (c.deref-3.ensures.value ∙ same))) in
    let pairs : c.in_ok-pairs.pairs ≡ _ = c.in_ok-pairs.ensures ∙ ap (λ hs. with_pairs c.args.self.pairs c.args.at hs) (c.deref-4.ensures.value ∙ same) in
    λ i. record { links = links i; pairs = pairs i }
