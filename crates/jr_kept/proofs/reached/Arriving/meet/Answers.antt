use Rattle.std.proofs.Common.{◌++◌, sym, ◌∙◌, ap, subst}
use Rattle.jr_places.specs.Stamps.{AddsStamp}
use Rattle.jr_kept.specs.Listed.{under_in}
use Rattle.jr_kept.specs.Pruned.{IsArriving}
use Rattle.jr_kept.proofs.Coming.{arriving_known, arriving_more}
use Rattle.jr_kept.proofs.reached.Arriving.meet.Goals as goal

pub returns-then-add : goal.returns-then-add
returns-then-add c = λ count steps ways h. let met = c.args.self.now.met in let rest = c.args.self.now.waiting.items in let at = c.args.at in
    subst (IsArriving count steps c.add.new.self) (sym (c.in_ok-extend_from_slice.ensures.items ∙ ap (λ ys. rest ++ ys) c.under.ensures))
    (arriving_more count steps met c.add.new.self rest at h (under_in c.args.ways.now at) (subst (AddsStamp met c.add.new.self count at) c.if-add.true (c.add.ensures count h.counted))
    (λ lt k s. (ways at k lt).1 s) (λ lt k m. (ways at k lt).0 m))

pub returns : goal.returns
returns c = λ count steps ways h. let met = c.args.self.now.met in
    arriving_known count steps met c.add.new.self c.args.self.now.waiting.items c.args.at h (subst (AddsStamp met c.add.new.self count c.args.at) c.if-add.false (c.add.ensures count h.counted))
