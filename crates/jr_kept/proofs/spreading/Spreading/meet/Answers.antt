use Rattle.std.proofs.Common.{◌++◌, sym, ◌∙◌, ap, subst}
use Rattle.jr_places.specs.Stamps.{AddsStamp}
use Rattle.jr_kept.specs.Listed.{under_in}
use Rattle.jr_kept.specs.Spread.{IsSpreading}
use Rattle.jr_kept.proofs.Spreads.{spreading_barred, spreading_known, spreading_more}
use Rattle.jr_kept.proofs.spreading.Spreading.meet.Goals as goal

pub returns-then-has : goal.returns-then-has
returns-then-has c = λ from bound h. spreading_barred (under_in c.args.ways.now) from c.args.barred.now bound c.args.self.now.met c.args.self.now.waiting.items c.args.at h (sym c.has.ensures ∙ c.if-has.true)

pub returns-then-add : goal.returns-then-add
returns-then-add c = λ from bound h. let ways = under_in c.args.ways.now in let met = c.args.self.now.met in let rest = c.args.self.now.waiting.items in let at = c.args.at in
    subst (IsSpreading ways from c.args.barred.now bound c.add.new.self) (sym (c.in_ok-extend_from_slice.ensures.items ∙ ap (λ ys. rest ++ ys) c.under.ensures))
    (spreading_more ways from c.args.barred.now bound met rest at h c.add.new.self (subst (AddsStamp met c.add.new.self bound at) c.if-add.true (c.add.ensures bound h.counted)) (sym c.has.ensures ∙ c.if-has.false))

pub returns : goal.returns
returns c = λ from bound h. let met = c.args.self.now.met in let at = c.args.at in
    spreading_known (under_in c.args.ways.now) from c.args.barred.now bound met c.args.self.now.waiting.items at h c.add.new.self (subst (AddsStamp met c.add.new.self bound at) c.if-add.false (c.add.ensures bound h.counted))
