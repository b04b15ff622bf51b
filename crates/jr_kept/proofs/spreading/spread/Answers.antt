use Rattle.std.proofs.Common.{sym, subst}
use Rattle.jr_places.specs.Stamps.{IsEmptied}
use Rattle.jr_kept.specs.Listed.{under_in}
use Rattle.jr_kept.specs.Spread.{AreNext}
use Rattle.jr_kept.proofs.Spreads.{spreading_begun, spreading_ends}
use Rattle.jr_kept.proofs.spreading.spread.Goals as goal

pub returns-clause-every : goal.returns-clause-every
returns-clause-every c = let ways = under_in c.args.ways.now in let from = c.args.from.now in let barred = c.args.barred.now in let count = c.args.count in let waiting = c.begin.new.self.waiting.items in
    spreading_ends ways from barred count c.finish.new.self.met (c.in_ok-finish.ensures from count
    (spreading_begun ways from barred count c.begin.new.self.met waiting (subst (λ met. IsEmptied met count) (sym c.in_ok-begin.ensures.met) c.in_ok-spreading.ensures.met) c.in_ok-begin.ensures.waiting
    (subst (λ old. AreNext ways from old waiting) c.in_ok-spreading.ensures.waiting c.in_ok-begin.ensures.only)))

pub returns-clause-only : goal.returns-clause-only
returns-clause-only c = let ways = under_in c.args.ways.now in let from = c.args.from.now in let barred = c.args.barred.now in let count = c.args.count in let waiting = c.begin.new.self.waiting.items in
    let ends = c.in_ok-finish.ensures from count
    (spreading_begun ways from barred count c.begin.new.self.met waiting (subst (λ met. IsEmptied met count) (sym c.in_ok-begin.ensures.met) c.in_ok-spreading.ensures.met) c.in_ok-begin.ensures.waiting
    (subst (λ old. AreNext ways from old waiting) c.in_ok-spreading.ensures.waiting c.in_ok-begin.ensures.only)) in
    ends.sound
