use Rattle.std.proofs.Common.{◌++◌, ◌∙◌, ap, arith, subst, option_to_list}
use Rattle.jr_kept.specs.Listed.{under_in}
use Rattle.jr_kept.specs.Named.{origin_in}
use Rattle.jr_kept.specs.Gathered.{use_in, IsGathering}
use Rattle.jr_kept.proofs.Searching.{no_items}
use Rattle.jr_kept.proofs.gathering.Gathering.finish.Goals as goal

pub returns-in_default : goal.returns-in_default
returns-in_default c = λ used old new inside originals h. let inv = c.loop-turn.invariant used old new inside originals h in (
  inv.0,
  subst (λ ws. IsGathering (under_in c.args.definitions.now) (use_in c.args.handing.now) (origin_in c.args.origin.now) used new c.loop-turn.self.seen ws c.loop-turn.self.originals.all.items)
      (no_items c.loop-turn.self.waiting.items (omega (arith, c.in_default.ensures.cases.0, c.loop-turn.self.waiting.ok.0))) inv.1,
)

pub loop-turn-preserved : goal.loop-turn-preserved
loop-turn-preserved c = λ used old new inside originals h. let inv = c.loop-turn.invariant used old new inside originals h in
    c.in_ok-meet.ensures used old new inside inv.0
    (subst (λ ws. IsGathering (under_in c.args.definitions.now) (use_in c.args.handing.now) (origin_in c.args.origin.now) used new c.loop-turn.self.seen ws c.loop-turn.self.originals.all.items) (c.pop.ensures.items ∙ ap (λ o. c.pop.new.self.items ++ option_to_list o) c.in-Some.is) inv.1)
