use Rattle.std.proofs.Common.{◌++◌, ◌∙◌, ap, arith, subst, option_to_list}
use Rattle.jr_kept.specs.Listed.{under_in}
use Rattle.jr_kept.specs.Spread.{IsSpreading}
use Rattle.jr_kept.proofs.Searching.{no_items}
use Rattle.jr_kept.proofs.spreading.Spreading.finish.Goals as goal

pub returns-in_default : goal.returns-in_default
returns-in_default c = λ from bound h. subst (IsSpreading (under_in c.args.ways.now) from c.args.barred.now bound c.loop-turn.self.met) (no_items c.loop-turn.self.waiting.items (omega (arith, c.in_default.ensures.cases.0, c.loop-turn.self.waiting.ok.0))) (c.loop-turn.invariant from bound h)

pub loop-turn-preserved : goal.loop-turn-preserved
loop-turn-preserved c = λ from bound h. c.in_ok-meet.ensures from bound
    (subst (IsSpreading (under_in c.args.ways.now) from c.args.barred.now bound c.loop-turn.self.met) (c.pop.ensures.items ∙ ap (λ o. c.pop.new.self.items ++ option_to_list o) c.in-Some.is) (c.loop-turn.invariant from bound h))
