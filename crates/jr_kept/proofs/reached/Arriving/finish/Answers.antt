use Rattle.std.proofs.Common.{◌++◌, ◌∙◌, ap, arith, subst, option_to_list}
use Rattle.jr_kept.specs.Pruned.{IsArriving}
use Rattle.jr_kept.proofs.Searching.{no_items}
use Rattle.jr_kept.proofs.reached.Arriving.finish.Goals as goal

pub returns-in_default : goal.returns-in_default
returns-in_default c = λ count steps ways h. subst (IsArriving count steps c.loop-turn.self.met) (no_items c.loop-turn.self.waiting.items (omega (arith, c.in_default.ensures.cases.0, c.loop-turn.self.waiting.ok.0))) (c.loop-turn.invariant count steps ways h)

pub loop-turn-preserved : goal.loop-turn-preserved
loop-turn-preserved c = λ count steps ways h. c.in_ok-meet.ensures count steps ways
    (subst (IsArriving count steps c.loop-turn.self.met) (c.pop.ensures.items ∙ ap (λ o. c.pop.new.self.items ++ option_to_list o) c.in-Some.is) (c.loop-turn.invariant count steps ways h))
