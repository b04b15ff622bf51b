use Rattle.std.proofs.Common.{◌≡◌, ◌++◌, ◌∷◌, [], sym, ◌∙◌, subst, ap, option_to_list, append-nil, arith}
use Rattle.jr_flow.specs.Walked.{IsWalkingOn, steps_in}
use Rattle.jr_flow.proofs.Shortening.{no_length}
use Rattle.jr_flow.proofs.drawing.Walk.finish.Goals as goal

pub loop-turn-init : goal.loop-turn-init
loop-turn-init c = λ g old source walking. walking

pub loop-turn-preserved : goal.loop-turn-preserved
loop-turn-preserved c = λ g old source walking. let states = c.args.states.now in let ends = c.args.ends.now in let of = c.args.of in
    c.in_ok-meet.ensures g old source (subst (λ xs. IsWalkingOn states g ends of old c.loop-turn.self.met xs (steps_in c.loop-turn.self)) (c.pop.ensures.items ∙ ap (λ o. c.pop.new.self.items ++ option_to_list o) c.in-Some.is) (c.loop-turn.invariant g old source walking))

pub returns-in_default : goal.returns-in_default
returns-in_default c = λ g old source walking. let states = c.args.states.now in let ends = c.args.ends.now in let of = c.args.of in
    subst (λ xs. IsWalkingOn states g ends of old c.loop-turn.self.met xs (steps_in c.loop-turn.self)) (no_length c.loop-turn.self.frontier.items (omega (arith, c.in_default.ensures.cases.0, c.loop-turn.self.frontier.ok.0))) (c.loop-turn.invariant g old source walking)
