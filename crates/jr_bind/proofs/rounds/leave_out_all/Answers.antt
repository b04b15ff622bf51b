use Rattle.std.proofs.Common.{◌≡◌, ◌∙◌, ap, ◌++◌, None}
use Rattle.std.specs.Option.{option_to_list}
use Rattle.jr_bind.proofs.LeftOut.{leaving_one, leaving_none}
use Rattle.jr_bind.proofs.rounds.leave_out_all.Goals as goal

pub returns-in_default : goal.returns-in_default
returns-in_default c = λ bound h. let absent : c.pop.result ≡ None = search in
    leaving_none c.args.edges.now bound _ _ _ _ (c.pop.ensures.items ∙ ap (λ o. c.pop.new.self.items ++ option_to_list o) absent) (c.loop-turn.invariant bound h)

pub loop-turn-preserved : goal.loop-turn-preserved
loop-turn-preserved c = λ bound h. leaving_one c.args.edges.now bound _ _ _ _ _ _ _ c.in-Some.at (c.pop.ensures.items ∙ ap (λ o. c.pop.new.self.items ++ option_to_list o) c.in-Some.is)
    (λ left k. c.in_ok-leave_out.ensures bound left k) (c.loop-turn.invariant bound h)
