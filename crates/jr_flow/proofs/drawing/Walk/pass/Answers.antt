use Rattle.std.proofs.Common.{◌++◌, ◌∷◌, [], sym, ◌∙◌, subst, ap, ap₂, arith, length, map, true, false}
use Rattle.std.proofs.lemmas.List.{map-append}
use Rattle.std.proofs.lemmas.List.Elements.{Contains-push}
use Rattle.std.proofs.lemmas.Result.{on_ok_weaker}
use Rattle.jr_flow.specs.Reached.{step_seen}
use Rattle.jr_flow.specs.Walked.{IsWalkingOn, steps_in, opened, hops_at}
use Rattle.jr_flow.proofs.Walking.{walk_point, walk_silent}
use Rattle.jr_flow.proofs.drawing.Walk.pass.Goals as goal

pub returns-in_ok-push-in-Some : goal.returns-in_ok-push-in-Some
returns-in_ok-push-in-Some c = λ g old met source walking adds. let states = c.args.states.now in let ends = c.args.ends.now in let of = c.args.of in let rest = c.args.self.now.frontier.items in let before = c.args.self.now.steps.items in
    subst (λ steps. IsWalkingOn states g ends of old c.args.self.now.met rest steps) (sym (ap (map step_seen) c.in_ok-push-in-Some.ensures.items ∙ map-append step_seen before _))
    (walk_point states g ends source.flow source.are of.place of.point of.is_throw source.inside source.stands old met c.args.self.now.met rest c.args.to (map step_seen before) walking c.in-Some.point adds (sym c.point.ensures ∙ c.in-Some.is))

pub returns-in_ok-open_behind-in-None : goal.returns-in_ok-open_behind-in-None
returns-in_ok-open_behind-in-None c = λ g old met source walking adds. let states = c.args.states.now in let ends = c.args.ends.now in let of = c.args.of in let rest = c.args.self.now.frontier.items in let steps = steps_in c.args.self.now in
    let lt = walking.inside c.args.to (Contains-push rest c.args.to) in let near = source.near in let hops = source.flow.hops_are c.args.to lt in
    on_ok_weaker c.open_behind-in-None.result
    (λ is. subst (λ xs. IsWalkingOn states g ends of old c.args.self.now.met xs steps)
    (sym (is ∙ ap (λ xs. xs ++ opened ends true (hops_at states c.args.to)) (c.in_ok-open_behind-in-None.ensures (omega (arith, lt, near))) ∙ ap (λ hs. (rest ++ opened ends false hs) ++ opened ends true hs) (sym hops)))
    (walk_silent states g ends source.flow source.are of.place of.point of.is_throw source.inside source.stands old met c.args.self.now.met rest c.args.to steps walking adds (sym c.point.ensures ∙ c.in-None.is)))
    (c.open_behind-in-None.ensures (omega (arith, lt, near)))
