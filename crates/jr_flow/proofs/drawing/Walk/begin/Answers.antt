use Rattle.std.proofs.Common.{◌++◌, [], sym, ◌∙◌, subst, ap, ap₂, arith, length}
use Rattle.std.proofs.lemmas.Result.{on_ok_weaker}
use Rattle.jr_flow.specs.Located.{states_in}
use Rattle.jr_flow.specs.Walked.{IsWalkingOn, steps_in, opened, hops_at}
use Rattle.jr_flow.proofs.Walking.{walk_begun}
use Rattle.jr_flow.proofs.drawing.Walk.begin.Goals as goal

pub returns : goal.returns
returns c = λ g source counted sound. let states = c.args.states.now in let ends = c.args.ends.now in let of = c.args.of in let steps = steps_in c.args.self.now in let inside = source.inside in let near = source.near in
    on_ok_weaker c.open_behind.result
    (λ is. subst (λ xs. IsWalkingOn states g ends of steps c.empty.new.self xs steps) (sym (is ∙ ap₂ (λ xs hs. xs ++ opened ends of.is_throw hs) c.clear.ensures.items (sym (source.flow.hops_are of.place inside))))
    (walk_begun states g ends source.flow source.are of.place of.point of.is_throw inside source.stands steps c.empty.new.self (c.in_ok-empty.ensures (length (states_in states.locations)) counted) sound))
    (c.open_behind.ensures (omega (arith, inside, near)))
