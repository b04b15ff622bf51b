use Rattle.std.proofs.Common.{◌≡◌, sym, ◌∙◌, subst, arith, length}
use Rattle.jr_kept.specs.Handed.{HasPairs}
use Rattle.jr_kept.proofs.Crossing.{has_pairs_more, pair_tells}
use Rattle.jr_kept.proofs.handing.Handing.has_pairs.Goals as goal

pub loop-place-init : goal.loop-place-init
loop-place-init c = λ i d k lt. absurd (omega (arith, lt))

pub loop-place-preserved : goal.loop-place-preserved
loop-place-preserved c = has_pairs_more c.args.self.now c.args.definitions.now c.args.uses.now c.loop-place.place c.row_in-definition.result c.row_in-from.result c.row_in-definition.ensures c.row_in-from.ensures ((pair_tells c.args.self.now c.row_in-definition.result c.row_in-from.result).0 (sym c.has_pair.ensures ∙ c.if-not-has_pair.false)) c.loop-place.invariant

pub returns-clause-told : goal.returns-clause-told
returns-clause-told c = λ told. let past = c.loop-place-test.false in let near = c.loop-place.auto.place-end in
    let all : c.loop-place.place ≡ length c.args.definitions.now = omega (arith, past, near) in
    subst (λ n. HasPairs c.args.self.now c.args.definitions.now c.args.uses.now n) all c.loop-place.invariant

pub returns-then-not-has_pair-clause-exact : goal.returns-then-not-has_pair-clause-exact
returns-then-not-has_pair-clause-exact c = λ h. let place = c.loop-place.place in let lt = c.loop-place-test.true in
    sym c.if-not-has_pair.true ∙ c.has_pair.ensures
    ∙ (pair_tells c.args.self.now c.row_in-definition.result c.row_in-from.result).1 (λ d k e f. h place d k (omega (arith, lt)) (sym c.row_in-definition.ensures ∙ e) (sym c.row_in-from.ensures ∙ f))
