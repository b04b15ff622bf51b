use Rattle.std.proofs.Common.{ℕ, ◌<◌, ◌+◌, arith, subst, take}
use Rattle.std.specs.List.{Contains}
use Rattle.std.proofs.lemmas.Grind.{take_at_read}
use Rattle.std.proofs.lemmas.List.{take_all}
use Rattle.jr_kept.proofs.Each.{all_more}
use Rattle.jr_kept.proofs.lists.first_bound.Goals as goal

pub loop-number-init : goal.loop-number-init
loop-number-init c = λ x h. absurd (omega (arith, h.1))

pub loop-number-preserved : goal.loop-number-preserved
loop-number-preserved c = let all = c.args.pairs.now in let i = c.loop-number.number-index in let lt = c.loop-number-test.true in
    all_more (λ (x : ℕ × ℕ). x.0 < c.loop-number.bound) (λ (x : ℕ × ℕ). x.0 < c.above-bound.result) (take i all) (take (i + 1) all) _ ((take_at_read all i _ (omega (arith, lt))).1)
    (λ x lt. let less = c.above-bound.ensures.kept in omega (arith, lt, less)) c.above-bound.ensures.here c.loop-number.invariant

pub returns : goal.returns
returns c = let past = c.loop-number-test.false in
    subst (λ xs. (x : ℕ × ℕ) → Contains xs x → x.0 < c.loop-number.bound) (take_all c.loop-number.number-index c.args.pairs.now (omega (arith, past))) c.loop-number.invariant
