use Rattle.std.proofs.Common.{refl, ℕ, ◌<◌, ◌+◌, [], arith, subst, take}
use Rattle.std.specs.List.{Contains}
use Rattle.std.proofs.lemmas.Grind.{take_at_read}
use Rattle.std.proofs.lemmas.List.{take_all}
use Rattle.jr_kept.specs.Ordered.{Tells}
use Rattle.jr_kept.proofs.Each.{all_none}
use Rattle.jr_kept.proofs.Telling.{tells_still}
use Rattle.jr_kept.proofs.Leaving.{late_told}
use Rattle.jr_kept.proofs.carried.put_all_late.Goals as goal

pub loop-definition-init : goal.loop-definition-init
loop-definition-init c = tells_still c.args.lost.now ((x : ℕ × ℕ) → Contains [] x → x.0 < c.args.count) (all_none (λ (x : ℕ × ℕ). x.0 < c.args.count))

pub loop-definition-preserved : goal.loop-definition-preserved
loop-definition-preserved c = let all = c.args.pairs.now in let i = c.loop-definition.definition-index in let lt = c.loop-definition-test.true in
    late_told (take i all) (take (i + 1) all) _ c.args.count _ c.args.lost.now c.loop-definition.lost c.put_late.new.lost ((take_at_read all i _ (omega (arith, lt))).1) refl c.loop-definition.invariant c.put_late.ensures

pub returns : goal.returns
returns c = let past = c.loop-definition-test.false in
    subst (λ xs. Tells c.args.lost.now c.loop-definition.lost ((x : ℕ × ℕ) → Contains xs x → x.0 < c.args.count)) (take_all c.loop-definition.definition-index c.args.pairs.now (omega (arith, past))) c.loop-definition.invariant
