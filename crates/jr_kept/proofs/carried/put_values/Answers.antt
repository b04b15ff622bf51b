use Rattle.std.proofs.Common.{◌≡◌, sym, ℕ, ◌+◌, ◌++◌, ◌∷◌, [], arith, length, subst, take, Some}
use Rattle.std.specs.List.{Contains}
use Rattle.std.proofs.lemmas.Grind.{take_at_read}
use Rattle.std.proofs.lemmas.List.{take_all}
use Rattle.jr_kept.specs.declared.carried.Value.{Value}
use Rattle.jr_kept.specs.Listed.{under_in}
use Rattle.jr_kept.specs.Named.{origin_in}
use Rattle.jr_kept.specs.Carried.{IsDefinedBefore, AreDefined, OnlyDefines, IsCopyOf, IsCopyOfOne}
use Rattle.jr_kept.proofs.Each.{all_none, all_more}
use Rattle.jr_kept.proofs.Carrying.{grows_same, grows_both, defined_still}
use Rattle.jr_kept.proofs.Leaving.{defines_same, defines_both, copy_of_early, copy_of_late}
use Rattle.jr_kept.proofs.carried.put_values.Goals as goal

pub loop-value-init : goal.loop-value-init
loop-value-init c = let made = c.args.made.now in let under = under_in c.args.copies.now in let origin = origin_in c.args.origin.now in (
  grows_same made,
  all_none (λ (v : Value). (copy old : ℕ) → origin v.local ≡ Some old → Contains (under old) copy → (v.local ≡ copy → ⊥) → IsDefinedBefore made (length made.points.items) c.args.hub v.row copy),
  defines_same made c.args.hub (IsCopyOfOne [] under origin),
)

pub loop-value-preserved : goal.loop-value-preserved
loop-value-preserved c = let first = c.args.made.now in let mid = c.loop-value.made in let new = c.put_value.new.made in let hub = c.args.hub in let count = length first.points.items in let under = under_in c.args.copies.now in let origin = origin_in c.args.origin.now in
    let all = c.args.values.now in let i = c.loop-value.value-index in let lt = c.loop-value-test.true in let inv = c.loop-value.invariant in let one = c.in_ok-put_value.ensures.every in (
      grows_both first mid new inv.0 one.0,
      all_more (λ (v : Value). (copy old : ℕ) → origin v.local ≡ Some old → Contains (under old) copy → (v.local ≡ copy → ⊥) → IsDefinedBefore mid count hub v.row copy)
          (λ (v : Value). (copy old : ℕ) → origin v.local ≡ Some old → Contains (under old) copy → (v.local ≡ copy → ⊥) → IsDefinedBefore new count hub v.row copy)
          (take i all) (take (i + 1) all) _ ((take_at_read all i _ (omega (arith, lt))).1)
          (λ v d copy old e h apart. defined_still mid new count count hub v.row copy one.0 (omega arith) (d copy old e h apart))
          (λ copy old e h apart. defined_still new new (length mid.points.items) count hub _ copy (grows_same new) inv.0.few (one.1 copy old e h apart)) inv.1,
      subst (λ xs. OnlyDefines first new hub (IsCopyOfOne xs under origin)) (sym ((take_at_read all i _ (omega (arith, lt))).1))
          (defines_both first mid new hub (IsCopyOfOne (take i all) under origin) (IsCopyOf _ under origin) (IsCopyOfOne (take i all ++ _ ∷ []) under origin) inv.0 one.0 (λ r l o. copy_of_early (take i all) _ under origin r l o) (λ r l o. copy_of_late (take i all) _ under origin r l o) inv.2 c.in_ok-put_value.ensures.only),
    )

pub returns-clause-every : goal.returns-clause-every
returns-clause-every c = let past = c.loop-value-test.false in let inv = c.loop-value.invariant in
    (inv.0, subst (λ vs. AreDefined c.loop-value.made (length c.args.made.now.points.items) c.args.hub vs (under_in c.args.copies.now) (origin_in c.args.origin.now)) (take_all c.loop-value.value-index c.args.values.now (omega (arith, past))) inv.1)

pub returns-clause-only : goal.returns-clause-only
returns-clause-only c = let past = c.loop-value-test.false in
    subst (λ vs. OnlyDefines c.args.made.now c.loop-value.made c.args.hub (IsCopyOfOne vs (under_in c.args.copies.now) (origin_in c.args.origin.now))) (take_all c.loop-value.value-index c.args.values.now (omega (arith, past))) c.loop-value.invariant.2
