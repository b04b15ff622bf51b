use Rattle.std.proofs.Common.{◌≡◌, sym, ℕ, ◌+◌, ◌++◌, ◌∷◌, [], arith, length, subst, take}
use Rattle.std.specs.List.{Contains}
use Rattle.std.proofs.lemmas.Grind.{take_at_read}
use Rattle.std.proofs.lemmas.List.{take_all}
use Rattle.jr_kept.specs.Carried.{IsDefinedBefore, OnlyDefines, IsOtherOf}
use Rattle.jr_kept.proofs.Each.{all_none, all_more}
use Rattle.jr_kept.proofs.Carrying.{grows_same, grows_both, defined_still}
use Rattle.jr_kept.proofs.Leaving.{defines_same, defines_both, other_early, other_late}
use Rattle.jr_kept.proofs.carried.put_others.Goals as goal

pub loop-copy-init : goal.loop-copy-init
loop-copy-init c = let made = c.args.made.now in let v = c.args.value in (grows_same made, all_none (λ copy. (v.local ≡ copy → ⊥) → IsDefinedBefore made (length made.points.items) c.args.hub v.row copy), defines_same made c.args.hub (IsOtherOf v []))

pub loop-copy-preserved : goal.loop-copy-preserved
loop-copy-preserved c = let old = c.args.made.now in let mid = c.loop-copy.made in let new = c.put_other.new.made in let hub = c.args.hub in let v = c.args.value in let count = length old.points.items in
    let all = c.args.copies.now in let i = c.loop-copy.copy-index in let lt = c.loop-copy-test.true in let inv = c.loop-copy.invariant in let one = c.in_ok-put_other.ensures.every in (
      grows_both old mid new inv.0 one.0,
      all_more (λ copy. (v.local ≡ copy → ⊥) → IsDefinedBefore mid count hub v.row copy) (λ copy. (v.local ≡ copy → ⊥) → IsDefinedBefore new count hub v.row copy) (take i all) (take (i + 1) all) _ ((take_at_read all i _ (omega (arith, lt))).1)
          (λ copy d apart. defined_still mid new count count hub v.row copy one.0 (omega arith) (d apart)) (λ apart. defined_still new new (length mid.points.items) count hub v.row _ (grows_same new) inv.0.few (one.1 apart)) inv.1,
      subst (λ xs. OnlyDefines old new hub (IsOtherOf v xs)) (sym ((take_at_read all i _ (omega (arith, lt))).1))
          (defines_both old mid new hub (IsOtherOf v (take i all)) (IsOtherOf v (_ ∷ [])) (IsOtherOf v (take i all ++ _ ∷ [])) inv.0 one.0 (λ r l o. other_early v (take i all) _ r l o) (λ r l o. other_late v (take i all) _ r l o) inv.2 c.in_ok-put_other.ensures.only),
    )

pub returns-clause-every : goal.returns-clause-every
returns-clause-every c = let past = c.loop-copy-test.false in let inv = c.loop-copy.invariant in let v = c.args.value in
    (inv.0, subst (λ xs. (copy : ℕ) → Contains xs copy → (v.local ≡ copy → ⊥) → IsDefinedBefore c.loop-copy.made (length c.args.made.now.points.items) c.args.hub v.row copy) (take_all c.loop-copy.copy-index c.args.copies.now (omega (arith, past))) inv.1)

pub returns-clause-only : goal.returns-clause-only
returns-clause-only c = let past = c.loop-copy-test.false in
    subst (λ xs. OnlyDefines c.args.made.now c.loop-copy.made c.args.hub (IsOtherOf c.args.value xs)) (take_all c.loop-copy.copy-index c.args.copies.now (omega (arith, past))) c.loop-copy.invariant.2
