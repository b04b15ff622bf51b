use Rattle.std.proofs.Common.{◌≡◌, ◌<◌, ℕ, true, sym, ◌∙◌, subst, arith, take}
use Rattle.std.specs.List.{Contains}
use Rattle.std.proofs.lemmas.Bool.{false≢true}
use Rattle.std.proofs.lemmas.Grind.{take_at_read}
use Rattle.std.proofs.lemmas.List.{take_all}
use Rattle.jr_places.specs.Stamps.{is_stamped}
use Rattle.jr_kept.proofs.Searching.{none_in}
use Rattle.jr_kept.proofs.Uses.{filled_more, filled_all}
use Rattle.jr_kept.proofs.arriving.fill.Goals as goal

pub loop-row-init : goal.loop-row-init
loop-row-init c = λ bound empty. (empty.counted, λ n s. absurd (false≢true (sym (empty.none n) ∙ s)), λ n m lt. absurd (none_in n m))

pub loop-row-preserved : goal.loop-row-preserved
loop-row-preserved c = λ bound empty. let inv = c.loop-row.invariant bound empty in let adds = c.add.ensures bound inv.0 in let lt = c.loop-row-test.true in let all = c.args.rows.now in let i = c.loop-row.row-index in (
  adds.counted,
  subst (λ xs. (n : ℕ) → is_stamped c.add.new.self n ≡ true → Contains xs n) (sym ((take_at_read all i _ (omega (arith, lt))).1))
      (filled_more c.loop-row.set c.add.new.self bound (take i all) _ c.add.result adds inv.1),
  subst (λ xs. (n : ℕ) → Contains xs n → n < bound → is_stamped c.add.new.self n ≡ true) (sym ((take_at_read all i _ (omega (arith, lt))).1))
      (filled_all c.loop-row.set c.add.new.self bound (take i all) _ c.add.result adds inv.2),
)

pub returns : goal.returns
returns c = λ bound empty. let inv = c.loop-row.invariant bound empty in let past = c.loop-row-test.false in let all = take_all c.loop-row.row-index c.args.rows.now (omega (arith, past)) in (
  inv.0,
  subst (λ xs. (n : ℕ) → is_stamped c.loop-row.set n ≡ true → Contains xs n) all inv.1,
  subst (λ xs. (n : ℕ) → Contains xs n → n < bound → is_stamped c.loop-row.set n ≡ true) all inv.2,
)
