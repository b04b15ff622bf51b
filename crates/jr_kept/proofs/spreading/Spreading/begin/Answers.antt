use Rattle.std.proofs.Common.{refl, inl, ◌+◌, ℕ, ◌++◌, ◌∙◌, ap, subst, arith, take}
use Rattle.std.specs.List.{Contains}
use Rattle.std.proofs.lemmas.Grind.{take_at_read}
use Rattle.std.proofs.lemmas.List.{take_all}
use Rattle.jr_kept.specs.Listed.{under_in}
use Rattle.jr_kept.specs.Spread.{AreNext}
use Rattle.jr_kept.proofs.Spreads.{begins_none, begins_next, next_more}
use Rattle.jr_kept.proofs.spreading.Spreading.begin.Goals as goal

pub loop-point-init : goal.loop-point-init
loop-point-init c = (refl, begins_none (under_in c.args.ways.now) c.args.self.now.waiting.items, λ k h. inl h)

pub loop-point-preserved : goal.loop-point-preserved
loop-point-preserved c = let from = c.args.from.now in let i = c.loop-point.point-index in let lt = c.loop-point-test.true in let waiting = c.loop-point.self.waiting.items in (
  c.loop-point.invariant.0,
  begins_next (under_in c.args.ways.now) (take i from) (take (i + 1) from) waiting c.extend_from_slice.new.self.items _ ((take_at_read from i _ (omega (arith, lt))).1)
      (c.in_ok-extend_from_slice.ensures.items ∙ ap (λ ys. waiting ++ ys) c.under.ensures) c.loop-point.invariant.1,
  next_more (under_in c.args.ways.now) (take i from) (take (i + 1) from) c.args.self.now.waiting.items waiting c.extend_from_slice.new.self.items _ ((take_at_read from i _ (omega (arith, lt))).1)
      (c.in_ok-extend_from_slice.ensures.items ∙ ap (λ ys. waiting ++ ys) c.under.ensures) c.loop-point.invariant.2,
)

pub returns-clause-met : goal.returns-clause-met
returns-clause-met c = c.loop-point.invariant.0

pub returns-clause-waiting : goal.returns-clause-waiting
returns-clause-waiting c = let past = c.loop-point-test.false in
    subst (λ xs. (i k : ℕ) → Contains xs i → Contains (under_in c.args.ways.now i) k → Contains c.loop-point.self.waiting.items k) (take_all c.loop-point.point-index c.args.from.now (omega (arith, past))) c.loop-point.invariant.1

pub returns-clause-only : goal.returns-clause-only
returns-clause-only c = let past = c.loop-point-test.false in
    subst (λ xs. AreNext (under_in c.args.ways.now) xs c.args.self.now.waiting.items c.loop-point.self.waiting.items) (take_all c.loop-point.point-index c.args.from.now (omega (arith, past))) c.loop-point.invariant.2
