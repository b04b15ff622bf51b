use Rattle.std.proofs.Common.{◌-◌, refl, arith, ⊎_elim, inl, inr}
use Rattle.jr_types.proofs.Casting.{castable_start, castable_next, castable_all}
use Rattle.jr_types.proofs.conversions.is_castable.Goals as goal

pub loop-more-init : goal.loop-more-init
loop-more-init c = λ t h. castable_start c.args.rows.now t c.args.from.element c.args.to.element (c.args.from.dims - c.least-shared.result) (c.args.to.dims - c.least-shared.result) _ _ _
    c.with_dims-first_low.ensures c.with_dims-first_high.ensures (c.is_castable_end-is.ensures t h) (⊎_elim (λ e. inl (omega arith)) (λ e. inr (omega arith)) c.least-shared.ensures.one)

pub loop-more-preserved : goal.loop-more-preserved
loop-more-preserved c = λ t h. castable_next c.args.rows.now t c.args.from.element c.args.to.element _ _ c.loop-more.more _ _ _ _ _ refl c.with_dims-next_low.ensures c.with_dims-next_high.ensures (c.loop-more.invariant t h) (c.is_castable_over-is.ensures t h)

pub returns : goal.returns
returns c = λ t h. castable_all c.args.rows.now t c.args.from c.args.to _ (c.args.from.dims - c.least-shared.result) (c.args.to.dims - c.least-shared.result) _ (c.loop-more.invariant t h)
    (omega (arith, c.least-shared.ensures.below_first)) (omega (arith, c.least-shared.ensures.below_second))
