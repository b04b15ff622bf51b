use Rattle.std.proofs.Common.{◌≡◌, refl, sym, ◌∙◌, ap, arith, true, length, ℕ, ◌+◌, ◌-◌}
use Rattle.jr_tree.specs.Rows.{label}
use Rattle.jr_assign_faults.specs.Known.{bare, is_paren}
use Rattle.jr_assign_faults.proofs.Known.{bare_more}
use Rattle.jr_assign_faults.proofs.operands.bare.Goals as goal

-- the turns that are left, and the row that is looked at
pub loop-turn-preserved : goal.loop-turn-preserved
loop-turn-preserved c = λ few. let p = c.args.rows.now in let left : ℕ = length p - (c.loop-turn._turn + 1) in let inside = c.if-not-is_paren.ensures.inside refl in
    let paren : is_paren (label p c.loop-turn.inner) ≡ true = sym c.if-not-is_paren.ensures.is in
    let next : c.saturating_add-inner.result ≡ c.loop-turn.inner + 1 = omega (arith, few, inside, c.saturating_add-inner.ensures) in
    let more : length p - c.loop-turn._turn ≡ left + 1 = omega (arith, c.loop-turn-test.true) in
    ap (λ i. bare p left i) next ∙ sym (bare_more p left c.loop-turn.inner paren) ∙ ap (λ k. bare p k c.loop-turn.inner) (sym more) ∙ c.loop-turn.invariant few
