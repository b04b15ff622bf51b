use Rattle.std.proofs.Common.{◌≡◌, ℕ, suc, ◌+◌, ◌∙◌, ap, ap₂, arith, ◌++◌, ◌∷◌, [], if◌then◌else◌, length}
use Rattle.jr_flow.specs.Bodies.{bodies_below}
use Rattle.jr_flow.proofs.declared.bodies.Goals as goal

one_more : (n : ℕ) → suc n ≡ n + 1
one_more n = omega arith

pub loop-at-preserved : goal.loop-at-preserved
loop-at-preserved c = c.in_ok-push_if.ensures ∙ ap₂ (λ xs b. xs ++ (if b then c.loop-at.at ∷ [] else [])) c.loop-at.invariant (c.has_code.ensures (omega arith)) ∙ ap (bodies_below c.args.rows.now) (one_more c.loop-at.at)

pub returns : goal.returns
returns c = let e : c.loop-at.at ≡ length c.args.rows.now = omega (arith, c.in-Ok.ensures) in c.loop-at.invariant ∙ ap (bodies_below c.args.rows.now) e
