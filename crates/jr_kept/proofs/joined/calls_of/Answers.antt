use Rattle.std.proofs.Common.{◌≡◌, ℕ, suc, ◌+◌, ◌∙◌, ap, ap₂, arith, ◌++◌, ◌∷◌, [], if◌then◌else◌, length}
use Rattle.jr_kept.specs.Spliced.{calls_below}
use Rattle.jr_kept.proofs.joined.calls_of.Goals as goal

one_more : (n : ℕ) → suc n ≡ n + 1
one_more n = omega arith

pub loop-number-preserved : goal.loop-number-preserved
loop-number-preserved c = c.in_ok-push_if.ensures ∙ ap₂ (λ xs b. xs ++ (if b then c.loop-number.number ∷ [] else [])) c.loop-number.invariant c.is_call.ensures ∙ ap (calls_below c.args.points.now c.args.call) (one_more c.loop-number.number)

pub returns : goal.returns
returns c = let past = c.loop-number-test.false in let near = c.loop-number.auto.number-end in let size = c.in_ok-count.ensures in
    let e : c.loop-number.number ≡ length c.args.points.now = omega (arith, past, near, size) in c.loop-number.invariant ∙ ap (calls_below c.args.points.now c.args.call) e
