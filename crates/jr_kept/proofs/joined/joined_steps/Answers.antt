use Rattle.std.proofs.Common.{◌≡◌, ◌++◌, ◌∙◌, ap, ap₂, arith, length, map}
use Rattle.jr_flow.specs.Reached.{step_seen, steps_of}
use Rattle.jr_kept.specs.Listed.{under_in}
use Rattle.jr_kept.specs.Spliced.{outside_calls, of_calls}
use Rattle.jr_kept.proofs.Splicing.{joined_listed}
use Rattle.jr_kept.proofs.joined.joined_steps.Goals as goal

pub returns : goal.returns
returns c = λ is. let outer = c.args.outer.now in let inner = c.args.inner.now in let call = c.args.call in let leaving = c.in_ok-leaving.leaving in
    let first : c.in_ok-first.first ≡ length outer.points.items = omega (arith, c.in_ok-first.ensures, c.len.ensures, outer.points.ok.0) in
    let size : c.in_ok-size.size ≡ length inner.points.items = omega (arith, c.in_ok-size.ensures, c.len-2.ensures, inner.points.ok.0) in
    let plain = under_in leaving.plain in let thrown = under_in leaving.thrown in
    joined_listed outer.points.items call (length inner.points.items) (steps_of outer) (steps_of inner) leaving.plain leaving.thrown c.in_ok-leaving.ensures (map step_seen c.push_calls.new.all.items)
    (c.in_ok-push_calls.ensures
    ∙ ap₂ (λ xs ys. xs ++ ys)
    (c.in_ok-push_outer.ensures ∙ ap (λ xs. map step_seen xs ++ outside_calls c.as_slice.result.now call (map step_seen c.as_slice-2.result.now)) c.new-all.ensures.items ∙ ap₂ (λ ps ss. outside_calls ps call (map step_seen ss)) c.as_slice.ensures.value c.as_slice-2.ensures.value)
    (ap₂ (λ ss n. of_calls plain thrown (map step_seen ss) n c.args.calls.now c.in_ok-first.first) c.as_slice-3.ensures.value size ∙ ap₂ (λ ks n. of_calls plain thrown (steps_of inner) (length inner.points.items) ks n) is first))
