use Rattle.std.proofs.Common.{◌≡◌, ◌++◌, refl, ◌∙◌, ap, arith, length}
use Rattle.jr_kept.specs.Spliced.{calls_in, copies}
use Rattle.jr_kept.proofs.joined.joined_whole.Goals as goal

pub returns : goal.returns
returns c = let outer = c.args.outer.now in let inner = c.args.inner.now in let call = c.args.call in
    let calls : c.in_ok-calls.calls.items ≡ calls_in outer.points.items call = c.in_ok-calls.ensures ∙ ap (λ ps. calls_in ps call) c.as_slice.ensures.value in
    let count : c.len.result ≡ length c.in_ok-calls.calls.items = omega (arith, c.len.ensures, c.in_ok-calls.calls.ok.0) in (
      refl,
      record {
        points_are = c.in_ok-points.ensures ∙ ap (λ n. outer.points.items ++ copies n inner.points.items) (count ∙ ap length calls);
        steps_are = c.in_ok-steps.ensures (c.deref.ensures.value ∙ calls);
      },
    )
