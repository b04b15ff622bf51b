use Rattle.std.proofs.Common.{refl, ◌∙◌, ap₂, subst, length, map}
use Rattle.jr_flow.specs.Reached.{step_seen}
use Rattle.jr_kept.specs.Pruned.{AreNumbered, left_steps}
use Rattle.jr_kept.proofs.reached.pruned.Goals as goal

pub returns : goal.returns
returns c = λ arrived. (
  refl,
  record {
    met = c.args.met.now;
    numbers = c.in_ok-left.left.numbers.items;
    arrived = arrived;
    numbered = subst (λ ps. AreNumbered ps c.args.met.now (length ps) c.in_ok-left.left.points.items c.in_ok-left.left.numbers.items) c.as_slice.ensures.value c.in_ok-left.ensures;
    rest_is = c.in_ok-steps.ensures ∙ ap₂ (λ ns ss. left_steps c.args.met.now ns (map step_seen ss)) c.as_slice-3.ensures.value c.as_slice-2.ensures.value;
  },
)
