use Rattle.std.proofs.Common.{◌≡◌, ◌∙◌, ap, length, arith, subst, []}
use Rattle.std.proofs.lemmas.List.{length-set}
use Rattle.jr_bind.specs.Rounds.{AreEnough}
use Rattle.jr_bind.proofs.LeftOut.{no_counts, enough_none, enough_more}
use Rattle.jr_bind.proofs.rounds.all_counts.Goals as goal

pub loop-place-init : goal.loop-place-init
loop-place-init c = (ap length c.in_ok-counts.ensures ∙ no_counts c.args.bound, enough_none c.args.edges.now _)

pub loop-place-preserved : goal.loop-place-preserved
loop-place-preserved c = (
  ap length c.in_ok-raise.ensures ∙ length-set _ _ _ ∙ c.loop-place.invariant.0,
  enough_more c.args.edges.now _ _ c.loop-place.place c.row_at.result c.row_at.ensures c.in_ok-raise.ensures c.loop-place.invariant.1,
)

pub returns-clause-size : goal.returns-clause-size
returns-clause-size c = c.loop-place.invariant.0

pub returns-clause-enough : goal.returns-clause-enough
returns-clause-enough c = let all : c.loop-place.place ≡ length c.args.edges.now = omega arith in subst (λ n. AreEnough c.args.edges.now [] [] c.loop-place.counts.items n) all c.loop-place.invariant.1
