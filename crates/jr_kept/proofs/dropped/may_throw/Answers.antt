use Rattle.std.proofs.Common.{◌≡◌, ◌∙◌, ap, subst, arith, length, slice_get}
use Rattle.std.proofs.lemmas.Bool.{false≢true}
use Rattle.jr_kept.specs.Disturbed.{throws, MayThrow}
use Rattle.jr_kept.proofs.Disturbing.{throw_more, throw_found}
use Rattle.jr_kept.proofs.dropped.may_throw.Goals as goal

pub loop-number-init : goal.loop-number-init
loop-number-init c = (λ none k lt. absurd (omega (arith, lt)), λ e. absurd (false≢true e))

pub loop-number-preserved : goal.loop-number-preserved
loop-number-preserved c = let range = c.args.range in let points = c.args.points.now in let steps = c.args.steps.now in let n = c.loop-number.number in let found = c.loop-number.found in
    let is : c.throws.result ≡ throws range.first range.end points (slice_get steps n) = c.throws.ensures ∙ ap (throws range.first range.end points) c.step_at.ensures in (
      throw_more range.first range.end points steps n found c.throws.result c.is_either-found.result is c.is_either-found.ensures c.loop-number.invariant.0,
      throw_found range.first range.end points steps n found c.throws.result c.is_either-found.result is c.is_either-found.ensures c.loop-number.invariant.1,
    )

pub returns-clause-none : goal.returns-clause-none
returns-clause-none c = let past = c.loop-number-test.false in let near = c.loop-number.auto.number-end in
    let all : c.loop-number.number ≡ length c.args.steps.now = omega (arith, past, near) in
    subst (λ n. MayThrow c.args.range.first c.args.range.end c.args.points.now c.args.steps.now n c.loop-number.found) all c.loop-number.invariant.0

pub returns-clause-some : goal.returns-clause-some
returns-clause-some c = c.loop-number.invariant.1
