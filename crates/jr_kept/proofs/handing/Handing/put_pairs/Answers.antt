use Rattle.std.proofs.Common.{◌≡◌, inl, subst, arith, length}
use Rattle.jr_kept.specs.Handed.{PutsPairs}
use Rattle.jr_kept.proofs.Crossing.{pairs_more}
use Rattle.jr_kept.proofs.Handover.{puts_no_pair, puts_more_pairs}
use Rattle.jr_kept.proofs.handing.Handing.put_pairs.Goals as goal

pub loop-place-init : goal.loop-place-init
loop-place-init c = (λ d k e. inl e, λ once. puts_no_pair c.args.self.now c.args.definitions.now c.args.uses.now)

pub loop-place-preserved : goal.loop-place-preserved
loop-place-preserved c = let definitions = c.args.definitions.now in let uses = c.args.uses.now in let place = c.loop-place.place in (
  pairs_more c.args.self.now c.loop-place.self c.put_one.new.self definitions uses place c.row_in-definition.result c.row_in-from.result c.row_in-definition.ensures c.row_in-from.ensures c.loop-place.invariant.0 c.put_one.ensures.adds,
  λ once. puts_more_pairs c.args.self.now c.loop-place.self c.put_one.new.self definitions uses place c.row_in-definition.result c.row_in-from.result c.row_in-definition.ensures c.row_in-from.ensures once (c.loop-place.invariant.1 once) c.put_one.ensures.puts,
)

pub returns-clause-adds : goal.returns-clause-adds
returns-clause-adds c = c.loop-place.invariant.0

pub returns-clause-puts : goal.returns-clause-puts
returns-clause-puts c = λ once. let past = c.loop-place-test.false in let near = c.loop-place.auto.place-end in
    let all : c.loop-place.place ≡ length c.args.definitions.now = omega (arith, past, near) in
    subst (λ n. PutsPairs c.args.self.now c.loop-place.self c.args.definitions.now c.args.uses.now n) all (c.loop-place.invariant.1 once)
