use Rattle.std.proofs.Common.{arith}
use Rattle.std.proofs.lemmas.List.{drop_more, drop_all}
use Rattle.jr_supers.proofs.Signing.{continues_start, continues_more, continues_end}
use Rattle.jr_supers.proofs.signatures.with_types.Goals as goal

pub loop-ty-init : goal.loop-ty-init
loop-ty-init c = λ one. continues_start one

pub loop-ty-preserved : goal.loop-ty-preserved
loop-ty-preserved c = λ one. continues_more _ (drop_more c.args.all.now c.loop-ty.ty-index _ (omega arith)) (c.loop-ty.invariant one) (c.in_ok-number.ensures (c.loop-ty.invariant one).counted)

pub returns : goal.returns
returns c = λ one. continues_end (drop_all c.loop-ty.ty-index c.args.all.now (omega arith)) (c.loop-ty.invariant one)
