use Rattle.std.proofs.Common.{◌≡◌, sym, subst, arith, length}
use Rattle.jr_kept.specs.Searched.{ArePairs}
use Rattle.jr_kept.proofs.Searching.{pairs_none}
use Rattle.jr_kept.proofs.search.names_with_points.Goals as goal

pub loop-point-init : goal.loop-point-init
loop-point-init c = subst (λ ps. ArePairs c.args.names.now ps 0) (sym c.new-pairs.ensures.items) (pairs_none c.args.names.now)

pub loop-point-preserved : goal.loop-point-preserved
loop-point-preserved c = c.in_ok-push_name.ensures c.args.names.now (sym c.item_at.ensures) c.loop-point.invariant

pub returns : goal.returns
returns c = let past = c.loop-point-test.false in let near = c.loop-point.auto.point-end in let is = c.in-Ok.ensures.1 in let all : c.loop-point.point ≡ length c.args.names.now = omega (arith, past, near, is) in
    subst (λ n. ArePairs c.args.names.now c.loop-point.pairs.items n) all c.loop-point.invariant
