use Rattle.std.proofs.Common.{ap, arith, ◌++◌, filter}
use Rattle.std.proofs.lemmas.List.{drop_more, drop_all}
use Rattle.jr_supers.specs.Tabled.{is_callable}
use Rattle.jr_dispatch.specs.Families.{is_like}
use Rattle.jr_dispatch.proofs.Linking.{filter_more, filter_done}
use Rattle.jr_dispatch.proofs.Searching.{at_in}
use Rattle.jr_dispatch.proofs.families.alike.Goals as goal

pub loop-other-init : goal.loop-other-init
loop-other-init c = λ p t s m rows. ap (λ xs. xs ++ filter (is_like p t c.args.method) c.args.all.now) c.new-out.ensures.items

pub loop-other-preserved : goal.loop-other-preserved
loop-other-preserved c = λ p t s m rows. filter_more (is_like p t c.args.method) c.args.all.now _ _ _ _ _ _ (drop_more c.args.all.now c.loop-other.other-index _ (omega arith))
    (c.are_same-is_like.ensures p t s (ap is_callable (rows _ (at_in c.args.all.now c.loop-other.other-index _ (omega arith)))) (ap is_callable m)) c.in_ok-push_if.ensures (c.loop-other.invariant p t s m rows)

pub returns : goal.returns
returns c = λ p t s m rows. filter_done (is_like p t c.args.method) c.args.all.now _ _ (drop_all c.loop-other.other-index c.args.all.now (omega arith)) (c.loop-other.invariant p t s m rows)
