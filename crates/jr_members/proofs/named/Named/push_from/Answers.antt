use Rattle.std.proofs.Common.{arith}
use Rattle.std.proofs.lemmas.List.{drop_more, drop_all}
use Rattle.jr_members.proofs.Adding.{gathering_rest}
use Rattle.jr_members.proofs.named.Named.push_from.Goals as goal

pub loop-from-init : goal.loop-from-init
loop-from-init c = λ t kind right can h. h

pub loop-from-preserved : goal.loop-from-preserved
loop-from-preserved c = λ t kind right can h. c.in_ok-push_inherited.ensures t kind _ right can
    (gathering_rest c.args.sources.under.rows.now t c.args.sources.supers.now right.seen.above kind c.args.over c.args.name c.args.own.now _ _ _ _ (drop_more c.args.direct.now c.loop-from.from-index 0 (omega arith)) (c.loop-from.invariant t kind right can h))

pub returns : goal.returns
returns c = λ t kind right can h. gathering_rest c.args.sources.under.rows.now t c.args.sources.supers.now right.seen.above kind c.args.over c.args.name c.args.own.now _ _ _ _ (drop_all c.loop-from.from-index c.args.direct.now (omega arith)) (c.loop-from.invariant t kind right can h)
