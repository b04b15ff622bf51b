use Rattle.std.proofs.Common.{arith}
use Rattle.std.proofs.lemmas.List.{drop_more, drop_all}
use Rattle.jr_members.proofs.Each.{item_in}
use Rattle.jr_members.proofs.Objects.{lefts_start, lefts_next, lefts_end}
use Rattle.jr_members.proofs.members.World.push_left.Goals as goal

pub loop-at-init : goal.loop-at-init
loop-at-init c = λ t h rows once. lefts_start c.args.self.under.rows.now t c.args.above.now c.args.own.now _ once

pub loop-at-preserved : goal.loop-at-preserved
loop-at-preserved c = λ t h rows once. lefts_next c.args.self.under.rows.now t c.args.above.now c.args.own.now _ _ _ _ _ _ _ (drop_more c.args.own.now c.loop-at.at-index 0 (omega arith)) (c.loop-at.invariant t h rows once)
    (c.in_ok-is_such.ensures t h (rows.each _ (item_in c.args.own.now c.loop-at.at-index 0 (omega arith)))) c.in_ok-push_other.ensures

pub returns : goal.returns
returns c = λ t h rows once. lefts_end c.args.self.under.rows.now t c.args.above.now c.args.own.now _ _ _ (drop_all c.loop-at.at-index c.args.own.now (omega arith)) (c.loop-at.invariant t h rows once)
