use Rattle.std.proofs.Common.{arith}
use Rattle.std.proofs.lemmas.List.{drop_more, drop_all}
use Rattle.jr_plain.specs.Overloads.{is_more_specific}
use Rattle.jr_members.proofs.Each.{item_in}
use Rattle.jr_lookup.proofs.Choosing.{all_stop, all_next, all_end}
use Rattle.jr_lookup.proofs.choice.is_most_specific.Goals as goal

pub returns-then-not-is_more : goal.returns-then-not-is_more
returns-then-not-is_more c = λ t h m. let p = c.args.world.under.rows.now in let all = c.args.methods.now in let i = c.loop-other.other-index in
    all_stop (is_more_specific p t c.args.method) all _ _ _ _ (drop_more all i 0 (omega arith)) (c.is_more_specific-is_more.ensures t h.world_is m (h.callable _ (item_in all i 0 (omega arith)))) c.if-not-is_more.true (c.loop-other.invariant t h m)

pub loop-other-preserved : goal.loop-other-preserved
loop-other-preserved c = λ t h m. let p = c.args.world.under.rows.now in let all = c.args.methods.now in let i = c.loop-other.other-index in
    all_next (is_more_specific p t c.args.method) all _ _ _ _ (drop_more all i 0 (omega arith)) (c.is_more_specific-is_more.ensures t h.world_is m (h.callable _ (item_in all i 0 (omega arith)))) c.if-not-is_more.false (c.loop-other.invariant t h m)

pub returns : goal.returns
returns c = λ t h m. let p = c.args.world.under.rows.now in let all = c.args.methods.now in all_end (is_more_specific p t c.args.method) all _ (drop_all c.loop-other.other-index all (omega arith)) (c.loop-other.invariant t h m)
