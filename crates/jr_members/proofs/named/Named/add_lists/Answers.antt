use Rattle.std.proofs.Common.{arith}
use Rattle.std.proofs.lemmas.List.{drop_more, drop_all}
use Rattle.jr_members.proofs.Each.{item_in}
use Rattle.jr_members.proofs.Adding.{wanted_below, adding_start, adding_next, adding_end}
use Rattle.jr_members.proofs.named.Named.add_lists.Goals as goal

pub loop-at-init : goal.loop-at-init
loop-at-init c = λ t kind right can wanted. adding_start c.args.sources.under.rows.now t c.args.sources.supers.now right.seen.above kind c.args.over _ _ _ can wanted

pub loop-at-preserved : goal.loop-at-preserved
loop-at-preserved c = λ t kind right can wanted. let p = c.args.sources.under.rows.now in let inv = c.loop-at.invariant t kind right can wanted in
    adding_next p t c.args.sources.supers.now right.seen.above kind c.args.over _ _ _ _ _ _ _ _ _ (drop_more c.args.rows.now c.loop-at.at-index 0 (omega arith)) inv
    (c.name-name.ensures p right.seen.placed.are (wanted_below p t c.args.sources.supers.now right.seen.above kind c.args.over _ ((wanted _).0 (item_in c.args.rows.now c.loop-at.at-index 0 (omega arith)))))
    (c.in_ok-add_list.ensures t kind right inv.can)

pub returns : goal.returns
returns c = λ t kind right can wanted. adding_end c.args.sources.under.rows.now t c.args.sources.supers.now right.seen.above kind c.args.over _ _ _ _ (drop_all c.loop-at.at-index c.args.rows.now (omega arith)) (c.loop-at.invariant t kind right can wanted)
