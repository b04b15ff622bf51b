use Rattle.std.proofs.Common.{◌≡◌, ◌∙◌, sym, refl, subst, arith, Some, None}
use Rattle.std.proofs.lemmas.List.{drop_more, drop_all}
use Rattle.jr_members.specs.Nearest.{Sets, lister_of}
use Rattle.jr_members.proofs.Each.{item_in}
use Rattle.jr_members.proofs.Nearing.{grow_start, grow_next, grow_failed, grow_end}
use Rattle.jr_members.proofs.nearest.grow.Goals as goal

pub loop-at-init : goal.loop-at-init
loop-at-init c = λ placed below closed there. grow_start c.args.under.rows.now c.args.over c.args.start c.args.levels c.args.rows.now c.args.nodes.now.items closed there

pub loop-at-preserved : goal.loop-at-preserved
loop-at-preserved c = λ placed below closed there. let p = c.args.under.rows.now in let inv = c.loop-at.invariant placed below closed there in let among = item_in c.args.rows.now c.loop-at.at-index 0 (omega arith) in
    grow_next p c.args.over c.args.start c.args.levels c.args.rows.now c.args.nodes.now.items _ _ _ _ _ _ _ inv c.in-Some.found (drop_more c.args.rows.now c.loop-at.at-index 0 (omega arith)) among (c.name-name.ensures p placed (below.each _ among))
    (subst (λ f. Sets c.args.levels c.loop-at.tree c.name-name.result c.name-name.result (lister_of c.args.over c.args.start.runs) c.loop-at.nodes.items c.set.new.nodes.items f) c.in-Some.is (c.in_ok-found.ensures inv.keeps.closed inv.there))

pub returns-in-None : goal.returns-in-None
returns-in-None c = λ placed below closed there. let inv = c.loop-at.invariant placed below closed there in
    grow_failed c.args.under.rows.now c.args.over c.args.start c.args.levels c.args.rows.now c.args.nodes.now.items c.args.rows.now _ _ _ _ 0 _ inv
    (subst (λ f. Sets c.args.levels c.loop-at.tree c.name-name.result c.name-name.result (lister_of c.args.over c.args.start.runs) c.loop-at.nodes.items c.set.new.nodes.items f) c.in-None.is (c.in_ok-found.ensures inv.keeps.closed inv.there))

pub returns : goal.returns
returns c = λ placed below closed there. grow_end c.args.under.rows.now c.args.over c.args.start c.args.levels c.args.rows.now c.args.nodes.now.items _ _ _ _ (drop_all c.loop-at.at-index c.args.rows.now (omega arith)) refl (c.loop-at.invariant placed below closed there)
