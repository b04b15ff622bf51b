use Rattle.std.proofs.Common.{sym, ◌∙◌, refl, arith}
use Rattle.jr_members.proofs.Ways.{ways_start, ways_listed, ways_on, ways_top, ways_past}
use Rattle.jr_members.proofs.named.way_up.Goals as goal

pub loop-turn-init : goal.loop-turn-init
loop-turn-init c = λ t kind seen can. ways_start c.args.under.rows.now t c.args.under.places.now c.args.supers.now seen kind c.args.lists.now c.args.over c.args.name can _ c.from-way.ensures

pub returns-then-is_listed : goal.returns-then-is_listed
returns-then-is_listed c = λ t kind seen can. ways_listed c.args.under.rows.now t c.args.under.places.now c.args.supers.now seen kind c.args.lists.now c.args.over c.args.name can c.loop-turn._turn _ (c.loop-turn.invariant t kind seen can)
    (sym c.is_listed.ensures ∙ c.if-is_listed.true)

pub returns-in-None : goal.returns-in-None
returns-in-None c = λ t kind seen can. ways_top c.args.under.rows.now t c.args.under.places.now c.args.supers.now seen kind c.args.lists.now c.args.over c.args.name can c.loop-turn._turn _ (c.loop-turn.invariant t kind seen can) (sym c.in-None.ensures)

pub loop-turn-preserved : goal.loop-turn-preserved
loop-turn-preserved c = λ t kind seen can. ways_on c.args.under.rows.now t c.args.under.places.now c.args.supers.now seen kind c.args.lists.now c.args.over c.args.name can c.loop-turn._turn _ _ _ (c.loop-turn.invariant t kind seen can)
    (sym c.is_listed.ensures ∙ c.if-is_listed.false) (sym c.in-Some.ensures) (c.next-way.ensures seen.placed)

pub returns : goal.returns
returns c = λ t kind seen can. ways_past c.args.under.rows.now t c.args.under.places.now c.args.supers.now seen kind c.args.lists.now c.args.over c.args.name can c.loop-turn._turn _ (c.loop-turn.invariant t kind seen can) (let e = c.turns-turn-end.ensures in omega arith)
