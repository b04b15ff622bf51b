use Rattle.std.proofs.Common.{◌≡◌, ◌∙◌, sym, arith}
use Rattle.jr_lookup.specs.Behind.{type_in}
use Rattle.jr_lookup.proofs.Arguing.{argue_start, argue_below, argue_next, argue_stop, argue_unknown, argue_end}
use Rattle.jr_lookup.proofs.look.arguments_from.Goals as goal

pub loop-turn-init : goal.loop-turn-init
loop-turn-init c = λ few tree lt. argue_start c.args.rows.now (type_in c.args.types.now) c.args.place c.args.first _ c.new-all.ensures.items lt

pub loop-turn-preserved : goal.loop-turn-preserved
loop-turn-preserved c = λ few tree lt. let h = c.loop-turn.invariant few tree lt in
    let low = argue_below c.args.rows.now (type_in c.args.types.now) c.args.place c.args.first _ c.loop-turn.child c.loop-turn.all.items c.is_inside.result h c.is_inside.ensures c.if-not-is_inside.false in
    argue_next c.args.rows.now (type_in c.args.types.now) c.args.place c.args.first _ c.loop-turn.child _ c.loop-turn.all.items _ _ c.is_inside.result c.type_at.result (omega arith) tree h c.is_inside.ensures c.if-not-is_inside.false
    c.type_at.ensures c.in-Some.is (c.end_at-child.ensures (omega (arith, low, few))) c.in_ok-push-in-Some.ensures.items

pub returns-then-not-is_inside : goal.returns-then-not-is_inside
returns-then-not-is_inside c = λ few tree lt. argue_stop c.args.rows.now (type_in c.args.types.now) c.args.place c.args.first _ c.loop-turn.child c.loop-turn.all.items c.is_inside.result (c.loop-turn.invariant few tree lt) c.is_inside.ensures c.if-not-is_inside.true

pub returns-in-None : goal.returns-in-None
returns-in-None c = λ few tree lt. argue_unknown c.args.rows.now (type_in c.args.types.now) c.args.place c.args.first _ c.loop-turn.child c.loop-turn.all.items c.is_inside.result c.type_at.result (omega arith) (c.loop-turn.invariant few tree lt)
    c.is_inside.ensures c.if-not-is_inside.false c.type_at.ensures c.in-None.is

pub returns : goal.returns
returns c = λ few tree lt. argue_end c.args.rows.now (type_in c.args.types.now) c.args.place c.args.first _ c.loop-turn.child c.loop-turn.all.items (omega arith) (c.loop-turn.invariant few tree lt)
