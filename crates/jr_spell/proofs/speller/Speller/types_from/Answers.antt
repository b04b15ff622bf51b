use Rattle.std.proofs.Common.{◌≡◌, ◌∙◌, sym, arith}
use Rattle.jr_lookup.proofs.Arguing.{argue_start, argue_below, argue_next, argue_stop, argue_unknown, argue_end}
use Rattle.jr_spell.specs.Spellers.{rows_of, types_of}
use Rattle.jr_spell.proofs.speller.Speller.types_from.Goals as goal

pub loop-turn-init : goal.loop-turn-init
loop-turn-init c = λ whole lt. argue_start (rows_of c.args.self.now) (types_of c.args.self.now) c.args.place c.args.first _ c.new-all.ensures.items lt

pub loop-turn-preserved : goal.loop-turn-preserved
loop-turn-preserved c = λ whole lt. let s = c.args.self.now in let p = rows_of s in let h = c.loop-turn.invariant whole lt in let few = whole.few in
    let low = argue_below p (types_of s) c.args.place c.args.first _ c.loop-turn.child c.loop-turn.all.items c.is_inside.result h c.is_inside.ensures c.if-not-is_inside.false in
    argue_next p (types_of s) c.args.place c.args.first _ c.loop-turn.child _ c.loop-turn.all.items _ _ c.is_inside.result c.type_at.result (omega arith) whole.sight_is.world.seen.placed.local.tree h c.is_inside.ensures
    c.if-not-is_inside.false c.type_at.ensures c.in-Some.is (c.end_at-child.ensures (omega (arith, low, few))) c.in_ok-push-in-Some.ensures.items

pub returns-then-not-is_inside : goal.returns-then-not-is_inside
returns-then-not-is_inside c = λ whole lt. let s = c.args.self.now in
    argue_stop (rows_of s) (types_of s) c.args.place c.args.first _ c.loop-turn.child c.loop-turn.all.items c.is_inside.result (c.loop-turn.invariant whole lt) c.is_inside.ensures c.if-not-is_inside.true

pub returns-in-None : goal.returns-in-None
returns-in-None c = λ whole lt. let s = c.args.self.now in
    argue_unknown (rows_of s) (types_of s) c.args.place c.args.first _ c.loop-turn.child c.loop-turn.all.items c.is_inside.result c.type_at.result (omega arith) (c.loop-turn.invariant whole lt)
    c.is_inside.ensures c.if-not-is_inside.false c.type_at.ensures c.in-None.is

pub returns : goal.returns
returns c = λ whole lt. let s = c.args.self.now in argue_end (rows_of s) (types_of s) c.args.place c.args.first _ c.loop-turn.child c.loop-turn.all.items (omega arith) (c.loop-turn.invariant whole lt)
