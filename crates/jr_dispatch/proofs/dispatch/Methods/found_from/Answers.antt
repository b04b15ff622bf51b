use Rattle.std.proofs.Common.{◌≡◌, ap, suc, ◌-◌, length, arith}
use Rattle.jr_dispatch.proofs.Ascending.{climb_start, climb_more, climb_found, climb_top, climb_past}
use Rattle.jr_dispatch.proofs.dispatch.Methods.found_from.Goals as goal

pub loop-turn-init : goal.loop-turn-init
loop-turn-init c = λ t h class m.
    let counted = c.one_more-turns.ensures in
    let same = ap length c.order.ensures in
    let enough : c.one_more-turns.result - 0 ≡ suc (length c.args.self.supers.now.order.items) = omega (arith, counted, same) in
    climb_start c.args.self.under.rows.now t c.args.class c.args.called h.supers.well.headed _ c.args.self.supers.now.order.items _ h.supers.direct h.supers.order enough

pub loop-turn-preserved : goal.loop-turn-preserved
loop-turn-preserved c = λ t h class m. climb_more c.args.self.under.rows.now t c.args.class c.args.called (c.one_more-turns.result - c.loop-turn._turn) _ c.loop-turn.declaring c.in-Some-superclass.over _ _ (omega arith) c.in_default.is
    c.in-Some-superclass.is (c.in_ok-first.ensures t h class m) (c.superclass.ensures c.args.self.under.rows.now t h.supers) (c.loop-turn.invariant t h class m)

pub returns-in-Some : goal.returns-in-Some
returns-in-Some c = λ t h class m. climb_found c.args.self.under.rows.now t c.args.class c.args.called _ _ _ _ c.in-Some.is (c.in_ok-first.ensures t h class m) (c.loop-turn.invariant t h class m)

pub returns-in-None : goal.returns-in-None
returns-in-None c = λ t h class m. climb_top c.args.self.under.rows.now t c.args.class c.args.called _ _ _ _ c.in_default.is c.in-None.is (c.in_ok-first.ensures t h class m) (c.superclass.ensures c.args.self.under.rows.now t h.supers)
    (c.loop-turn.invariant t h class m)

pub returns : goal.returns
returns c = λ t h class m. climb_past c.args.self.under.rows.now t c.args.class c.args.called (c.one_more-turns.result - c.loop-turn._turn) _ _ (omega arith) (c.loop-turn.invariant t h class m)
