use Rattle.std.proofs.Common.{arith, refl}
use Rattle.jr_dispatch.proofs.Descending.{member_start, member_next, member_found, member_end}
use Rattle.jr_dispatch.proofs.dispatch.Methods.is_member.Goals as goal

pub loop-turn-init : goal.loop-turn-init
loop-turn-init c = λ t h class m. member_start c.args.self.under.rows.now t c.args.class c.args.method h.supers.well.headed _ _ _ _ _ _ class h.supers.order c.order-order.ensures c.in_ok-met.ensures (c.add.ensures _ c.in_ok-met.ensures.counted)

pub loop-turn-preserved : goal.loop-turn-preserved
loop-turn-preserved c = λ t h class m. let inv = c.loop-turn.invariant t h class m in
    member_next c.args.self.under.rows.now t c.args.class c.args.method h.supers.well.headed _ _ _ c.loop-turn.turn _ _ _ _ _ _ _ h.supers.direct h.supers.order c.order-order.ensures (omega arith) refl refl refl c.if-is_found.false inv
    (c.in_ok-is_found.ensures t h m inv.counted)

pub returns-then-is_found : goal.returns-then-is_found
returns-then-is_found c = λ t h class m. let inv = c.loop-turn.invariant t h class m in
    member_found c.args.self.under.rows.now t c.args.class c.args.method h.supers.well.headed _ _ _ _ _ c.if-is_found.true inv (c.in_ok-is_found.ensures t h m inv.counted)

pub returns : goal.returns
returns c = λ t h class m. member_end c.args.self.under.rows.now t c.args.class c.args.method h.supers.well.headed _ c.loop-turn.turn _ (omega arith) class h.class (c.loop-turn.invariant t h class m)
