use Rattle.std.proofs.Common.{refl, sym, ◌∙◌, arith, length, ◌-◌}
use Rattle.std.proofs.lemmas.Bool.{false≢true}
use Rattle.jr_members.specs.Near.{IsSubclass}
use Rattle.jr_members.proofs.Rounded.{around_is, rise_start, rise_next, rise_here, rise_out, rise_past}
use Rattle.jr_members.proofs.members.World.is_in_subclass.Goals as goal

pub loop-turn-init : goal.loop-turn-init
loop-turn-init c = λ t h. let p = c.args.self.under.rows.now in let tree = h.above.well.headed.tree in
    rise_start p tree (IsSubclass p t c.args.declaring c.args.at c.args.receiver) c.args.place _ _ (c.around-around.ensures ∙ around_is p tree _ c.args.place h.placed.are.arounds_are) (omega arith)

pub returns-in_default : goal.returns-in_default
returns-in_default c = λ t h. let p = c.args.self.under.rows.now in let tree = h.above.well.headed.tree in let inv = c.loop-turn.invariant t h in
    ((λ e. absurd (false≢true e)), λ k. absurd (rise_out p tree (IsSubclass p t c.args.declaring c.args.at c.args.receiver) c.args.place _ _ c.in_default.is inv k.subclass k.body k.is))

pub returns-then-is_subclass : goal.returns-then-is_subclass
returns-then-is_subclass c = λ t h. let p = c.args.self.under.rows.now in let tree = h.above.well.headed.tree in let inv = c.loop-turn.invariant t h in
    ((λ e. record { subclass = c.in-Some.here; body = rise_here p tree (IsSubclass p t c.args.declaring c.args.at c.args.receiver) c.args.place _ _ c.in-Some.here c.in-Some.is inv; is = (c.is_subclass-is_subclass.ensures t h.above).0 c.if-is_subclass.true }), λ k. refl)

pub loop-turn-preserved : goal.loop-turn-preserved
loop-turn-preserved c = λ t h. let p = c.args.self.under.rows.now in let tree = h.above.well.headed.tree in
    rise_next p tree (IsSubclass p t c.args.declaring c.args.at c.args.receiver) c.args.place _ _ (length p - c.loop-turn._turn) _ c.in-Some.here c.in-Some.is (c.around-around-in-loop-turn.ensures ∙ around_is p tree _ c.in-Some.here h.placed.are.arounds_are) (omega arith)
    (λ k. false≢true (sym c.if-is_subclass.false ∙ (c.is_subclass-is_subclass.ensures t h.above).1 k)) (c.loop-turn.invariant t h)

pub returns : goal.returns
returns c = λ t h. let p = c.args.self.under.rows.now in let tree = h.above.well.headed.tree in
    ((λ e. absurd (false≢true e)), λ k. absurd (rise_past p tree (IsSubclass p t c.args.declaring c.args.at c.args.receiver) c.args.place _ (length p - c.loop-turn._turn) (omega arith) (c.loop-turn.invariant t h) k.subclass k.body k.is))
