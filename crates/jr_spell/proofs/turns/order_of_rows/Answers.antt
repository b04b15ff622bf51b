use Rattle.std.proofs.Common.{◌≡◌, subst, arith, true, false, get_or}
use Rattle.std.specs.List.{Contains}
use Rattle.jr_spell.proofs.Turning.{in_more, in_all}
use Rattle.jr_spell.proofs.turns.order_of_rows.Goals as goal

pub loop-at-init : goal.loop-at-init
loop-at-init c = (λ n e. subst (λ xs. Contains xs n) c.deref.ensures.value (c.in_ok-marks.ensures n e), λ n lt seeks. absurd (omega arith))

pub loop-at-preserved : goal.loop-at-preserved
loop-at-preserved c = in_more c.args.rows.now c.in_ok-marks.marks.items c.loop-at.order.items c.add_left_out.new.order.items c.loop-at.at c.loop-at.invariant c.in_ok-add_left_out.ensures.keeps (c.in_ok-add_left_out.ensures.there (λ e. c.loop-at.invariant.0 c.loop-at.at (subst (λ xs. get_or xs c.loop-at.at false ≡ true) c.deref-in-loop-at.ensures.value e)))

pub returns : goal.returns
returns c = λ n seeks. in_all c.args.rows.now c.in_ok-marks.marks.items c.loop-at.order.items c.loop-at.at c.loop-at.invariant (omega arith) n seeks
