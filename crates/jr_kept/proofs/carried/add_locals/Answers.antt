use Rattle.std.proofs.Common.{◌≡◌, ◌∙◌, ap, subst, arith, length}
use Rattle.jr_kept.specs.Carried.{local_if, HasLocals}
use Rattle.jr_kept.proofs.Carrying.{has_locals_more}
use Rattle.jr_kept.proofs.carried.add_locals.Goals as goal

pub loop-number-init : goal.loop-number-init
loop-number-init c = λ bound are. (are, λ k d lt. absurd (omega (arith, lt)))

pub loop-number-preserved : goal.loop-number-preserved
loop-number-preserved c = λ bound are. let inv = c.loop-number.invariant bound are in let adds = c.in_ok-add_if.ensures bound inv.0 in
    (adds.0, has_locals_more c.args.points.now c.args.is_definition c.loop-number.number c.loop-number.all.all.items c.add_if.new.all.all.items c.local_if.result (c.local_if.ensures ∙ ap (local_if c.args.is_definition) c.point_at.ensures) adds.1 inv.1)

pub returns : goal.returns
returns c = λ bound are. let past = c.loop-number-test.false in let near = c.loop-number.auto.number-end in
    let all : c.loop-number.number ≡ length c.args.points.now = omega (arith, past, near) in
    subst (λ n. HasLocals c.args.points.now c.args.is_definition n c.loop-number.all.all.items) all (c.loop-number.invariant bound are).1
