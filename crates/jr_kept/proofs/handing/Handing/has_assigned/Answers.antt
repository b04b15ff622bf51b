use Rattle.std.proofs.Common.{◌≡◌, sym, ◌∙◌, ap, subst, arith, length}
use Rattle.jr_kept.specs.Handed.{defined_in, HasAssigned}
use Rattle.jr_kept.proofs.Crossing.{has_assigned_more, from_tells}
use Rattle.jr_kept.proofs.handing.Handing.has_assigned.Goals as goal

pub loop-number-init : goal.loop-number-init
loop-number-init c = λ i d lt. absurd (omega (arith, lt))

pub loop-number-preserved : goal.loop-number-preserved
loop-number-preserved c = let range = c.args.range in
    has_assigned_more c.args.self.now c.args.points.now range.first range.end c.args.from c.loop-number.number c.defined_row.result (c.defined_row.ensures ∙ ap (defined_in range.first range.end) c.point_at.ensures) ((from_tells c.args.self.now c.defined_row.result c.args.from).0 (sym c.is_from.ensures ∙ c.if-not-is_from.false)) c.loop-number.invariant

pub returns-clause-told : goal.returns-clause-told
returns-clause-told c = λ told. let past = c.loop-number-test.false in let near = c.loop-number.auto.number-end in
    let all : c.loop-number.number ≡ length c.args.points.now = omega (arith, past, near) in
    subst (λ n. HasAssigned c.args.self.now c.args.points.now c.args.range.first c.args.range.end c.args.from n) all c.loop-number.invariant

pub returns-then-not-is_from-clause-exact : goal.returns-then-not-is_from-clause-exact
returns-then-not-is_from-clause-exact c = λ h. let range = c.args.range in let lt = c.loop-number-test.true in
    sym c.if-not-is_from.true ∙ c.is_from.ensures
    ∙ (from_tells c.args.self.now c.defined_row.result c.args.from).1 (λ d e. h c.loop-number.number d (omega (arith, lt)) (sym (c.defined_row.ensures ∙ ap (defined_in range.first range.end) c.point_at.ensures) ∙ e))
