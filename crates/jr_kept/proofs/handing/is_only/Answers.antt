use Rattle.std.proofs.Common.{◌≡◌, sym, ◌∙◌, ap, subst, arith, length}
use Rattle.jr_kept.specs.Named.{origin_in}
use Rattle.jr_kept.specs.Handed.{added_in, IsOnly}
use Rattle.jr_kept.proofs.Crossing.{only_more, none_or_tells}
use Rattle.jr_kept.proofs.handing.is_only.Goals as goal

pub loop-number-init : goal.loop-number-init
loop-number-init c = λ i k lt. absurd (omega (arith, lt))

pub loop-number-preserved : goal.loop-number-preserved
loop-number-preserved c = let range = c.args.range in let origin = origin_in c.args.origin.now in
    only_more c.args.points.now range.first range.end origin c.args.row c.loop-number.number c.added_row.result (c.added_row.ensures ∙ ap (added_in range.first range.end origin) c.point_at.ensures) ((none_or_tells c.added_row.result c.args.row).0 (sym c.is_none_or.ensures ∙ c.if-not-is_none_or.false)) c.loop-number.invariant

pub returns-clause-told : goal.returns-clause-told
returns-clause-told c = λ told. let past = c.loop-number-test.false in let near = c.loop-number.auto.number-end in
    let all : c.loop-number.number ≡ length c.args.points.now = omega (arith, past, near) in
    subst (λ n. IsOnly c.args.points.now c.args.range.first c.args.range.end (origin_in c.args.origin.now) c.args.row n) all c.loop-number.invariant

pub returns-then-not-is_none_or-clause-exact : goal.returns-then-not-is_none_or-clause-exact
returns-then-not-is_none_or-clause-exact c = λ h. let range = c.args.range in let lt = c.loop-number-test.true in
    sym c.if-not-is_none_or.true ∙ c.is_none_or.ensures
    ∙ (none_or_tells c.added_row.result c.args.row).1 (λ k e. h c.loop-number.number k (omega (arith, lt)) (sym (c.added_row.ensures ∙ ap (added_in range.first range.end (origin_in c.args.origin.now)) c.point_at.ensures) ∙ e))
