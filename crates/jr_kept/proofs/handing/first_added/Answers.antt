use Rattle.std.proofs.Common.{◌≤◌, sym, ◌∙◌, ap, arith, length}
use Rattle.jr_kept.specs.Named.{origin_in}
use Rattle.jr_kept.specs.Handed.{added_in}
use Rattle.jr_kept.proofs.Crossing.{none_added_more, none_added}
use Rattle.jr_kept.proofs.handing.first_added.Goals as goal

pub loop-number-init : goal.loop-number-init
loop-number-init c = λ i k lt. absurd (omega (arith, lt))

pub loop-number-preserved : goal.loop-number-preserved
loop-number-preserved c = let range = c.args.range in let origin = origin_in c.args.origin.now in
    none_added_more c.args.points.now range.first range.end origin c.loop-number.number c.added_row.result (c.added_row.ensures ∙ ap (added_in range.first range.end origin) c.point_at.ensures) c.in-None.is c.loop-number.invariant

pub returns-in-Some-clause-some : goal.returns-in-Some-clause-some
returns-in-Some-clause-some c = let range = c.args.range in record { number = c.loop-number.number; uses = sym (c.added_row.ensures ∙ ap (added_in range.first range.end (origin_in c.args.origin.now)) c.point_at.ensures) ∙ c.in-Some.is }

pub returns-clause-none : goal.returns-clause-none
returns-clause-none c = let range = c.args.range in let past = c.loop-number-test.false in let near = c.loop-number.auto.number-end in
    let all : length c.args.points.now ≤ c.loop-number.number = omega (arith, past, near) in
    none_added c.args.points.now range.first range.end (origin_in c.args.origin.now) c.loop-number.number all c.loop-number.invariant
