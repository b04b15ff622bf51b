use Rattle.std.proofs.Common.{◌≡◌, inl, ◌∙◌, ap, subst, arith, length}
use Rattle.jr_kept.specs.Handed.{defined_in, PutsAssigned}
use Rattle.jr_kept.proofs.Crossing.{assigned_more}
use Rattle.jr_kept.proofs.Handover.{puts_none_assigned, puts_more_assigned}
use Rattle.jr_kept.proofs.handing.Handing.put_assigned.Goals as goal

pub loop-number-init : goal.loop-number-init
loop-number-init c = let range = c.args.range in (λ d k e. inl e, puts_none_assigned c.args.self.now c.args.points.now range.first range.end c.args.from)

pub loop-number-preserved : goal.loop-number-preserved
loop-number-preserved c = let range = c.args.range in let points = c.args.points.now in let number = c.loop-number.number in (
  assigned_more c.args.self.now c.loop-number.self c.put_one.new.self points range.first range.end number c.defined_row.result c.args.from (c.defined_row.ensures ∙ ap (defined_in range.first range.end) c.point_at.ensures) c.loop-number.invariant.0 c.put_one.ensures.adds,
  puts_more_assigned c.args.self.now c.loop-number.self c.put_one.new.self points range.first range.end number c.defined_row.result c.args.from (c.defined_row.ensures ∙ ap (defined_in range.first range.end) c.point_at.ensures) c.loop-number.invariant.1 c.put_one.ensures.puts,
)

pub returns-clause-adds : goal.returns-clause-adds
returns-clause-adds c = c.loop-number.invariant.0

pub returns-clause-puts : goal.returns-clause-puts
returns-clause-puts c = let past = c.loop-number-test.false in let near = c.loop-number.auto.number-end in let range = c.args.range in
    let all : c.loop-number.number ≡ length c.args.points.now = omega (arith, past, near) in
    subst (λ n. PutsAssigned c.args.self.now c.loop-number.self c.args.points.now range.first range.end c.args.from n) all c.loop-number.invariant.1
