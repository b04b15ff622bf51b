use Rattle.std.proofs.Common.{◌≡◌, refl, ◌∙◌, arith, length}
use Rattle.jr_member_faults.specs.Views.{rows_of}
use Rattle.jr_member_faults.proofs.Nearing.{apart_start, apart_next, apart_end}
use Rattle.jr_member_faults.proofs.redefining.Uppers.set_all_apart.Goals as goal

pub loop-row-init : goal.loop-row-init
loop-row-init c = (refl, λ h th d. apart_start c.args.redefining.world.now _)

pub loop-row-preserved : goal.loop-row-preserved
loop-row-preserved c = (c.in_ok-set_apart.ensures.signed ∙ c.loop-row.invariant.0, λ h th d. apart_next c.args.redefining.world.now c.loop-row.row _ _ (c.loop-row.invariant.1 h th d) (c.in_ok-set_apart.ensures.kept h th d))

pub returns-clause-signed : goal.returns-clause-signed
returns-clause-signed c = c.loop-row.invariant.0

pub returns-clause-kept : goal.returns-clause-kept
returns-clause-kept c = λ h th. let whole : c.loop-row.row ≡ length (rows_of c.args.redefining.world.now) = omega arith in
    apart_end c.args.redefining.world.now c.loop-row.row _ whole (c.loop-row.invariant.1 h th (c.in_ok-descent.ensures h))
