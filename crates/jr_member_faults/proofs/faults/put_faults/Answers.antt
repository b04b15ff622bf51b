use Rattle.std.proofs.Common.{◌≡◌, arith, length, ◌<◌}
use Rattle.jr_faults.proofs.Told.{only_kept, only_more}
use Rattle.jr_member_faults.specs.Faults.{is_on_members}
use Rattle.jr_member_faults.proofs.Told.{faults_start, faults_more, all_told}
use Rattle.jr_member_faults.proofs.faults.put_faults.Goals as goal

pub loop-at-init : goal.loop-at-init
loop-at-init c = ((λ methods d h. faults_start c.args.view.now c.args.out.now.items _ _ d h), only_kept is_on_members c.args.out.now.items)

pub loop-at-preserved : goal.loop-at-preserved
loop-at-preserved c = (
  (λ methods d h. let lt : c.loop-at.at < length c.args.view.now.sight.world.under.rows.now = (let whole = c.in_ok-count.ensures.counted in omega arith) in let row = c.in_ok-any_row_faults.ensures in let inv = c.loop-at.invariant.0 methods d h in
      faults_more c.args.view.now inv (row.declared lt inv.declared_are) (row.headers inv.headers_are) (row.found lt c.in_ok-count.ensures.few methods inv.declared_are inv.headers_are)),
  only_more c.loop-at.invariant.1 c.in_ok-any_row_faults.ensures.only,
)

pub returns-clause-exact : goal.returns-clause-exact
returns-clause-exact c = λ methods d h. let whole : c.loop-at.at ≡ length c.args.view.now.sight.world.under.rows.now = (let whole = c.in_ok-count.ensures.counted in omega arith) in all_told whole (c.loop-at.invariant.0 methods d h)

pub returns-clause-only : goal.returns-clause-only
returns-clause-only c = c.loop-at.invariant.1
