use Rattle.std.proofs.Common.{◌≡◌, ◌+◌, ◌<◌, ◌^◌, arith, length}
use Rattle.jr_type_facts.specs.Facts.{rows_of}
use Rattle.jr_type_faults.specs.Faults.{type_rules}
use Rattle.jr_type_faults.proofs.Told.{only_start, only_more, faults_start, faults_more, faults_told}
use Rattle.jr_type_faults.proofs.faults.push_rows.Goals as goal

pub loop-at-init : goal.loop-at-init
loop-at-init c = ((λ can. faults_start c.args.facts.now.view c.args.out.now.items), only_start type_rules c.args.out.now.items)

pub loop-at-preserved : goal.loop-at-preserved
loop-at-preserved c = ((λ can. let whole = c.in_ok-count.ensures in let few = can.right.seen.sized.few in let small : c.loop-at.at + 1 < 2 ^ 32 = omega arith in faults_more (c.loop-at.invariant.0 can) (c.in_ok-push_row.ensures.exact can small)), only_more c.loop-at.invariant.1 c.in_ok-push_row.ensures.only)

pub returns-clause-exact : goal.returns-clause-exact
returns-clause-exact c = λ can. let whole : c.loop-at.at ≡ length (rows_of c.args.facts.now) = (let whole = c.in_ok-count.ensures in omega arith) in faults_told whole (c.loop-at.invariant.0 can)

pub returns-clause-only : goal.returns-clause-only
returns-clause-only c = c.loop-at.invariant.1
