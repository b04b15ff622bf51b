use Rattle.std.proofs.Common.{sym, ◌∙◌, ap, subst, length, arith}
use Rattle.jr_defs.specs.Referents.{entries}
use Rattle.jr_runs.specs.Planned.{seen_plan}
use Rattle.jr_runs.specs.Respelled.{AllStand}
use Rattle.jr_runs.proofs.Firsts.{stand_more, stand_here}
use Rattle.jr_runs.proofs.compare.first_other.Goals as goal

pub returns-then-not-stands-clause-some : goal.returns-then-not-stands-clause-some
returns-then-not-stands-clause-some c = λ h. sym (c.stands.ensures.whole (stand_here c.as_slice-items.result.now _ h c.as_slice-items.ensures.value c.loop-at-test.true)) ∙ c.if-not-stands.true

pub loop-at-preserved : goal.loop-at-preserved
loop-at-preserved c =
    stand_more c.as_slice-items.result.now _ c.loop-at.invariant c.as_slice-items.ensures.value c.loop-at-test.true (c.stands.ensures.sound c.if-not-stands.false)

pub returns-clause-none : goal.returns-clause-none
returns-clause-none c = λ h. subst (AllStand c.args.rows.now (seen_plan c.args.plan.now) c.args.new_rows.now (entries c.args.new_table.now))
    (let e = ap length c.as_slice-items.ensures.value in omega (arith, e, c.loop-at-test.false, c.loop-at.auto.at-end)) c.loop-at.invariant
