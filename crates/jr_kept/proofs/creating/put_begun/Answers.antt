use Rattle.std.proofs.lemmas.Result.{err_from_is_err_and}
use Rattle.jr_kept.specs.Started.{BeginsFirst}
use Rattle.jr_kept.proofs.Begun.{never_some}
use Rattle.jr_kept.proofs.creating.put_begun.Goals as goal

pub loop-row-init : goal.loop-row-init
loop-row-init c = (λ h. h, λ m seen none apart. none)

pub loop-row-preserved : goal.loop-row-preserved
loop-row-preserved c = (
  λ h. c.loop-row.invariant.0 (c.put_to.ensures.adds h),
  λ m seen none apart. c.put_to.ensures.kept (never_some (BeginsFirst c.args.old.now.marks.rows.now m c.args.local) c.in_ok-second.second (c.in_ok-second.ensures.begins m seen) apart) (c.loop-row.invariant.1 m seen none apart),
)

pub returns-clause-adds : goal.returns-clause-adds
returns-clause-adds c = c.loop-row.invariant.0

pub returns-clause-kept : goal.returns-clause-kept
returns-clause-kept c = λ m seen. c.loop-row.invariant.1 m seen

pub returns-in_err-second-clause-large : goal.returns-in_err-second-clause-large
returns-in_err-second-clause-large c = λ m seen. let q = err_from_is_err_and c.from_residual.result c.from_residual.ensures.1 in rw (q.1, q.2) (c.in_err-second.ensures.large m seen)
