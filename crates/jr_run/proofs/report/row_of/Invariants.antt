use Rattle.std.proofs.Common.{◌≡◌, ℕ, ◌<◌, false}
use Rattle.jr_codes.specs.Reads.{facts, rows_of}
use Rattle.jr_run.specs.Reports.{is_known_by}
use Rattle.jr_run.proofs.report.row_of.Given as goal

abbrev pub invariant-loop-at : goal.invariant-loop-at
invariant-loop-at l = (k : ℕ) → k < l.at → is_known_by (rows_of l.source) (facts l.source).decl l.decl k ≡ false
