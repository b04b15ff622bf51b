use Rattle.std.proofs.Common.{◌≡◌, ◌+◌, ◌<◌, ◌^◌, All, drop}
use Rattle.jr_package.specs.Repackaging.{with_imports}
use Rattle.jr_package.proofs.moving.add_rows.Given as goal

abbrev pub invariant-loop-at : goal.invariant-loop-at
invariant-loop-at l = All (λ at. at + 1 < 2 ^ 32) l.imports
    → with_imports l.marks.rows.now l.to l.unit l.from (drop l.at-index l.imports) l.draft ≡ with_imports l.marks.rows.now l.to l.unit l.first l.imports l.fn.draft
