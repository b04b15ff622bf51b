use Rattle.std.proofs.Common.{◌≡◌, drop}
use Rattle.jr_lookup.specs.Scopes.{first_before}
use Rattle.jr_lookup.proofs.scopes.first_before.Given as goal

abbrev pub invariant-loop-row : goal.invariant-loop-row
invariant-loop-row l = first_before l.place (drop l.row-index l.rows) ≡ first_before l.place l.rows
