use Rattle.std.proofs.Common.{◌≡◌, ◌+◌, ◌≤◌, length}
use Rattle.jr_parse_laws.specs.Parsers.{kinds}
use Rattle.jr_parse_expr.specs.Names as spec
use Rattle.jr_parse_expr.proofs.name.dims.Given as goal

abbrev pub invariant-pairs : goal.invariant-pairs
invariant-pairs l = record {
  same : spec.dims (kinds l.initial.cursor) ≡ spec.counted l.pairs (spec.pairs (kinds l.cursor));
  few : l.pairs + length l.cursor.rest.now ≤ length l.initial.cursor.rest.now;
}

abbrev pub decreases-pairs : goal.decreases-pairs
decreases-pairs l = length l.cursor.rest.now
