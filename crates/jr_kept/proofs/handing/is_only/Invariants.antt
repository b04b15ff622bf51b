use Rattle.jr_kept.specs.Named.{origin_in}
use Rattle.jr_kept.specs.Handed.{IsOnly}
use Rattle.jr_kept.proofs.handing.is_only.Given as goal

abbrev pub invariant-loop-number : goal.invariant-loop-number
invariant-loop-number l = IsOnly l.points l.range.first l.range.end (origin_in l.origin) l.row l.number
