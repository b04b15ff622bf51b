use Rattle.std.proofs.Common.{◌≡◌, ◌-◌}
use Rattle.jr_flow_defs.specs.Kept.{statement_round}
use Rattle.jr_kept.proofs.handing.statement_round.Given as goal

abbrev pub invariant-loop-turn : goal.invariant-loop-turn
invariant-loop-turn l = statement_round l.rows l.row l.row ≡ statement_round l.rows (l.row - l._turn) l.at
