use Rattle.std.proofs.Common.{◌≡◌, drop}
use Rattle.jr_runs.specs.Marks.{with_casts}
use Rattle.jr_runs.proofs.marking.mark_casts.Given as goal

abbrev pub invariant-loop-ty : goal.invariant-loop-ty
invariant-loop-ty l = with_casts l.rows l.row l.next (drop l.ty-index l.casts) l.fronts ≡ with_casts l.rows l.row l.fn.first l.casts l.fn.fronts
