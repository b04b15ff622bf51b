use Rattle.jr_run.proofs.Naming.{PathSo}
use Rattle.jr_run.proofs.names.push_path.Given as goal

abbrev pub invariant-loop-turn : goal.invariant-loop-turn
invariant-loop-turn l = PathSo l.rows l.class l._turn l.at l.fn.all.items l.all.items
