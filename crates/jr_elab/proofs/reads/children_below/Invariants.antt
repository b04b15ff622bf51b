use Rattle.jr_codes.specs.Reads.{rows_of}
use Rattle.jr_elab.proofs.Children.{ChildrenSo}
use Rattle.jr_elab.proofs.reads.children_below.Given as goal

abbrev pub invariant-loop-turn : goal.invariant-loop-turn
invariant-loop-turn l = ChildrenSo (rows_of l.source) l.at l.count l._turn l.child l.all.items
