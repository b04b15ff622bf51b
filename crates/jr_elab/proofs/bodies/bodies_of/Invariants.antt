use Rattle.jr_tree.specs.Rows.{label}
use Rattle.jr_plain.specs.Search.{all_such}
use Rattle.jr_codes.specs.Reads.{rows_of, facts}
use Rattle.jr_expressions.specs.Bodies.{BodyAt}
use Rattle.jr_elab.specs.Cores.{AreEach, declares_body}
use Rattle.jr_elab.specs.Stacked.{AreRead}
use Rattle.jr_elab.proofs.bodies.bodies_of.Given as goal

abbrev pub invariant-loop-at : goal.invariant-loop-at
invariant-loop-at l = AreRead l.source → AreEach (BodyAt (facts l.source)) (all_such l.at (λ n. declares_body (label (rows_of l.source) n))) l.bodies
