use Rattle.jr_dispatch.specs.Methods.{IsWholeWorld}
use Rattle.jr_plain.specs.Declarations.{is_type}
use Rattle.jr_plain.specs.Search.{all_such}
use Rattle.jr_codes.specs.Reads.{rows_of, table_of, facts}
use Rattle.jr_elab.specs.Cores.{AreEach, IsClassOf}
use Rattle.jr_elab.proofs.classes.classes_of.Given as goal

abbrev pub invariant-loop-at : goal.invariant-loop-at
invariant-loop-at l = IsWholeWorld (table_of l.source) l.source.view.now.sight.world → AreEach (IsClassOf (facts l.source)) (all_such l.at (λ c. is_type (rows_of l.source) c)) l.classes
