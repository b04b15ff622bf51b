use Rattle.std.proofs.Common.{◌≡◌, ◌++◌}
use Rattle.jr_draft.specs.Packages.{dotted}
use Rattle.jr_draft.proofs.packages.add_dotted.Given as goal

abbrev pub invariant-loop-before : goal.invariant-loop-before
invariant-loop-before l = l.all.items ≡ l.fn.all.items ++ dotted l.rows l.behind l.before
