use Rattle.std.proofs.Common.{length, drop}
use Rattle.jr_places.specs.Places.{ArePlaces}
use Rattle.jr_members.specs.Each.{AreBelow}
use Rattle.jr_members.specs.Nearest.{IsIn, IsClosed, IsGrowing}
use Rattle.jr_members.proofs.nearest.grow.Given as goal

abbrev pub invariant-loop-at : goal.invariant-loop-at
invariant-loop-at l = ArePlaces l.under.rows.now l.under.places.now → AreBelow (length l.under.rows.now) l.rows → IsClosed l.fn.nodes.items → IsIn l.fn.nodes.items l.fn.start.tree
    → IsGrowing l.under.rows.now l.over l.fn.start l.levels l.rows (drop l.at-index l.rows) l.fn.nodes.items l.nodes.items l.tree
