use Rattle.std.proofs.Common.{ap, ◌∙◌}
use Rattle.jr_index.specs.Marking.{Marked}
use Rattle.jr_index.proofs.Nesting.{within_seen}
use Rattle.jr_index.proofs.index.Index.marks.Goals as goal

pub returns-clause-marks : goal.returns-clause-marks
returns-clause-marks c = c.deref.ensures.value ∙ ap (λ (v : Marked). v.marks) c.self.view_is

pub returns-clause-within : goal.returns-clause-within
returns-clause-within c = within_seen c.self.invariant.1 (ap (λ (v : Marked). v.rows) c.self.view_is) c.deref.ensures.value
