use Rattle.std.proofs.Common.{length, ap, ◌∙◌}
use Rattle.jr_index.specs.Marking.{Marked}
use Rattle.jr_index.specs.NodeRows.{unit_rows}
use Rattle.jr_index.proofs.index.Index.units.Goals as goal

pub returns : goal.returns
returns c = c.deref.ensures.value ∙ c.self.invariant.0.starts ∙ ap (λ (v : Marked). unit_rows v.rows (length v.rows)) c.self.view_is
