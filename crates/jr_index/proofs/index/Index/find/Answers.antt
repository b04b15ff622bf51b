use Rattle.std.proofs.Common.{ap, ◌∙◌, subst, MatchOption}
use Rattle.jr_index.specs.Marking.{Marked}
use Rattle.jr_index.specs.NodeRows.{IsNodeOf, IsNowhere}
use Rattle.jr_index.proofs.index.Index.find.Goals as goal

pub returns : goal.returns
returns c =
    subst (λ p. MatchOption c.find_row.result (IsNowhere p c.args.node) (λ found. IsNodeOf p found.row found.nth c.args.node))
    (c.deref.ensures.value ∙ ap (λ (v : Marked). v.rows) c.self.view_is) c.find_row.ensures
