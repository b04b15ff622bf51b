-- Above a second node stands the first of its row, above a first node what `above_first` finds.
use Rattle.std.proofs.Common.{◌<◌, ap, ◌∙◌, subst, arith}
use Rattle.jr_index.specs.Marking.{Marked}
use Rattle.jr_index.specs.NodeRows.{IsParentNode}
use Rattle.jr_index.proofs.Above.{above_second}
use Rattle.jr_index.proofs.index.Index.parent.Goals as goal

pub returns-then-found-gt0 : goal.returns-then-found-gt0
returns-then-found-gt0 c =
    let apart = c.if-node-eq0.false in
    let more : 0 < c.args.node.node.0 = omega arith in
    (more, above_second c.args.self.now.rows c.in_ok-found.found.row c.in_ok-found.found.nth c.args.node c.in_ok-found.ensures c.if-found-gt0.true more)

pub returns : goal.returns
returns c =
    let apart = c.if-node-eq0.false in
    (omega arith, subst (λ p. IsParentNode p c.args.node c.above_first.result) (c.deref.ensures.value ∙ ap (λ (v : Marked). v.rows) c.self.view_is) c.above_first.ensures)
