use Rattle.std.proofs.lemmas.Result.{IfOk-weaker}
use Rattle.jr_elab.proofs.reads.children.Goals as goal

pub returns-then-at-count : goal.returns-then-at-count
returns-then-at-count c = IfOk-weaker c.children_below.result _ _ (λ all made. made c.in_ok-count.ensures c.if-at-count.true) c.children_below.ensures
