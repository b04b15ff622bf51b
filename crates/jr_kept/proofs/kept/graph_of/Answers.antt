use Rattle.std.proofs.Common.{◌<◌, sym, subst, length}
use Rattle.std.proofs.lemmas.Result.{IfOk-weaker}
use Rattle.jr_tree.specs.Tree.{IsTree}
use Rattle.jr_flow.specs.Coded.{IsTooLarge}
use Rattle.jr_flow.specs.Reached.{IsGraphOf}
use Rattle.jr_flow.specs.Views.{rows_in}
use Rattle.jr_kept.specs.Courses.{HasLarge}
use Rattle.jr_kept.proofs.Large.{large_err}
use Rattle.jr_kept.proofs.kept.graph_of.Goals as goal

pub returns-clause-graph : goal.returns-clause-graph
returns-clause-graph c = λ m seen few. let body = c.args.body in
    IfOk-weaker c.graph.result _ _ (λ made is. (is.0, subst (λ p. IsGraphOf p m made) seen.rows is.1))
    (c.graph.ensures.graph m seen.view (subst IsTree (sym seen.rows) seen.tree) (subst (λ p. body < length p) (sym seen.rows) few))

pub returns-clause-large : goal.returns-clause-large
returns-clause-large c = λ m seen few. let body = c.args.body in let rows = c.args.project.now.marks.rows.now in
    large_err c.graph.result (IsTooLarge (rows_in c.args.project.now.view) m body) (HasLarge rows m) (λ large. record { body = body; few = few; large = subst (λ p. IsTooLarge p m body) seen.rows large })
    (c.graph.ensures.large m seen.view (subst IsTree (sym seen.rows) seen.tree) (subst (λ p. body < length p) (sym seen.rows) few))
