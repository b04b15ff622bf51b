use Rattle.jr_engine.proofs.Stepping.{large_body}
use Rattle.jr_engine.proofs.edges.is_within_flow.Goals as goal

pub returns-then-is_large : goal.returns-then-is_large
returns-then-is_large c = large_body c.args.workspace.now c.view.result c.in_ok-is_large.is_large c.requires (c.has_few_rows.ensures c.if-not-has_few_rows.false) c.view.ensures.all c.in_ok-is_large.ensures c.if-is_large.true
