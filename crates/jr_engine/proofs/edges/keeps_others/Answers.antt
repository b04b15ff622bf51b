use Rattle.jr_engine.proofs.edges.keeps_others.Goals as goal

pub returns-then-are_kept-clause-ok : goal.returns-then-are_kept-clause-ok
returns-then-are_kept-clause-ok c = c.in_ok-are_kept.ensures c.if-are_kept.true
