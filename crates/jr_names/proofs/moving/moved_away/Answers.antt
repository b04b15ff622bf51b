use Rattle.jr_names.proofs.Moved.{away_apart, away_whole}
use Rattle.jr_names.proofs.moving.moved_away.Goals as goal

pub returns-then-has_others-clause-ok : goal.returns-then-has_others-clause-ok
returns-then-has_others-clause-ok c = away_apart c.args.marks.now c.args.of.now.row c.args.of.now.named.now c.args.of.now.head _ _ c.has_others.ensures c.if-has_others.true c.moved_apart.ensures.ok

pub returns-else-has_others-clause-ok : goal.returns-else-has_others-clause-ok
returns-else-has_others-clause-ok c = away_whole c.args.marks.now c.args.of.now.row c.args.of.now.named.now c.args.of.now.head _ _ c.has_others.ensures c.if-has_others.false c.moved_whole.ensures.ok
