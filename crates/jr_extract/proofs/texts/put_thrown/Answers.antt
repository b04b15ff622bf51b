use Rattle.std.proofs.Common.{arith}
use Rattle.std.proofs.lemmas.List.{drop_more, drop_all}
use Rattle.jr_tree.specs.Rows.{name}
use Rattle.jr_extract.proofs.Adding.{separated_end, separated_next}
use Rattle.jr_extract.proofs.texts.put_thrown.Goals as goal

pub loop-class-preserved : goal.loop-class-preserved
loop-class-preserved c = separated_next (name c.args.rows.now) _ _ _ _ _ _ _ (drop_more c.args.classes.now c.loop-class.class-index _ (omega arith)) c.in_ok-put_name.ensures c.loop-class.invariant

pub returns : goal.returns
returns c = separated_end (name c.args.rows.now) _ _ _ _ (drop_all c.loop-class.class-index c.args.classes.now (omega arith)) c.loop-class.invariant
