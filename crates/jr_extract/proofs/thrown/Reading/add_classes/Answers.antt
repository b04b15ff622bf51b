use Rattle.std.proofs.Common.{arith}
use Rattle.std.proofs.lemmas.List.{drop_more, drop_all}
use Rattle.jr_extract.specs.Throwing.{is_told}
use Rattle.jr_extract.proofs.Throws.{classes_end, classes_next}
use Rattle.jr_extract.proofs.thrown.Reading.add_classes.Goals as goal

pub loop-class-preserved : goal.loop-class-preserved
loop-class-preserved c = λ reading inside. classes_next (is_told c.args.self.now c.args.at) _ _ _ _ _ _ (drop_more c.args.classes.now c.loop-class.class-index _ (omega arith)) (c.in_ok-add_class.ensures reading inside) (c.loop-class.invariant reading inside)

pub returns : goal.returns
returns c = λ reading inside. classes_end (is_told c.args.self.now c.args.at) _ _ _ (drop_all c.loop-class.class-index c.args.classes.now (omega arith)) (c.loop-class.invariant reading inside)
