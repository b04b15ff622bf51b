use Rattle.std.proofs.Common.{refl}
use Rattle.jr_codes.specs.Reads.{facts}
use Rattle.jr_elab.proofs.Looped.{behind_is}
use Rattle.jr_elab.proofs.loops.behind.Goals as goal

pub returns-then-is_there : goal.returns-then-is_there
returns-then-is_there c = λ counted. behind_is (facts c.args.source.now) c.args.at c.args.is_there c.if-is_there.true (c.end.ensures (counted c.if-is_there.true))

pub returns-else-is_there : goal.returns-else-is_there
returns-else-is_there c = λ counted. behind_is (facts c.args.source.now) c.args.at c.args.is_there c.if-is_there.false refl
