use Rattle.jr_base.specs.Files.{plain}
use Rattle.jr_engine.proofs.writing.is_right.Goals as goal

pub returns : goal.returns
returns c = c.is_as_spelled.ensures.bars (plain c.args.texts.now)
