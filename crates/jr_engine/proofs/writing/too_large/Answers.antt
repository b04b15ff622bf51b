use Rattle.jr_base.specs.Files.{plain}
use Rattle.jr_engine.proofs.writing.too_large.Goals as goal

pub returns-in-Err : goal.returns-in-Err
returns-in-Err c = c.size_or.ensures (plain c.args.texts.now) c.requires.large c.in-Err.ensures
