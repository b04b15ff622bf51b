use Rattle.jr_base.specs.Files.{plain}
use Rattle.jr_engine.proofs.Barring.{difference_unread}
use Rattle.jr_engine.proofs.verdicts.unparsed.Goals as goal

pub returns-in-NoTree : goal.returns-in-NoTree
returns-in-NoTree c = difference_unread (plain c.args.texts.now) c.differs.result c.differs.ensures.difference
