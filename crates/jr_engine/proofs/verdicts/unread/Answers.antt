use Rattle.jr_base.specs.Files.{plain}
use Rattle.jr_engine.proofs.Barring.{difference_unread}
use Rattle.jr_engine.proofs.verdicts.unread.Goals as goal

pub returns-in-Lex : goal.returns-in-Lex
returns-in-Lex c = difference_unread (plain c.args.texts.now) c.differs.result c.differs.ensures.difference
