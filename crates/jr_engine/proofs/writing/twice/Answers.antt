use Rattle.jr_base.specs.Files.{plain}
use Rattle.jr_engine.proofs.Barring.{unread_bars}
use Rattle.jr_engine.proofs.writing.twice.Goals as goal

pub returns-in-Ok : goal.returns-in-Ok
returns-in-Ok c = c.twice_in.ensures (plain c.args.texts.now) c.in-Ok.ensures.ok c.requires.small c.requires.twice

pub returns-in-Err : goal.returns-in-Err
returns-in-Err c = unread_bars (plain c.args.texts.now) c.unread.result c.unread.ensures
