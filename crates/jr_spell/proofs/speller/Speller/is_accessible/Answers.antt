use Rattle.jr_spell.specs.Spellers as tell
use Rattle.jr_spell.proofs.speller.Speller.is_accessible.Goals as goal

pub returns : goal.returns
returns c = λ seen. c.is_accessible.ensures (tell.table_of c.args.self.now) seen.seen
