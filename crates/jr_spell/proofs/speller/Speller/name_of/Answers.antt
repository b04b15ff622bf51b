use Rattle.jr_spell.specs.Spellers.{rows_of}
use Rattle.jr_spell.proofs.Shaped.{number_found}
use Rattle.jr_spell.proofs.speller.Speller.name_of.Goals as goal

pub returns : goal.returns
returns c = λ whole target lt. let p = rows_of c.args.self.now in
    number_found p c.args.at c.args.lock lt target c.named_by.result c.name.result c.named_by.ensures (λ below. c.name.ensures p whole.sight_is.world.seen.placed.are below)
