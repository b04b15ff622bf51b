use Rattle.std.proofs.Common.{refl}
use Rattle.jr_spell.proofs.Shaped.{fit_looked, fit_nowhere}
use Rattle.jr_spell.proofs.speller.Speller.fit_found.Goals as goal

pub returns-in-Some : goal.returns-in-Some
returns-in-Some c = λ all seen at looked. let r = c.args.reference.now in fit_looked c.args.self.now r.row r refl c.args.shape looked c.in-Some.way c.in-Some.is c.fit_of.result (c.fit_of.ensures seen at)

pub returns-in-None : goal.returns-in-None
returns-in-None c = λ all seen at looked. fit_nowhere c.args.self.now c.args.reference.now.row looked c.in-None.is
