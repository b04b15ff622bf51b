use Rattle.std.proofs.Common.{sym, ◌∙◌, ap}
use Rattle.jr_spell.specs.Spellers.{fit_by}
use Rattle.jr_spell.proofs.speller.Speller.fit_of.Goals as goal

pub returns-then-fits : goal.returns-then-fits
returns-then-fits c = λ seen at. ap (λ b. fit_by b c.args.shape c.args.looked) (sym c.if-fits.true ∙ c.fits.ensures seen at)

pub returns-else-fits : goal.returns-else-fits
returns-else-fits c = λ seen at. ap (λ b. fit_by b c.args.shape c.args.looked) (sym c.if-fits.false ∙ c.fits.ensures seen at)
