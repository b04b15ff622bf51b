use Rattle.jr_spell.proofs.Leading.{package_alone, package_inside, package_of_type}
use Rattle.jr_spell.proofs.speller.Speller.package_behind.Goals as goal

pub returns-in-Nothing : goal.returns-in-Nothing
returns-in-Nothing c = λ b whole stands number. package_alone c.args.name whole.paths stands number c.in-Nothing.is c.first.result c.first.ensures

pub returns-in-Package : goal.returns-in-Package
returns-in-Package c = λ b whole stands number. package_inside c.args.name c.in-Package.number whole.paths stands number c.in-Package.is c.inside.result c.inside.ensures

pub returns-in-OfType : goal.returns-in-OfType
returns-in-OfType c = λ b whole stands number. package_of_type c.args.name c.in-OfType.field-0 stands c.in-OfType.is
