use Rattle.jr_spell.proofs.Leading.{next_package, next_type, next_none}
use Rattle.jr_spell.proofs.speller.Speller.next.Goals as goal

pub returns-in-Package : goal.returns-in-Package
returns-in-Package c = λ b whole stands number. next_package b c.args.name c.in-Package.is c.package_behind.result (c.package_behind.ensures b whole stands number)

pub returns-in-Declared : goal.returns-in-Declared
returns-in-Declared c = λ b whole stands number. next_type b c.args.name c.in-Declared.is c.in_type.result c.in_type.ensures

pub returns-in_default : goal.returns-in_default
returns-in_default c = λ b whole stands number. next_none b c.args.name c.args.found c.in_default.not-Package c.in_default.not-Declared
