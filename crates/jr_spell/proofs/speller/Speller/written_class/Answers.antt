use Rattle.std.proofs.Common.{arith}
use Rattle.jr_spell.proofs.Casting.{type_some, type_none}
use Rattle.jr_spell.proofs.speller.Speller.written_class.Goals as goal

pub returns-in-Some : goal.returns-in-Some
returns-in-Some c = λ whole inside. type_some c.args.ty (c.in_ok-added.ensures whole (omega arith) inside) c.in-Some.found c.in-Some.is _ c.type_name.ensures

pub returns-in-None : goal.returns-in-None
returns-in-None c = λ whole inside. type_none c.args.ty (c.in_ok-added.ensures whole (omega arith) inside) c.in-None.is
