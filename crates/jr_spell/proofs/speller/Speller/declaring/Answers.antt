use Rattle.std.proofs.Common.{◌∙◌}
use Rattle.jr_spell.specs.Spellers.{rows_of, table_of}
use Rattle.jr_spell.proofs.ByObject.{declaring_some, declaring_none}
use Rattle.jr_spell.proofs.speller.Speller.declaring.Goals as goal

pub returns-in-Some : goal.returns-in-Some
returns-in-Some c = λ at. let s = c.args.self.now in let r = c.args.reference.now in
    c.declaring_type.ensures ∙ declaring_some (rows_of s) (table_of s) r.row r.lock c.target.result c.in-Some.target at.lock_is c.target.ensures c.in-Some.is

pub returns-in-None : goal.returns-in-None
returns-in-None c = λ at. let s = c.args.self.now in let r = c.args.reference.now in declaring_none (rows_of s) (table_of s) r.row r.lock c.target.result at.lock_is c.target.ensures c.in-None.is
