use Rattle.std.proofs.Common.{◌∙◌}
use Rattle.jr_spell.specs.Spellers.{rows_of, table_of}
use Rattle.jr_spell.proofs.ByObject.{here_some, here_none}
use Rattle.jr_spell.proofs.speller.Speller.innermost_level.Goals as goal

pub returns-in-Some : goal.returns-in-Some
returns-in-Some c = λ seen at. let s = c.args.self.now in let r = c.args.reference.now in
    c.only_same.ensures ∙ here_some (rows_of s) (table_of s) r.row r.lock c.level.result c.in-Some.level c.instance_round.result at.lock_is c.level.ensures c.in-Some.is (c.instance_round.ensures seen)

pub returns-in-None : goal.returns-in-None
returns-in-None c = λ seen at. let s = c.args.self.now in let r = c.args.reference.now in here_none (rows_of s) (table_of s) r.row r.lock c.level.result at.lock_is c.level.ensures c.in-None.is
