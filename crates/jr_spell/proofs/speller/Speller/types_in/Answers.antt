use Rattle.std.proofs.lemmas.Result.{IfOk-weaker}
use Rattle.jr_spell.specs.Spellers.{rows_of, table_of}
use Rattle.jr_spell.proofs.Named.{tops_behind, no_tops, path_row, path_none}
use Rattle.jr_spell.proofs.speller.Speller.types_in.Goals as goal

pub returns-in-Some : goal.returns-in-Some
returns-in-Some c = λ path whole is number. let s = c.args.self.now in let p = rows_of s in let t = table_of s in let at = path_row c.in-Some.row is c.in-Some.is in
    IfOk-weaker c.types_beside.result _ _ (λ found lists. tops_behind p t c.args.name number c.in-Some.row path found.items at.1 lists) (c.types_beside.ensures whole at.0)

pub returns-in-None : goal.returns-in-None
returns-in-None c = λ path whole is number. let s = c.args.self.now in let p = rows_of s in let t = table_of s in
    no_tops p t c.args.name number path _ c.new.ensures.items (path_none is c.in-None.is)
