use Rattle.jr_tree.specs.Rows.{name}
use Rattle.jr_spell.specs.Spellers.{rows_of, table_of}
use Rattle.jr_spell.proofs.Shaped.{is_name_number}
use Rattle.jr_spell.proofs.speller.Speller.method_of.Goals as goal

pub returns : goal.returns
returns c = λ whole sought. let s = c.args.self.now in let r = c.args.reference.now in
    c.method_of.ensures (table_of s) (name (rows_of s) r.name) whole.sight_is.world whole.can (is_name_number s r sought)
