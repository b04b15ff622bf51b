use Rattle.std.proofs.lemmas.Result.{IfOk-weaker}
use Rattle.jr_tree.specs.Rows.{name}
use Rattle.jr_spell.specs.Spellers.{rows_of, table_of}
use Rattle.jr_spell.proofs.Called.{alone_found}
use Rattle.jr_spell.proofs.Named.{headed}
use Rattle.jr_spell.proofs.Shaped.{is_name_number}
use Rattle.jr_spell.proofs.speller.Speller.method_alone.Goals as goal

pub returns : goal.returns
returns c = λ whole sought. let s = c.args.self.now in let p = rows_of s in let t = table_of s in let r = c.args.reference.now in
    IfOk-weaker c.method.result _ _ (λ a h. alone_found p t (headed s whole) r.row c.args.arguments.now (name p r.name) a h)
    (c.method.ensures t (name p r.name) whole.sight_is whole.can (is_name_number s r sought))
