use Rattle.std.proofs.lemmas.Result.{IfOk-weaker}
use Rattle.jr_tree.specs.Rows.{name}
use Rattle.jr_spell.specs.Spellers.{rows_of, table_of}
use Rattle.jr_spell.proofs.Called.{of_type_found}
use Rattle.jr_spell.proofs.Named.{headed}
use Rattle.jr_spell.proofs.speller.Speller.method_of_type.Goals as goal

pub returns : goal.returns
returns c = λ whole sought. let s = c.args.self.now in let p = rows_of s in let t = table_of s in let r = c.args.reference.now in
    IfOk-weaker c.method_of.result _ _ (λ a h. of_type_found p t (headed s whole) r.row c.args.arguments.now (name p r.name) c.args.class a h) (c.method_of.ensures whole sought)
