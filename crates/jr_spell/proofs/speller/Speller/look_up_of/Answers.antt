use Rattle.jr_defs.specs.declared.referent.Referent.TheVariants.{Unbound}
use Rattle.jr_tree.specs.Rows.{name}
use Rattle.jr_spelling_rules.specs.Naming.{in_type}
use Rattle.jr_spelling_rules.specs.Behind.{NamedBehind}
use Rattle.jr_spelling_rules.proofs.Found.{looked_up_only}
use Rattle.jr_spell.specs.Spellers.{rows_of, table_of}
use Rattle.jr_spell.proofs.Named.{headed, answer_listed}
use Rattle.jr_spell.proofs.speller.Speller.look_up_of.Goals as goal

pub returns : goal.returns
returns c = λ whole number. let s = c.args.self.now in let p = rows_of s in let t = table_of s in let x = name p c.args.name in
    looked_up_only p t (headed s whole) c.args.place (in_type c.args.class) c.args.kind x c.answer.result
    (answer_listed (NamedBehind p t x (in_type c.args.class) c.args.kind) c.in_ok-rows.rows.items Unbound c.answer.result (c.in_ok-rows.ensures whole number) c.answer.ensures)
