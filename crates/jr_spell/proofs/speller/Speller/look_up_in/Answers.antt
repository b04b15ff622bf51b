use Rattle.std.proofs.Common.{◌∙◌, ap, None}
use Rattle.jr_plain.specs.Lists.{at_level}
use Rattle.jr_plain.specs.Referents.{answer_of}
use Rattle.jr_tree.specs.Rows.{name}
use Rattle.jr_spelling_rules.specs.Naming.{in_package}
use Rattle.jr_spelling_rules.specs.Behind.{NamedBehind, else_behind}
use Rattle.jr_spelling_rules.proofs.Found.{looked_up_only}
use Rattle.jr_spell.specs.Spellers.{rows_of, table_of}
use Rattle.jr_spell.proofs.Named.{headed, answer_listed}
use Rattle.jr_spell.proofs.speller.Speller.look_up_in.Goals as goal

pub returns : goal.returns
returns c = λ path whole is number. let s = c.args.self.now in let p = rows_of s in let t = table_of s in let x = name p c.args.name in
    looked_up_only p t (headed s whole) c.args.place (in_package path) c.args.kind x c.answer.result
    (answer_listed (NamedBehind p t x (in_package path) c.args.kind) c.in_ok-rows.rows.items (else_behind (in_package path) c.args.kind) c.answer.result (c.in_ok-rows.ensures path whole is number)
    (c.answer.ensures ∙ ap (answer_of (at_level None c.in_ok-rows.rows.items)) (c.otherwise_in_package-otherwise.ensures path)))
