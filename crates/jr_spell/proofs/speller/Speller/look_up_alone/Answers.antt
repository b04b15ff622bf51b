use Rattle.std.proofs.lemmas.Result.{IfOk-weaker}
use Rattle.jr_tree.specs.Rows.{name}
use Rattle.jr_spelling_rules.specs.Naming.{at_start}
use Rattle.jr_spelling_rules.proofs.Found.{looked_up_only}
use Rattle.jr_spell.specs.Spellers.{rows_of, table_of}
use Rattle.jr_spell.proofs.Named.{headed, number_is}
use Rattle.jr_spell.proofs.speller.Speller.look_up_alone.Goals as goal

pub returns : goal.returns
returns c = λ whole number lt. let s = c.args.self.now in let p = rows_of s in let t = table_of s in let x = name p c.args.name in
    IfOk-weaker c.simple.result _ _ (λ a h. looked_up_only p t (headed s whole) c.args.place at_start c.args.kind x a h) (c.simple.ensures t x whole.sight_is whole.placed lt (number_is p c.args.name number))
