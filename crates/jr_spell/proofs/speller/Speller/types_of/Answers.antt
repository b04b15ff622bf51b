use Rattle.std.proofs.lemmas.Result.{IfOk-weaker}
use Rattle.jr_spell.specs.Spellers.{rows_of, table_of}
use Rattle.jr_spell.proofs.Named.{types_behind}
use Rattle.jr_spell.proofs.speller.Speller.types_of.Goals as goal

pub returns : goal.returns
returns c = λ whole number. let s = c.args.self.now in let p = rows_of s in let t = table_of s in
    IfOk-weaker c.named.result _ _ (λ found each. types_behind p t c.args.name number c.args.class found.items each) (c.named.ensures t whole.sight_is.world)
