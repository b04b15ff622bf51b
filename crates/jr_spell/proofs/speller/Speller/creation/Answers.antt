use Rattle.std.proofs.lemmas.Result.{IfOk-weaker}
use Rattle.jr_spell.specs.Spellers.{rows_of, table_of, types_of}
use Rattle.jr_spell.proofs.Chosen.{created_found, created_none}
use Rattle.jr_spell.proofs.Named.{headed}
use Rattle.jr_spell.proofs.speller.Speller.creation.Goals as goal

pub returns-in-Some : goal.returns-in-Some
returns-in-Some c = λ x whole. let s = c.args.self.now in
    IfOk-weaker c.creation.result _ _ (λ a h. created_found (rows_of s) (table_of s) (headed s whole) (types_of s) c.args.place c.args.arguments.now x _ c.in-Some.class (c.named_type.ensures whole.sight_is.few) c.in-Some.is a h)
    (c.creation.ensures (table_of s) whole.sight_is.world whole.can)

pub returns-in-None : goal.returns-in-None
returns-in-None c = λ x whole. let s = c.args.self.now in
    created_none (rows_of s) (table_of s) (headed s whole) (types_of s) c.args.place c.args.arguments.now x _ (c.named_type.ensures whole.sight_is.few) c.in-None.is
