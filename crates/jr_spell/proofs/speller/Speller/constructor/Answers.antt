use Rattle.std.proofs.lemmas.Result.{IfOk-weaker}
use Rattle.jr_spell.specs.Spellers.{rows_of, table_of, types_of}
use Rattle.jr_spell.proofs.Chosen.{called_found, called_none}
use Rattle.jr_spell.proofs.Named.{headed}
use Rattle.jr_spell.proofs.Tracing.{seen_of}
use Rattle.jr_spell.proofs.speller.Speller.constructor.Goals as goal

pub returns-in-Some : goal.returns-in-Some
returns-in-Some c = λ x whole. let s = c.args.self.now in
    IfOk-weaker c.constructor_of.result _ _ (λ a h. called_found (rows_of s) (table_of s) (headed s whole) (types_of s) c.args.place c.args.arguments.now c.args.which x _ (c.called_class.ensures (seen_of whole)) c.in-Some.class c.in-Some.is a h)
    (c.constructor_of.ensures whole)

pub returns-in-None : goal.returns-in-None
returns-in-None c = λ x whole. let s = c.args.self.now in
    called_none (rows_of s) (table_of s) (headed s whole) (types_of s) c.args.place c.args.arguments.now c.args.which x _ (c.called_class.ensures (seen_of whole)) c.in-None.is
