use Rattle.std.proofs.lemmas.Result.{IfOk-weaker}
use Rattle.jr_tree.specs.Rows.{name}
use Rattle.jr_spell.specs.Spellers.{rows_of, table_of, types_of}
use Rattle.jr_spell.proofs.Chosen.{super_found, super_none}
use Rattle.jr_spell.proofs.Named.{headed}
use Rattle.jr_spell.proofs.Tracing.{seen_of}
use Rattle.jr_spell.proofs.speller.Speller.super_method.Goals as goal

pub returns-in-Some : goal.returns-in-Some
returns-in-Some c = λ whole sought. let s = c.args.self.now in let p = rows_of s in let r = c.args.reference.now in
    IfOk-weaker c.method_of.result _ _ (λ a h. super_found p (table_of s) (headed s whole) (types_of s) r.row c.args.arguments.now (name p r.name) _ (c.super_class.ensures (seen_of whole)) c.in-Some.class c.in-Some.is a h)
    (c.method_of.ensures whole sought)

pub returns-in-None : goal.returns-in-None
returns-in-None c = λ whole sought. let s = c.args.self.now in let p = rows_of s in let r = c.args.reference.now in
    super_none p (table_of s) (headed s whole) (types_of s) r.row c.args.arguments.now (name p r.name) _ (c.super_class.ensures (seen_of whole)) c.in-None.is
