use Rattle.std.proofs.lemmas.Result.{IfOk-weaker}
use Rattle.jr_tree.specs.Rows.{name}
use Rattle.jr_defs.specs.Constants.{HasConstantForm}
use Rattle.jr_spell.specs.Spellers.{rows_of, table_of, types_of}
use Rattle.jr_spell.proofs.Chosen.{receiver_found, receiver_none}
use Rattle.jr_spell.proofs.Named.{headed}
use Rattle.jr_spell.proofs.speller.Speller.method_of_value.Goals as goal

pub returns-in-Some : goal.returns-in-Some
returns-in-Some c = λ whole sought types. let s = c.args.self.now in let p = rows_of s in let t = table_of s in let r = c.args.reference.now in
    IfOk-weaker c.method_of.result _ _ (λ a h. receiver_found p t (headed s whole) (types_of s) r.row c.args.arguments.now (HasConstantForm p t) types.typed (name p r.name) _ (c.receiver_at.ensures whole sought.there types)
    c.in-Some.receiver c.in-Some.is a h) (c.method_of.ensures whole sought)

pub returns-in-None : goal.returns-in-None
returns-in-None c = λ whole sought types. let s = c.args.self.now in let p = rows_of s in let t = table_of s in let r = c.args.reference.now in
    receiver_none p t (headed s whole) (types_of s) r.row c.args.arguments.now (HasConstantForm p t) types.typed (name p r.name) _ (c.receiver_at.ensures whole sought.there types) c.in-None.is
