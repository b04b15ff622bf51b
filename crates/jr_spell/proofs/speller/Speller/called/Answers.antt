use Rattle.std.proofs.Common.{◌∙◌}
use Rattle.std.proofs.lemmas.Result.{IfOk-weaker}
use Rattle.jr_tree.specs.Rows.{name}
use Rattle.jr_tree.specs.declared.label.Sought.TheVariants as sought
use Rattle.jr_spell.specs.Spellers.{rows_of, table_of, types_of}
use Rattle.jr_spell.proofs.Chosen.{alone_seen, call_by, is_no_call}
use Rattle.jr_spell.proofs.Named.{headed}
use Rattle.jr_spell.proofs.speller.Speller.called.Goals as goal

pub returns-in-Method : goal.returns-in-Method
returns-in-Method c = λ whole seeks types call. let s = c.args.self.now in let p = rows_of s in let r = c.args.reference.now in let x = name p r.name in let all = c.args.arguments.now in
    IfOk-weaker c.method_alone.result _ _ (λ a h. call_by p (table_of s) (headed s whole) (types_of s) r.row all x a sought.Method r.sought c.in-Method.is (h ∙ alone_seen p (table_of s) (headed s whole) (types_of s) r.row all x))
    (c.method_alone.ensures whole seeks)

pub returns-in-MethodOf : goal.returns-in-MethodOf
returns-in-MethodOf c = λ whole seeks types call. let s = c.args.self.now in let p = rows_of s in let r = c.args.reference.now in
    IfOk-weaker c.method_of_value.result _ _ (λ a h. call_by p (table_of s) (headed s whole) (types_of s) r.row c.args.arguments.now (name p r.name) a sought.MethodOf r.sought c.in-MethodOf.is h) (c.method_of_value.ensures whole seeks types)

pub returns-in-SuperMethod : goal.returns-in-SuperMethod
returns-in-SuperMethod c = λ whole seeks types call. let s = c.args.self.now in let p = rows_of s in let r = c.args.reference.now in
    IfOk-weaker c.super_method.result _ _ (λ a h. call_by p (table_of s) (headed s whole) (types_of s) r.row c.args.arguments.now (name p r.name) a sought.SuperMethod r.sought c.in-SuperMethod.is h) (c.super_method.ensures whole seeks)

pub returns-in-Creation : goal.returns-in-Creation
returns-in-Creation c = λ whole seeks types call. let s = c.args.self.now in let p = rows_of s in let r = c.args.reference.now in
    IfOk-weaker c.creation.result _ _ (λ a h. call_by p (table_of s) (headed s whole) (types_of s) r.row c.args.arguments.now (name p r.name) a sought.Creation r.sought c.in-Creation.is h) (c.creation.ensures (name p r.name) whole)

pub returns-in-ConstructorCall : goal.returns-in-ConstructorCall
returns-in-ConstructorCall c = λ whole seeks types call. let s = c.args.self.now in let p = rows_of s in let r = c.args.reference.now in
    IfOk-weaker c.constructor.result _ _ (λ a h. call_by p (table_of s) (headed s whole) (types_of s) r.row c.args.arguments.now (name p r.name) a (sought.ConstructorCall c.in-ConstructorCall.which) r.sought c.in-ConstructorCall.is h)
    (c.constructor.ensures (name p r.name) whole)

pub returns-in_default : goal.returns-in_default
returns-in_default c = λ whole seeks types call. absurd (is_no_call c.args.reference.now.sought call c.in_default.not-Method c.in_default.not-MethodOf c.in_default.not-SuperMethod c.in_default.not-Creation c.in_default.not-ConstructorCall)
