use Rattle.std.proofs.Common.{◌+◌, arith}
use Rattle.std.proofs.lemmas.Result.{IfOk-weaker}
use Rattle.jr_tree.specs.declared.label.Sought.TheVariants as sought
use Rattle.jr_defs.specs.Constants.{HasConstantForm}
use Rattle.jr_lookup.proofs.Looking.{method_looked, constructor_looked, looked_as, is_no_call}
use Rattle.jr_lookup.proofs.simple.Sight.called.Goals as goal

pub returns-in-Method : goal.returns-in-Method
returns-in-Method c = λ t x k number all call. let p = c.args.self.now.world.under.rows.now in let K = HasConstantForm p t in IfOk-weaker c.method.result _ _
    (λ a h. looked_as p t K c.args.place x sought.Method c.args.sought a c.in-Method.is (method_looked p t K c.args.place x c.args.arguments.now all a h)) (c.method.ensures t x k.sight_is k.can number)

pub returns-in-MethodOf : goal.returns-in-MethodOf
returns-in-MethodOf c = λ t x k number all call. let p = c.args.self.now.world.under.rows.now in let K = HasConstantForm p t in IfOk-weaker c.method_at.result _ _
    (λ a h. looked_as p t K c.args.place x sought.MethodOf c.args.sought a c.in-MethodOf.is h) (c.method_at.ensures t x k number all)

pub returns-in-SuperMethod : goal.returns-in-SuperMethod
returns-in-SuperMethod c = λ t x k number all call. let p = c.args.self.now.world.under.rows.now in let K = HasConstantForm p t in IfOk-weaker c.super_method.result _ _
    (λ a h. looked_as p t K c.args.place x sought.SuperMethod c.args.sought a c.in-SuperMethod.is h) (c.super_method.ensures t x k.sight_is.world k.can number all)

pub returns-in-Creation : goal.returns-in-Creation
returns-in-Creation c = λ t x k number all call. let p = c.args.self.now.world.under.rows.now in let K = HasConstantForm p t in IfOk-weaker c.named_creation.result _ _
    (λ a h. looked_as p t K c.args.place x sought.Creation c.args.sought a c.in-Creation.is h) (c.named_creation.ensures t x k.sight_is k.can (k.seen (c.args.place + 1) (omega arith)) all)

pub returns-in-ConstructorCall : goal.returns-in-ConstructorCall
returns-in-ConstructorCall c = λ t x k number all call. let p = c.args.self.now.world.under.rows.now in let K = HasConstantForm p t in IfOk-weaker c.constructor.result _ _
    (λ a h. looked_as p t K c.args.place x (sought.ConstructorCall c.in-ConstructorCall.which) c.args.sought a c.in-ConstructorCall.is
    (constructor_looked p t K c.args.place x c.args.arguments.now all c.in-ConstructorCall.which a h)) (c.constructor.ensures t k.sight_is.world k.can)

pub returns-in_default : goal.returns-in_default
returns-in_default c = λ t x k number all call. absurd (is_no_call c.args.sought call c.in_default.not-Method c.in_default.not-MethodOf c.in_default.not-SuperMethod c.in_default.not-Creation c.in_default.not-ConstructorCall)
