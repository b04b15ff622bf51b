use Rattle.std.proofs.Common.{sym, subst}
use Rattle.std.proofs.lemmas.Result.{IfOk-weaker}
use Rattle.jr_tree.specs.declared.label.Sought.TheVariants as sought
use Rattle.jr_defs.specs.Constants.{HasConstantForm}
use Rattle.jr_lookup.specs.Calls.{NeedsTypes}
use Rattle.jr_lookup.proofs.Looking.{nothing_looked, simple_looked, super_looked, own_looked, label_looked, looked_as, is_call, call_needs}
use Rattle.jr_lookup.proofs.simple.Sight.look_for.Goals as goal

pub returns-in-Nothing : goal.returns-in-Nothing
returns-in-Nothing c = λ t x s needs number named. let p = c.args.self.now.world.under.rows.now in let K = HasConstantForm p t in
    looked_as p t K c.args.place x sought.Nothing c.args.sought _ c.in-Nothing.is (nothing_looked p t K c.args.place x)

pub returns-in-Simple : goal.returns-in-Simple
returns-in-Simple c = λ t x s needs number named. let p = c.args.self.now.world.under.rows.now in let K = HasConstantForm p t in IfOk-weaker c.simple.result _ _
    (λ a h. looked_as p t K c.args.place x (sought.Simple c.in-Simple.kind) c.args.sought a c.in-Simple.is (simple_looked p t K c.args.place x c.in-Simple.kind a h)) (c.simple.ensures t x s.sight_is s.placed s.inside number)

pub returns-in-Qualified : goal.returns-in-Qualified
returns-in-Qualified c = λ t x s needs number named. let p = c.args.self.now.world.under.rows.now in let K = HasConstantForm p t in IfOk-weaker c.qualified_at.result _ _
    (λ a h. looked_as p t K c.args.place x (sought.Qualified c.in-Qualified.kind) c.args.sought a c.in-Qualified.is h) (c.qualified_at.ensures t x s (λ v. needs (subst NeedsTypes (sym c.in-Qualified.is) v)) number named)

pub returns-in-FieldOf : goal.returns-in-FieldOf
returns-in-FieldOf c = λ t x s needs number named. let p = c.args.self.now.world.under.rows.now in let K = HasConstantForm p t in IfOk-weaker c.field_at.result _ _
    (λ a h. looked_as p t K c.args.place x sought.FieldOf c.args.sought a c.in-FieldOf.is h) (c.field_at.ensures t x (needs (subst NeedsTypes (sym c.in-FieldOf.is) tt)) number named)

pub returns-in-SuperField : goal.returns-in-SuperField
returns-in-SuperField c = λ t x s needs number named. let p = c.args.self.now.world.under.rows.now in let K = HasConstantForm p t in IfOk-weaker c.super_field.result _ _
    (λ a h. looked_as p t K c.args.place x sought.SuperField c.args.sought a c.in-SuperField.is (super_looked p t K c.args.place x a h)) (c.super_field.ensures t x s.sight_is.world number)

pub returns-in-OwnClass : goal.returns-in-OwnClass
returns-in-OwnClass c = λ t x s needs number named. let p = c.args.self.now.world.under.rows.now in let K = HasConstantForm p t in
    looked_as p t K c.args.place x sought.OwnClass c.args.sought _ c.in-OwnClass.is (own_looked p t K c.args.place x _ c.own_class.ensures)

pub returns-in-Label : goal.returns-in-Label
returns-in-Label c = λ t x s needs number named. let p = c.args.self.now.world.under.rows.now in let K = HasConstantForm p t in IfOk-weaker c.label.result _ _
    (λ a h. looked_as p t K c.args.place x sought.Label c.args.sought a c.in-Label.is (label_looked p t K c.args.place x a h)) (c.label.ensures t x s.sight_is.world s.inside number)

pub returns-in_default : goal.returns-in_default
returns-in_default c = λ t x s needs number named.
    let call = is_call c.args.sought c.in_default.not-Simple c.in_default.not-Qualified c.in_default.not-FieldOf c.in_default.not-SuperField c.in_default.not-OwnClass c.in_default.not-Label c.in_default.not-Nothing in
    c.call.ensures t x (needs (call_needs c.args.sought call)) number call
