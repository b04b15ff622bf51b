use Rattle.std.proofs.Common.{refl, sym, ◌∙◌, false}
use Rattle.std.proofs.lemmas.Result.{IfOk-weaker, on_ok_weaker}
use Rattle.jr_codes.specs.Reads.{facts}
use Rattle.jr_expressions.specs.Bodies.{BodyAt, field as field_at, method as method_at, constructor as constructor_at, default as default_at, initializer as initializer_at}
use Rattle.jr_elab.proofs.Each.{may_add}
use Rattle.jr_elab.proofs.Gathered.{body_added, no_body}
use Rattle.jr_elab.proofs.bodies.add_labeled.Goals as goal

pub returns-in-Field : goal.returns-in-Field
returns-in-Field c = on_ok_weaker c.add_made.result (λ added named reads inside. body_added (facts c.args.source.now) c.args.at _ _ _ c.in-Field.is refl (λ b is. field_at (named ∙ c.in-Field.is) is) added (IfOk-weaker c.field.result _ _ (λ b makes. makes reads inside) c.field.ensures)) c.add_made.ensures

pub returns-in-Method : goal.returns-in-Method
returns-in-Method c = on_ok_weaker c.add_made-in-Method.result (λ added named reads inside. body_added (facts c.args.source.now) c.args.at _ _ _ c.in-Method.is refl (λ b by. method_at (named ∙ c.in-Method.is) by.has by.is) added (IfOk-weaker c.method.result _ _ (λ b makes. makes reads inside) c.method.ensures)) c.add_made-in-Method.ensures

pub returns-in-Constructor : goal.returns-in-Constructor
returns-in-Constructor c = on_ok_weaker c.add_made-in-Constructor.result (λ added named reads inside. body_added (facts c.args.source.now) c.args.at _ _ _ c.in-Constructor.is refl (λ b is. constructor_at (named ∙ c.in-Constructor.is) is) added (IfOk-weaker c.creating.result _ _ (λ b makes. makes reads inside) c.creating.ensures)) c.add_made-in-Constructor.ensures

pub returns-in-DefaultConstructor : goal.returns-in-DefaultConstructor
returns-in-DefaultConstructor c = on_ok_weaker c.add_made-in-DefaultConstructor.result (λ added named reads inside. body_added (facts c.args.source.now) c.args.at _ _ _ c.in-DefaultConstructor.is refl (λ b is. default_at (named ∙ c.in-DefaultConstructor.is) is) added (IfOk-weaker c.creating-in-DefaultConstructor.result _ _ (λ b makes. makes reads inside) c.creating-in-DefaultConstructor.ensures)) c.add_made-in-DefaultConstructor.ensures

pub returns-in-Initializer : goal.returns-in-Initializer
returns-in-Initializer c = on_ok_weaker c.add_made-in-Initializer.result (λ added named reads inside. body_added (facts c.args.source.now) c.args.at _ _ _ c.in-Initializer.is refl (λ b is. initializer_at (named ∙ c.in-Initializer.is) is) added (IfOk-weaker c.creating-in-Initializer.result _ _ (λ b makes. makes reads inside) c.creating-in-Initializer.ensures)) c.add_made-in-Initializer.ensures

pub returns-in_default : goal.returns-in_default
returns-in_default c = λ named reads inside. may_add (BodyAt (facts c.args.source.now) c.args.at) false _ _ _ (sym (no_body c.args.label.now c.in_default.not-Field c.in_default.not-Method c.in_default.not-Constructor c.in_default.not-DefaultConstructor c.in_default.not-Initializer)) refl
