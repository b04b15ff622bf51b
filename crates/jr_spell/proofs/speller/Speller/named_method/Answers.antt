use Rattle.std.proofs.Common.{ap}
use Rattle.std.proofs.lemmas.Result.{IfOk-weaker}
use Rattle.jr_tree.specs.Rows.{name}
use Rattle.jr_spelling_rules.specs.Naming.{at_start, in_package, in_type}
use Rattle.jr_spell.specs.Spellers.{rows_of, table_of}
use Rattle.jr_spell.proofs.Called.{in_package_found, method_carried}
use Rattle.jr_spell.proofs.Named.{headed, stands_nothing, stands_package, stands_type}
use Rattle.jr_spell.proofs.speller.Speller.named_method.Goals as goal

pub returns-in-Nothing : goal.returns-in-Nothing
returns-in-Nothing c = λ b whole sought stands. let s = c.args.self.now in let p = rows_of s in let r = c.args.reference.now in
    IfOk-weaker c.method_alone.result _ _ (λ a h. method_carried p (table_of s) r.row c.args.arguments.now (name p r.name) a b at_start (stands_nothing stands c.in-Nothing.is) h) (c.method_alone.ensures whole sought)

pub returns-in-OfType : goal.returns-in-OfType
returns-in-OfType c = λ b whole sought stands. let s = c.args.self.now in let p = rows_of s in let r = c.args.reference.now in
    IfOk-weaker c.method_of_type.result _ _ (λ a h. method_carried p (table_of s) r.row c.args.arguments.now (name p r.name) a b (in_type c.in-OfType.class) (stands_type c.in-OfType.class stands c.in-OfType.is) h)
    (c.method_of_type.ensures whole sought)

pub returns-in-Package : goal.returns-in-Package
returns-in-Package c = λ b whole sought stands. let s = c.args.self.now in let p = rows_of s in let t = table_of s in let r = c.args.reference.now in let q = stands_package _ stands c.in-Package.is in
    method_carried p t r.row c.args.arguments.now (name p r.name) _ b (in_package q.0) q.1 (in_package_found p t (headed s whole) r.row c.args.arguments.now (name p r.name) q.0)
