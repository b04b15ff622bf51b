use Rattle.std.proofs.lemmas.Result.{IfOk-weaker}
use Rattle.jr_tree.specs.declared.label.NameKind.TheVariants as kind
use Rattle.jr_tree.specs.Rows.{name}
use Rattle.jr_spelling_rules.specs.Naming.{in_type}
use Rattle.jr_spell.specs.Spellers.{rows_of, table_of}
use Rattle.jr_spell.proofs.Named.{by_kind, as_variables, as_types, as_package_or_types, as_none}
use Rattle.jr_spell.proofs.speller.Speller.named_of.Goals as goal

pub returns-in-Variable : goal.returns-in-Variable
returns-in-Variable c = λ whole number. let s = c.args.self.now in let p = rows_of s in let t = table_of s in
    IfOk-weaker c.fields_of.result _ _ (λ found lists. by_kind p t (name p c.args.name) (in_type c.args.class) found.items kind.Variable c.args.kind c.in-Variable.is (as_variables p t (name p c.args.name) (in_type c.args.class) found.items lists)) (c.fields_of.ensures whole number)

pub returns-in-Type : goal.returns-in-Type
returns-in-Type c = λ whole number. let s = c.args.self.now in let p = rows_of s in let t = table_of s in
    IfOk-weaker c.types_of.result _ _ (λ found lists. by_kind p t (name p c.args.name) (in_type c.args.class) found.items kind.Type c.args.kind c.in-Type.is (as_types p t (name p c.args.name) (in_type c.args.class) found.items lists)) (c.types_of.ensures whole number)

pub returns-in-PackageOrType : goal.returns-in-PackageOrType
returns-in-PackageOrType c = λ whole number. let s = c.args.self.now in let p = rows_of s in let t = table_of s in
    IfOk-weaker c.types_of-in-PackageOrType.result _ _ (λ found lists. by_kind p t (name p c.args.name) (in_type c.args.class) found.items kind.PackageOrType c.args.kind c.in-PackageOrType.is (as_package_or_types p t (name p c.args.name) (in_type c.args.class) found.items lists)) (c.types_of-in-PackageOrType.ensures whole number)

pub returns-in-Ambiguous : goal.returns-in-Ambiguous
returns-in-Ambiguous c = λ whole number. let s = c.args.self.now in let p = rows_of s in let t = table_of s in
    IfOk-weaker c.fields_or_types_of.result _ _ (λ found lists. by_kind p t (name p c.args.name) (in_type c.args.class) found.items kind.Ambiguous c.args.kind c.in-Ambiguous.is lists) (c.fields_or_types_of.ensures whole number)

pub returns-in-Package : goal.returns-in-Package
returns-in-Package c = λ whole number. let s = c.args.self.now in let p = rows_of s in let t = table_of s in
    by_kind p t (name p c.args.name) (in_type c.args.class) _ kind.Package c.args.kind c.in-Package.is (as_none p t (name p c.args.name) (in_type c.args.class) _ c.new.ensures.items)
