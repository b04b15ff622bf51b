use Rattle.std.proofs.lemmas.Result.{IfOk-weaker}
use Rattle.jr_tree.specs.declared.label.NameKind.TheVariants as kind
use Rattle.jr_tree.specs.Rows.{name}
use Rattle.jr_spelling_rules.specs.Naming.{in_package}
use Rattle.jr_spell.specs.Spellers.{rows_of, table_of}
use Rattle.jr_spell.proofs.Named.{by_kind, as_types, as_package_or_types, as_ambiguous_in, as_no_variables}
use Rattle.jr_spell.proofs.speller.Speller.named_in.Goals as goal

pub returns-in-Type : goal.returns-in-Type
returns-in-Type c = λ path whole is number. let s = c.args.self.now in let p = rows_of s in let t = table_of s in
    IfOk-weaker c.types_in.result _ _ (λ found lists. by_kind p t (name p c.args.name) (in_package path) found.items kind.Type c.args.kind c.in-Type.is (as_types p t (name p c.args.name) (in_package path) found.items lists)) (c.types_in.ensures path whole is number)

pub returns-in-PackageOrType : goal.returns-in-PackageOrType
returns-in-PackageOrType c = λ path whole is number. let s = c.args.self.now in let p = rows_of s in let t = table_of s in
    IfOk-weaker c.types_in-in-PackageOrType.result _ _ (λ found lists. by_kind p t (name p c.args.name) (in_package path) found.items kind.PackageOrType c.args.kind c.in-PackageOrType.is (as_package_or_types p t (name p c.args.name) (in_package path) found.items lists)) (c.types_in-in-PackageOrType.ensures path whole is number)

pub returns-in-Ambiguous : goal.returns-in-Ambiguous
returns-in-Ambiguous c = λ path whole is number. let s = c.args.self.now in let p = rows_of s in let t = table_of s in
    IfOk-weaker c.types_in-in-Ambiguous.result _ _ (λ found lists. by_kind p t (name p c.args.name) (in_package path) found.items kind.Ambiguous c.args.kind c.in-Ambiguous.is (as_ambiguous_in p t (name p c.args.name) path found.items lists)) (c.types_in-in-Ambiguous.ensures path whole is number)

pub returns-in_default : goal.returns-in_default
returns-in_default c = λ path whole is number. let s = c.args.self.now in let p = rows_of s in let t = table_of s in
    as_no_variables p t (name p c.args.name) path _ c.args.kind c.new.ensures.items c.in_default.not-Type c.in_default.not-PackageOrType c.in_default.not-Ambiguous
