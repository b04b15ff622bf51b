use Rattle.jr_tree.specs.Rows.{name}
use Rattle.jr_spelling_rules.specs.Naming.{at_start, in_package, in_type}
use Rattle.jr_spell.specs.Spellers.{rows_of, table_of}
use Rattle.jr_spell.proofs.Named.{carried, stands_nothing, stands_package, stands_type}
use Rattle.jr_spell.proofs.speller.Speller.look_up.Goals as goal

pub returns-in-Nothing : goal.returns-in-Nothing
returns-in-Nothing c = λ b whole stands number lt. let s = c.args.self.now in let p = rows_of s in let t = table_of s in
    carried p t c.args.place c.args.kind (name p c.args.name) c.look_up_alone.result b at_start (stands_nothing stands c.in-Nothing.is) (c.look_up_alone.ensures whole number lt)

pub returns-in-Package : goal.returns-in-Package
returns-in-Package c = λ b whole stands number lt. let s = c.args.self.now in let p = rows_of s in let t = table_of s in let q = stands_package c.in-Package.number stands c.in-Package.is in
    carried p t c.args.place c.args.kind (name p c.args.name) c.look_up_in.result b (in_package q.0) q.1 (c.look_up_in.ensures q.0 whole q.2 number)

pub returns-in-OfType : goal.returns-in-OfType
returns-in-OfType c = λ b whole stands number lt. let s = c.args.self.now in let p = rows_of s in let t = table_of s in
    carried p t c.args.place c.args.kind (name p c.args.name) c.look_up_of.result b (in_type c.in-OfType.class) (stands_type c.in-OfType.class stands c.in-OfType.is) (c.look_up_of.ensures whole number)
