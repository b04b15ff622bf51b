use Rattle.std.proofs.Common.{◌≡◌, subst, option_map, IfOk}
use Rattle.jr_spell.specs.Spellers.{rows_of, table_of}
use Rattle.jr_spell.proofs.Casting.{of_some, of_none}
use Rattle.jr_spell.proofs.speller.Speller.parameter_types.Goals as goal

pub returns-in-Some : goal.returns-in-Some
returns-in-Some c = λ whole. let s = c.args.self.now in
    subst (λ q. IfOk c.types_of_callable.result (λ found. option_map (λ all. all.items) found ≡ q)) (of_some (rows_of s) (table_of s) c.args.reference.now.lock c.in-Some.target c.target.ensures c.in-Some.is) (c.types_of_callable.ensures whole)

pub returns-in-None : goal.returns-in-None
returns-in-None c = λ whole. of_none (rows_of c.args.self.now) (table_of c.args.self.now) c.args.reference.now.lock c.target.ensures c.in-None.is
