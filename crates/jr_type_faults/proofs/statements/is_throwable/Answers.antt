use Rattle.std.proofs.Common.{◌∙◌, sym, ap}
use Rattle.jr_plain.specs.Supertypes.{is_subtype}
use Rattle.jr_type_facts.specs.Facts.{rows_of, table_of}
use Rattle.jr_type_faults.proofs.Throwing.{throwable_some, throwable_none}
use Rattle.jr_type_faults.proofs.statements.is_throwable.Goals as goal

pub returns-in-Some : goal.returns-in-Some
returns-in-Some c = λ right one. c.is_subtype.ensures right.seen ∙ ap (is_subtype (rows_of c.args.facts.now) (table_of c.args.facts.now) c.args.ty) c.class_type.ensures
    ∙ throwable_some (rows_of c.args.facts.now) (table_of c.args.facts.now) c.args.ty c.in-Some.class one (sym right.tables_are.throwable_is ∙ c.in-Some.is)

pub returns-in-None : goal.returns-in-None
returns-in-None c = λ right one. throwable_none (rows_of c.args.facts.now) (table_of c.args.facts.now) c.args.ty one (sym right.tables_are.throwable_is ∙ c.in-None.is)
