use Rattle.jr_spelling_rules.specs.Spelling.{written_types}
use Rattle.jr_spell.specs.Spellers.{rows_of, table_of}
use Rattle.jr_spell.proofs.speller.Speller.cast_fit.Goals as goal

pub returns-clause-first : goal.returns-clause-first
returns-clause-first c = λ q whole sought fits. let s = c.args.self.now in let r = c.args.reference.now in
    c.cast_spelling.ensures.first q s (written_types (rows_of s) (table_of s) r.row c.args.parameters.now) fits (c.in_ok-casts.ensures whole sought.there)
