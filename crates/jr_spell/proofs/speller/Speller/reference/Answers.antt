use Rattle.std.proofs.Common.{◌∙◌, sym}
use Rattle.jr_plain.proofs.Declared.{part_tells}
use Rattle.jr_spell.specs.Spellers.{rows_of, table_of}
use Rattle.jr_spell.proofs.speller.Speller.reference.Goals as goal

pub returns-then-is_part-clause-there : goal.returns-then-is_part-clause-there
returns-then-is_part-clause-there c = λ lock. absurd (lock.refers.whole ((part_tells (rows_of c.args.self.now) (table_of c.args.self.now) c.args.row).0 (sym c.is_part.ensures ∙ c.if-is_part.true)))

pub returns-in-Nothing-clause-there : goal.returns-in-Nothing-clause-there
returns-in-Nothing-clause-there c = λ lock. absurd (lock.refers.occurs.seeks (sym c.sought_at-sought.ensures ∙ c.in-Nothing.is))

pub returns-in_default-clause-whole : goal.returns-in_default-clause-whole
returns-in_default-clause-whole c = λ whole lt known. c.reference_with.ensures.whole whole c.sought_at-sought.ensures lt known
