use Rattle.std.proofs.Common.{◌∙◌, ◌+◌, ◌<◌, ◌^◌, ap₂, arith}
use Rattle.jr_spelling_rules.specs.Candidates.{target}
use Rattle.jr_spell.specs.Forming.{form_by}
use Rattle.jr_spell.specs.Spellers.{rows_of, table_of}
use Rattle.jr_spell.proofs.speller.Speller.reference_to.Goals as goal

pub returns-clause-whole : goal.returns-clause-whole
returns-clause-whole c = λ whole lock sought lt known. let s = c.args.self.now in let few = whole.sight_is.few in let next : c.args.row + 1 < 2 ^ 32 = omega arith in record {
  at_row = record { lock_is = lock; sought_is = sought };
  there = lt;
  target_there = known.target;
  level_there = known.level;
  name_is = c.name_of.ensures whole known.target lt;
  dot_is = c.dot_of.ensures next;
  form_is = c.form_of.ensures next lock ∙ ap₂ (λ l k. form_by (rows_of s) (table_of s) c.args.row (target l) k) lock sought;
}
