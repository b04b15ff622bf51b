use Rattle.jr_spelling_rules.specs.Candidates as candidate
use Rattle.jr_spell.specs.Spellers.{rows_of, table_of, types_of}
use Rattle.jr_spell.proofs.Tracing.{seen_of}
use Rattle.jr_spell.proofs.speller.Speller.kept.Goals as goal

pub returns : goal.returns
returns c = λ given whole sought gives exact. let s = c.args.self.now in let r = c.args.reference.now in
    c.fit_found.ensures (candidate.old (rows_of s) (table_of s) (types_of s) given r.row) (seen_of whole) sought.at_row (c.in_ok-looked.ensures given whole sought gives exact)
