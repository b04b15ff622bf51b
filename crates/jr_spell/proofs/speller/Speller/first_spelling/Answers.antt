use Rattle.std.proofs.Common.{◌∙◌, sym, ap, subst, IfOk}
use Rattle.jr_plain.specs.Lookup.{arguments}
use Rattle.jr_spelling_rules.specs.Candidates as candidate
use Rattle.jr_spell.specs.Spelling.{IsWritten}
use Rattle.jr_spell.specs.Spellers.{rows_of, types_of}
use Rattle.jr_spell.proofs.Shaped.{given_of}
use Rattle.jr_spell.proofs.Spelled.{plain_spelling}
use Rattle.jr_spell.proofs.speller.Speller.first_spelling.Goals as goal

pub returns-then-is_call-clause-first : goal.returns-then-is_call-clause-first
returns-then-is_call-clause-first c = λ whole sought exact. c.call_spelling.ensures.first whole sought (sym c.is_call.ensures ∙ c.if-is_call.true) exact

pub returns-else-is_call-clause-first : goal.returns-else-is_call-clause-first
returns-else-is_call-clause-first c = λ whole sought exact. let s = c.args.self.now in let r = c.args.reference.now in let uncalled = sym c.is_call.ensures ∙ c.if-is_call.false in
    subst (λ q. IfOk c.spelling_with.result (λ o. IsWritten r.row o q)) (plain_spelling s r.row (sym (ap candidate.is_call sought.at_row.sought_is) ∙ uncalled)) (c.spelling_with.ensures.first (arguments (rows_of s) (types_of s) r.row) whole sought
    (given_of r (arguments (rows_of s) (types_of s) r.row) uncalled) exact)
