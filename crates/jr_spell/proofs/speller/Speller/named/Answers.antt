use Rattle.std.proofs.Common.{sym, subst}
use Rattle.jr_shapes.specs.declared.spelling.Shape.TheVariants as shape
use Rattle.jr_spelling_rules.specs.Candidates as candidate
use Rattle.jr_spell.specs.Adding.{AreNumbersOf}
use Rattle.jr_shapes.specs.Names.{suffix}
use Rattle.jr_spell.specs.Spellers.{rows_of, table_of}
use Rattle.jr_spell.proofs.Shaped.{given_of, named_looked}
use Rattle.jr_spell.proofs.Tracing.{seen_of}
use Rattle.jr_spell.proofs.speller.Speller.named.Goals as goal

pub returns : goal.returns
returns c = λ given more size whole sought uncalled lt. let s = c.args.self.now in let p = rows_of s in let r = c.args.reference.now in let end = c.args.suffix in
    let are = subst (AreNumbersOf p (candidate.texts p (candidate.behind_first (suffix p end.count end.of)))) (sym c.deref.ensures.value) (c.in_ok-names.ensures whole lt) in
    c.fit_found.ensures (candidate.named p (table_of s) given r.row end.of more) (seen_of whole) sought.at_row
    (named_looked s r.row given end more size _ are _ (c.in_ok-looked.ensures given (shape.Named end) whole sought (given_of r given uncalled) are.numbers))
