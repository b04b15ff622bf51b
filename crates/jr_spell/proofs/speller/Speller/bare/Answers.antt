use Rattle.std.proofs.Common.{◌∙◌, sym, subst, arith, None, []}
use Rattle.jr_shapes.specs.declared.spelling.Shape.TheVariants as shape
use Rattle.jr_spelling_rules.specs.Candidates as candidate
use Rattle.jr_spell.specs.Packaging.{AreNumbers}
use Rattle.jr_spell.specs.Shaping.{IsFirstOf, IsFitOf, AreLooked}
use Rattle.jr_spell.specs.Spellers.{rows_of, table_of}
use Rattle.jr_spell.proofs.Formed.{bare_gone, bare_there}
use Rattle.jr_spell.proofs.Tracing.{seen_of}
use Rattle.jr_spell.proofs.speller.Speller.bare.Goals as goal

pub returns-then-not-is_names : goal.returns-then-not-is_names
returns-then-not-is_names c = λ given whole sought gives. let s = c.args.self.now in let r = c.args.reference.now in
    subst (λ all. IsFirstOf s r.row all None) (bare_gone (rows_of s) (table_of s) given r.row (sym sought.dot_is ∙ sym c.is_names.ensures ∙ c.if-not-is_names.true)) IsFitOf.none

pub returns : goal.returns
returns c = λ given whole sought gives. let s = c.args.self.now in let p = rows_of s in let t = table_of s in let r = c.args.reference.now in
    let none : AreNumbers p [] = record { each = λ i d lt. absurd (omega arith) } in
    c.fit_found.ensures (candidate.bare p t given r.row) (seen_of whole) sought.at_row
    (subst (AreLooked s r.row shape.Bare c.in_ok-looked.looked) (bare_there p t given r.row (sym sought.dot_is ∙ sym c.is_names.ensures ∙ c.if-not-is_names.false)) (c.in_ok-looked.ensures given shape.Bare whole sought gives none))
