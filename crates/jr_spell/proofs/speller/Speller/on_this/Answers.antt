use Rattle.std.proofs.Common.{subst, IfOk, ap, ◌∙◌, ◌∷◌, [], None}
use Rattle.jr_shapes.specs.declared.spelling.Shape.TheVariants as shape
use Rattle.jr_spelling_rules.specs.Candidates as candidate
use Rattle.jr_spell.specs.Shaping.{IsFirstOf, IsFitOf}
use Rattle.jr_spell.specs.Spellers.{rows_of, table_of}
use Rattle.jr_spell.proofs.ByObject.{this_is, this_none}
use Rattle.jr_spell.proofs.Tracing.{seen_of}
use Rattle.jr_spell.proofs.speller.Speller.on_this.Goals as goal

pub returns-in-Some : goal.returns-in-Some
returns-in-Some c = λ given whole sought gives. let s = c.args.self.now in let p = rows_of s in let t = table_of s in let r = c.args.reference.now in
    subst (λ all. IfOk c.through.result (λ o. IsFirstOf s r.row all o))
    (ap (λ xs. candidate.on_object p t given r.row shape.This xs c.in-Some.level ∷ []) c.new-trace.ensures.items ∙ this_is p t given r.row c.innermost_level.result (c.innermost_level.ensures (seen_of whole) sought.at_row) c.in-Some.level c.in-Some.is)
    (c.through.ensures given whole sought gives)

pub returns-in-None : goal.returns-in-None
returns-in-None c = λ given whole sought gives. let s = c.args.self.now in let r = c.args.reference.now in
    subst (λ all. IsFirstOf s r.row all None) (this_none (rows_of s) (table_of s) given r.row c.innermost_level.result (c.innermost_level.ensures (seen_of whole) sought.at_row) c.in-None.is) IsFitOf.none
