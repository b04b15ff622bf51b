use Rattle.std.proofs.Common.{subst, IfOk, ap, ◌∙◌, ◌∷◌, ◌++◌, []}
use Rattle.jr_shapes.specs.declared.spelling.Shape.TheVariants as shape
use Rattle.jr_spelling_rules.specs.Candidates as candidate
use Rattle.jr_spell.specs.Shaping.{IsFirstOf}
use Rattle.jr_spell.specs.Spellers.{rows_of, table_of}
use Rattle.jr_spell.proofs.ByObject.{outer_written}
use Rattle.jr_spell.proofs.speller.Speller.by_both.Goals as goal

pub returns : goal.returns
returns c = λ given a b first second whole sought gives. let s = c.args.self.now in let p = rows_of s in let t = table_of s in let r = c.args.reference.now in let x = c.args.cast in let y = c.args.outer in
    subst (λ w. IfOk c.through.result (λ o. IsFirstOf s r.row (w ∷ []) o))
    (ap (λ xs. candidate.on_object p t given r.row (shape.CastOuter x.suffix y.suffix) xs c.args.class) (c.in_ok-trace.ensures ∙ ap (λ ys. x.trace.items ++ ys) c.deref.ensures.value) ∙ outer_written p t given r.row c.args.class x y a b first second)
    (c.through.ensures given whole sought gives)
