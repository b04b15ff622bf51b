use Rattle.std.proofs.Common.{◌∙◌, ap}
use Rattle.jr_spelling_rules.specs.Candidates.{is_variable}
use Rattle.jr_spelling_rules.specs.Naming.{in_type}
use Rattle.jr_shapes.specs.declared.spelling.Shape.TheVariants as shape
use Rattle.jr_spell.specs.Standing.{StandsFor}
use Rattle.jr_spell.proofs.Shaped.{behind_fits}
use Rattle.jr_spell.proofs.Tracing.{seen_of}
use Rattle.jr_spell.proofs.speller.Speller.behind_type.Goals as goal

pub returns : goal.returns
returns c = λ given whole sought gives. let s = c.args.self.now in let r = c.args.reference.now in
    behind_fits s r given (shape.Type c.args.suffix) (in_type c.args.class) _ c.is_variable.result c.fit_of.result
    (c.in_ok-found.ensures (in_type c.args.class) given (shape.Type c.args.suffix) c.args.trace.items whole sought gives StandsFor.of_type)
    c.way_of-way.ensures (c.is_variable.ensures ∙ ap is_variable sought.at_row.sought_is) (c.fit_of.ensures (seen_of whole) sought.at_row)
