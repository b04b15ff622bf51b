use Rattle.std.proofs.Common.{◌∙◌, ap, sym, Bool, if◌then◌else◌}
use Rattle.jr_inline.specs.Retyping.{first_of}
use Rattle.jr_inline.proofs.retyped.Retyping.first_with.Goals as goal

pub returns-then-is_retyped : goal.returns-then-is_retyped
returns-then-is_retyped c = λ ordered. c.first_of.ensures ordered ∙ sym (ap (λ (b : Bool). if b then first_of c.args.marks.now c.args.first c.args.row else c.args.first) (sym c.is_retyped.ensures ∙ c.if-is_retyped.true))

pub returns-else-is_retyped : goal.returns-else-is_retyped
returns-else-is_retyped c = λ ordered. sym (ap (λ (b : Bool). if b then first_of c.args.marks.now c.args.first c.args.row else c.args.first) (sym c.is_retyped.ensures ∙ c.if-is_retyped.false))
