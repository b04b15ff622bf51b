use Rattle.std.proofs.Common.{sym, ◌∙◌, ap}
use Rattle.std.proofs.lemmas.Bool.{false≢true}
use Rattle.std.proofs.lemmas.Result.{IfOk-weaker}
use Rattle.jr_bind.specs.Late as late
use Rattle.jr_bind.proofs.confirming.is_type_bound_at.Goals as goal

pub returns-then-not-seeks_type : goal.returns-then-not-seeks_type
returns-then-not-seeks_type c = λ see yes seeks. absurd (false≢true (sym c.if-not-seeks_type.true ∙ c.seeks_type.ensures ∙ ap late.seeks_type c.sought_at.ensures ∙ seeks))

pub returns : goal.returns
returns c = λ see. IfOk-weaker c.is_bound_at.result _ _ (λ is told yes seeks. told yes)
    (c.is_bound_at.ensures see (sym (c.seeks_type.ensures ∙ ap late.seeks_type c.sought_at.ensures) ∙ c.if-not-seeks_type.false))
