use Rattle.std.proofs.Common.{sym, subst}
use Rattle.jr_bind.specs.Late.{AreLate}
use Rattle.jr_bind.specs.Confirmed.{IsBindingOf}
use Rattle.jr_bind.proofs.Keeping.{box_has}
use Rattle.jr_bind.proofs.binder.bind.Goals as goal

pub returns : goal.returns
returns c = λ of. box_has _ _ (IsBindingOf c.args.rows.now c.args.places.now) c.in_ok-bound.ensures (c.bind_all.ensures (subst (λ all. AreLate c.args.rows.now all) (sym c.deref.ensures.value) c.in_ok-stages.ensures) of)
