use Rattle.std.proofs.Common.{subst}
use Rattle.jr_engine.specs.Refusing.{IsShownAt}
use Rattle.jr_engine.proofs.locked.no_spelling.Goals as goal

pub returns : goal.returns
returns c = λ ordered. subst (λ origin. IsShownAt c.args.asked.project.now.marks origin c.args.row c.place_of-place.result) c.deref.ensures.value (c.place_of-place.ensures ordered)
