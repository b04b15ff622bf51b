use Rattle.jr_pullup.proofs.Raising.{other_kind_so, upwards_so}
use Rattle.jr_pullup.proofs.pulled.pulled_of.Goals as goal

pub returns-in-Some : goal.returns-in-Some
returns-in-Some c = λ ordered. upwards_so c.args.old.now c.args.declared c.in-Some.class c.superclass-above.result c.into_superclass.result ordered c.in-Some.ensures c.superclass-above.ensures c.into_superclass.ensures

pub returns-in-None : goal.returns-in-None
returns-in-None c = λ ordered. other_kind_so c.args.old.now c.args.declared c.in-None.ensures
