use Rattle.jr_engine.proofs.bodies.meant_by.Goals as goal

pub returns-clause-meant : goal.returns-clause-meant
returns-clause-meant c = λ m is. record { few = is.few; targets = is.targets; supers = is.supers; types = is.types; constants = is.constants }
