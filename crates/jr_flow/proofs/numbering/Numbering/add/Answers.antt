use Rattle.std.proofs.Common.{◌++◌, ◌∷◌, [], sym, subst}
use Rattle.jr_flow.specs.Numbered.{ArePointed}
use Rattle.jr_flow.proofs.numbering.Numbering.add.Goals as goal

pub returns-in_ok-add_none-in-None-clause-added : goal.returns-in_ok-add_none-in-None-clause-added
returns-in_ok-add_none-in-None-clause-added c = λ body all h adds. subst (λ o. ArePointed body c.add_none.new.self (all ++ o ∷ [])) (sym c.in-None.is) (c.in_ok-add_none-in-None.ensures body all h)
