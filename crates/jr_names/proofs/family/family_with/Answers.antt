use Rattle.std.proofs.Common.{sym, ◌∙◌}
use Rattle.jr_names.proofs.Together.{family_so, alone_so}
use Rattle.jr_names.proofs.family.family_with.Goals as goal

pub returns-in-Method : goal.returns-in-Method
returns-in-Method c = family_so c.args.old.now c.args.row (λ all. all.items) _ (sym c.role_at.ensures ∙ c.in-Method.is) c.family.ensures

pub returns-in_default : goal.returns-in_default
returns-in_default c = alone_so c.args.old.now c.args.row (λ all. all.items) _ (λ m. c.in_default.not-Method (c.role_at.ensures ∙ m)) c.alone.ensures
