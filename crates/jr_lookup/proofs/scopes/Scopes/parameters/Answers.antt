use Rattle.std.proofs.Common.{◌≡◌, subst, IfOk}
use Rattle.jr_lookup.proofs.Scoping.{parameters_fall}
use Rattle.jr_lookup.proofs.scopes.Scopes.parameters.Goals as goal

pub returns : goal.returns
returns c = λ p is. subst (λ xs. IfOk c.rows.result (λ rows. rows.items ≡ xs)) (parameters_fall p c.args.self.now is c.args.over c.args.name) c.rows.ensures
