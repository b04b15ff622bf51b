use Rattle.std.proofs.Common.{◌≡◌, subst, IfOk}
use Rattle.jr_lookup.proofs.Scoping.{demands_fall}
use Rattle.jr_lookup.proofs.scopes.Scopes.imports_on_demand.Goals as goal

pub returns : goal.returns
returns c = λ p is. subst (λ xs. IfOk c.rows.result (λ rows. rows.items ≡ xs)) (demands_fall p c.args.self.now is c.args.unit) c.rows.ensures
