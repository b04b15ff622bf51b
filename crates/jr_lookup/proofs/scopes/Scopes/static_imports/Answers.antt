use Rattle.std.proofs.Common.{◌≡◌, subst, IfOk}
use Rattle.jr_lookup.proofs.Scoping.{statics_fall}
use Rattle.jr_lookup.proofs.scopes.Scopes.static_imports.Goals as goal

pub returns : goal.returns
returns c = λ p is. subst (λ xs. IfOk c.rows.result (λ rows. rows.items ≡ xs)) (statics_fall p c.args.self.now is c.args.unit c.args.name) c.rows.ensures
