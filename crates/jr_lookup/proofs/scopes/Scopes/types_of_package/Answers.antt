use Rattle.std.proofs.Common.{◌≡◌, subst, IfOk}
use Rattle.jr_lookup.proofs.Scoping.{tops_fall}
use Rattle.jr_lookup.proofs.scopes.Scopes.types_of_package.Goals as goal

pub returns : goal.returns
returns c = λ p places is. subst (λ xs. IfOk c.rows.result (λ rows. rows.items ≡ xs)) (tops_fall p places c.args.self.now is c.args.number c.args.name) c.rows.ensures
