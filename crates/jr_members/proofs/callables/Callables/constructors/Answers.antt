use Rattle.std.proofs.Common.{◌≡◌, subst, IfOk}
use Rattle.jr_members.proofs.Declaring.{constructors_fall}
use Rattle.jr_members.proofs.callables.Callables.constructors.Goals as goal

pub returns : goal.returns
returns c = λ p is. subst (λ xs. IfOk c.rows.result (λ rows. rows.items ≡ xs)) (constructors_fall p c.args.self.now is c.args.over) c.rows.ensures
