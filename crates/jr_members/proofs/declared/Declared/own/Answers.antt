use Rattle.std.proofs.Common.{◌≡◌, subst, IfOk}
use Rattle.jr_members.proofs.Declaring.{own_falls}
use Rattle.jr_members.proofs.declared.Declared.own.Goals as goal

pub returns : goal.returns
returns c = λ p kind is. subst (λ xs. IfOk c.rows.result (λ rows. rows.items ≡ xs)) (own_falls p kind c.args.self.now is c.args.over c.args.name) c.rows.ensures
