use Rattle.std.proofs.Common.{◌≡◌, ◌∙◌, ap, subst, IfOk}
use Rattle.jr_members.proofs.Declaring.{rows_like, like_falls}
use Rattle.jr_members.proofs.callables.Callables.declared_like.Goals as goal

pub returns-in-Some : goal.returns-in-Some
returns-in-Some c = λ p t is signed callable. subst (λ xs. IfOk c.rows.result (λ rows. rows.items ≡ xs))
    (ap (λ o. rows_like o c.args.self.now.by_signature c.args.over) c.in-Some.ensures ∙ like_falls p t c.args.self.now is c.args.over c.args.at signed callable) c.rows.ensures

pub returns-in-None : goal.returns-in-None
returns-in-None c = λ p t is signed callable. c.new.ensures.items ∙ ap (λ o. rows_like o c.args.self.now.by_signature c.args.over) c.in-None.ensures ∙ like_falls p t c.args.self.now is c.args.over c.args.at signed callable
