use Rattle.std.proofs.Common.{sym, ◌∙◌}
use Rattle.jr_dispatch.proofs.Linking.{first_joined, none_joined}
use Rattle.jr_dispatch.proofs.families.join_first.Goals as goal

pub returns-in_ok-join-in-Some : goal.returns-in_ok-join-in-Some
returns-in_ok-join-in-Some c = first_joined c.args.all.now _ _ _ (sym c.item_at.ensures ∙ c.in-Some.is) c.in_ok-join-in-Some.ensures

pub returns-in-None : goal.returns-in-None
returns-in-None c = none_joined c.args.all.now _ (sym c.item_at.ensures ∙ c.in-None.is)
