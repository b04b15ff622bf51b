use Rattle.std.proofs.Common.{◌≡◌, ◌∙◌, ap, subst, arith, length}
use Rattle.jr_type_facts.specs.Views.{rows_in, table_in, types_in}
use Rattle.jr_type_facts.specs.Tables.{grown, member_by, call_by, initializer_by}
use Rattle.jr_type_facts.specs.Rounds.{called_to, AreRounds}
use Rattle.jr_type_facts.proofs.Membership.{members_told}
use Rattle.jr_type_facts.proofs.Calling.{calls_told}
use Rattle.jr_type_facts.proofs.Initials.{initializers_told}
use Rattle.jr_type_facts.proofs.Walking.{rounds_are}
use Rattle.jr_type_facts.proofs.tables.Tables.of.Goals as goal

pub returns-clause-right : goal.returns-clause-right
returns-clause-right c = λ right. let p = rows_in c.args.view in let local = right.seen.placed.local in let whole : c.in-Ok.count ≡ length p = omega (arith, c.in-Ok.ensures) in record {
  members_are = members_told p local.tree _ (c.in_ok-members.ensures ∙ ap (grown (member_by p)) whole);
  calls_are = calls_told p local _ (c.in_ok-calls.ensures ∙ ap (grown (call_by p)) whole);
  initializers_are = initializers_told p (table_in c.args.view) (types_in c.args.view) local _ (c.in_ok-initializers.ensures right.sized ∙ ap (grown (initializer_by p (table_in c.args.view) (types_in c.args.view))) whole);
  throwable_is = c.find_throwable.ensures whole;
}

pub returns-clause-repeated : goal.returns-clause-repeated
returns-clause-repeated c = λ right. let whole : c.in-Ok.count ≡ length (rows_in c.args.view) = omega (arith, c.in-Ok.ensures) in c.in_ok-repeated.ensures right whole

pub returns-clause-rounds : goal.returns-clause-rounds
returns-clause-rounds c = λ one. let p = rows_in c.args.view in let t = table_in c.args.view in let whole : c.in-Ok.count ≡ length p = omega (arith, c.in-Ok.ensures) in
    rounds_are p t one _ (subst (λ n. AreRounds (called_to p t n) c.in_ok-rounds.rounds.items) whole (c.in_ok-rounds.ensures whole))
