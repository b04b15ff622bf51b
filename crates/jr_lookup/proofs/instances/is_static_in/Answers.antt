use Rattle.std.proofs.Common.{subst}
use Rattle.jr_plain.specs.Search.{Finds}
use Rattle.jr_lookup.specs.Instances.{IsMemberRound}
use Rattle.jr_lookup.proofs.Instancing.{static_some, static_none}
use Rattle.jr_lookup.proofs.instances.is_static_in.Goals as goal

pub returns-in-Some : goal.returns-in-Some
returns-in-Some c = λ tree i. static_some c.args.rows.now c.args.place c.args.over c.in-Some.member _
    (subst (λ f. Finds f (IsMemberRound c.args.rows.now c.args.place c.args.over)) c.in-Some.is (c.member_round.ensures tree i)) c.is_static_member.ensures

pub returns-in-None : goal.returns-in-None
returns-in-None c = λ tree i. static_none c.args.rows.now c.args.place c.args.over (subst (λ f. Finds f (IsMemberRound c.args.rows.now c.args.place c.args.over)) c.in-None.is (c.member_round.ensures tree i))
