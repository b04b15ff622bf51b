use Rattle.std.proofs.Common.{subst}
use Rattle.jr_plain.specs.Search.{Finds}
use Rattle.jr_bind.specs.Ranked.{rank_in}
use Rattle.jr_bind.specs.Rounds.{IsFirstOnRound}
use Rattle.jr_bind.proofs.Sighted.{first_found}
use Rattle.jr_bind.proofs.cycles.first_under.Goals as goal

pub returns-in-Some : goal.returns-in-Some
returns-in-Some c = λ whole. first_found c.args.ranked.now.sight whole (rank_in c.args.ranked.now.ranks.now) _ (c.in_ok-edges.ensures whole) c.in-Some.first
    (λ below. subst (λ found. Finds found (IsFirstOnRound c.in_ok-edges.edges)) c.in-Some.is (c.in_ok-found.ensures below))
