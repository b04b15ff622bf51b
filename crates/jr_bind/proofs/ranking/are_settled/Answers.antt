use Rattle.std.proofs.Common.{◌≡◌, sym, subst, ℕ, ◌<◌, true}
use Rattle.std.proofs.lemmas.Result.{IfOk-weaker}
use Rattle.jr_bind.specs.Confirmed.{rows_of, table_of}
use Rattle.jr_bind.specs.Ranked.{IsRankedAt, AllSettled}
use Rattle.jr_bind.proofs.Ranked.{all_settled}
use Rattle.jr_bind.proofs.ranking.are_settled.Goals as goal

pub returns : goal.returns
returns c = λ sight. IfOk-weaker c.are_ranked.result
    (λ are. are ≡ true → (n : ℕ) → n < c.in-Ok.end → IsRankedAt (rows_of c.args.sight) (table_of c.args.sight) c.args.ranks.now n)
    (λ are. are ≡ true → AllSettled (rows_of c.args.sight) (table_of c.args.sight))
    (λ are ranked yes. all_settled (rows_of c.args.sight) (table_of c.args.sight) c.args.ranks.now (λ n lt. ranked yes n (subst (λ m. n < m) (let rows = c.in-Ok.ensures in sym rows.1) lt)))
    (c.are_ranked.ensures sight)
