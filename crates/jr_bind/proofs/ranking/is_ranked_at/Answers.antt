use Rattle.std.proofs.Common.{◌≡◌, true}
use Rattle.std.proofs.lemmas.Result.{IfOk-weaker}
use Rattle.jr_bind.specs.Confirmed.{rows_of, table_of}
use Rattle.jr_bind.specs.Ranked.{IsHeaderBelow, IsRankedAt}
use Rattle.jr_bind.proofs.ranking.is_ranked_at.Goals as goal

pub returns : goal.returns
returns c = λ sight. IfOk-weaker c.is_header_below.result
    (λ is. is ≡ true → IsHeaderBelow (rows_of c.args.sight) (table_of c.args.sight) c.args.ranks.now c.args.at)
    (λ is. is ≡ true → IsRankedAt (rows_of c.args.sight) (table_of c.args.sight) c.args.ranks.now c.args.at)
    (λ is below yes. record { inner = c.is_above_outer.ensures c.if-not-is_above_outer.false; header = below yes })
    (c.is_header_below.ensures sight)
