use Rattle.std.proofs.Common.{◌∙◌, sym}
use Rattle.std.proofs.lemmas.Bool.Decides.{Decides-eqb}
use Rattle.jr_bind.specs.Rounds.{count_at}
use Rattle.jr_bind.proofs.LeftOut.{taking_put}
use Rattle.jr_bind.proofs.rounds.put_if_free.Goals as goal

pub returns-in_ok-put : goal.returns-in_ok-put
returns-in_ok-put c = λ edges bound left rest h. taking_put edges bound _ _ left _ _ rest c.args.counts.now c.args.at
    ((Decides-eqb (count_at c.args.counts.now c.args.at) 0).0 (sym c.has_none-is_free.ensures ∙ c.if-is_free.true)) (c.in_ok-put.ensures bound h.counted) h
