use Rattle.std.proofs.Common.{⊎_elim, refl, arith}
use Rattle.std.proofs.lemmas.Bool.{cases_lt}
use Rattle.std.proofs.lemmas.Result.{on_ok_weaker}
use Rattle.jr_kept.proofs.Listing.{listing_put, listing_left}
use Rattle.jr_kept.proofs.lists.Lists.add.Goals as goal

pub returns-in-Some : goal.returns-in-Some
returns-in-Some c = λ first count pairs h. on_ok_weaker c.put.result
    (λ is. listing_put c.args.self.now (record { first = c.args.self.now.first; lists = c.put.new.lists }) first count pairs c.args.number c.args.item c.in-Some.place h refl (let e = c.in-Some.ensures in let le = e.0 in let is = e.1 in omega (arith, le, is)) is)
    c.put.ensures

pub returns-in-None : goal.returns-in-None
returns-in-None c = λ first count pairs h. listing_left c.args.self.now first count pairs c.args.number c.args.item h (⊎_elim (λ lt. lt) (λ le. absurd (c.in-None.ensures le)) (cases_lt c.args.number c.args.self.now.first))
