use Rattle.std.proofs.Common.{◌<◌, ⊎_elim, refl, arith, length}
use Rattle.std.proofs.lemmas.Bool.{cases_lt}
use Rattle.jr_kept.proofs.Listing.{set_put, put_past}
use Rattle.jr_kept.proofs.lists.put.Goals as goal

pub returns-in_ok-push : goal.returns-in_ok-push
returns-in_ok-push c = let lt : c.args.place < length c.args.lists.now.items = let below = c.in-Some.ensures.variant.0 refl in let ok = c.args.lists.now.ok.0 in omega (arith, below, ok) in
    set_put (λ list. list.items) c.args.lists.now.items c.args.place c.args.item c.in-Some.list.now c.push.new.self c.in-Some.ensures.value lt c.in_ok-push.ensures.items

pub returns-in_default : goal.returns-in_default
returns-in_default c = ⊎_elim
    (λ lt. absurd (let ok = c.args.lists.now.ok.0 in let e = c.in_default.ensures.variant.1 (omega (arith, ok, lt)) in cc))
    (λ le. put_past (λ list. list.items) c.args.lists.now.items c.args.place c.args.item le)
    (cases_lt c.args.place (length c.args.lists.now.items))
