use Rattle.std.proofs.Common.{◌≡◌, None}
use Rattle.jr_kept.specs.Compared.{SameFrom}
use Rattle.jr_kept.proofs.Telling.{tells_both, tells_like}
use Rattle.jr_kept.proofs.Comparing.{both_ways}
use Rattle.jr_kept.proofs.control.Searches.compare.Goals as goal

pub returns : goal.returns
returns c = λ count s t side other ready lt. let old = c.args.old.now in let new = c.args.new.now in let x = c.args.name in
    let a = c.in_ok-run.ensures count s side ready.before lt in
    let b = c.in_ok-run-2.ensures count t other ready.after lt in
    let ways = both_ways c.run.new.self c.run-2.new.self old new s t count x c.least_beyond.result c.least_beyond-2.result a b c.least_beyond.ensures.none c.least_beyond.ensures.some c.least_beyond-2.ensures.none c.least_beyond-2.ensures.some in (
      record { before = a.ready; after = b.ready },
      tells_like c.args.lost.now c.put_new_to.new.lost ((c.least_beyond.result ≡ None) × (c.least_beyond-2.result ≡ None)) (SameFrom old s new t x) ways.0 ways.1
          (tells_both c.args.lost.now c.put_old_to.new.lost c.put_new_to.new.lost (c.least_beyond.result ≡ None) (c.least_beyond-2.result ≡ None) c.put_old_to.ensures c.put_new_to.ensures),
    )
