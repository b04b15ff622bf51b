use Rattle.std.proofs.Common.{⊎_elim, arith}
use Rattle.std.proofs.lemmas.Bool.{cases_lt}
use Rattle.jr_kept.proofs.Counting.{counted_here, counted_past}
use Rattle.jr_kept.proofs.copies.count_one.Goals as goal

pub returns-in-Some : goal.returns-in-Some
returns-in-Some c = λ origin i at h. let e = c.in-Some.ensures in let le = e.0 in let is = e.1 in
    counted_here origin c.args.body i c.args.from c.in-Some.place c.args.copies.now.items c.add_one.new.copies.items at (omega (arith, le, is)) c.add_one.ensures h

pub returns-in-None : goal.returns-in-None
returns-in-None c = λ origin i at h. counted_past origin c.args.body i c.args.from c.args.copies.now.items at (⊎_elim (λ lt. lt) (λ le. absurd (c.in-None.ensures le)) (cases_lt c.args.from c.args.body)) h
