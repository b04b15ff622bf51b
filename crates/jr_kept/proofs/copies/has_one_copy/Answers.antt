use Rattle.std.proofs.Common.{sym, ◌∙◌, arith}
use Rattle.jr_kept.proofs.Counting.{counted_tells}
use Rattle.jr_kept.proofs.copies.has_one_copy.Goals as goal

pub returns-in-Some-count_at : goal.returns-in-Some-count_at
returns-in-Some-count_at c = λ origin h. let e = c.in-Some.ensures in let le = e.0 in let is = e.1 in
    counted_tells origin c.args.copies.now c.args.body c.args.row c.in-Some.place c.in-Some-count_at.number h (omega (arith, le, is)) (sym c.count_at.ensures ∙ c.in-Some-count_at.is)
