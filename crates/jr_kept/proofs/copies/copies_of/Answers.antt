use Rattle.std.proofs.Common.{arith}
use Rattle.jr_kept.proofs.Counting.{counted_none}
use Rattle.jr_kept.proofs.copies.copies_of.Goals as goal

pub returns : goal.returns
returns c = c.count_all.ensures (counted_none c.args.origin.now c.args.names.now.body c.count_rows-count.result c.in_ok-copies.copies.items (c.in_ok-copies.ensures.items_if_clones_equal (λ y e. e))
    (let count = c.count_rows-count.ensures in let first = c.rows_of.ensures.first in let few = c.rows_of.ensures.few in let near = c.rows_of.ensures.near in omega (arith, count, first, few, near)))
