-- Rows of a tree are read as bodies want them.
use Rattle.std.proofs.Common.{ℕ, ◌+◌, ◌<◌, ◌^◌, length}
use Rattle.jr_tree.specs.Tree.{IsTree}
use Rattle.jr_supers.specs.Tabled.{IsSized}
use Rattle.jr_dispatch.specs.Methods.{IsWholeWorld}
use Rattle.jr_codes.specs.declared.source.Source.{Source}
use Rattle.jr_codes.specs.Reads.{rows_of, table_of, IsReadAt}
use Rattle.jr_elab.specs.Cores.{IsReadWhole}
use Rattle.jr_elab.specs.Stacked.{AreRead}

pub rows_are_read : (s : Source) → IsTree (rows_of s) → ((n : ℕ) → n < length (rows_of s) → IsReadAt s n) → AreRead s
rows_are_read s tree read = record {
  read = read;
  deep = record { more = λ k j after before. tree.nested j; inside = λ k j after before. tree.apart k j after before };
  more = tree.nested;
  last = tree.last;
}

-- a whole world tells all but how many rows there are
pub world_is_read : (s : Source) → IsWholeWorld (table_of s) s.view.now.sight.world → IsSized (rows_of s) → length (rows_of s) + 3 < 2 ^ 32 → IsReadWhole s
world_is_read s whole sized few = record {
  reads = rows_are_read s whole.world_is.seen.placed.local.tree
      (λ n inside. record { sized = sized; few = few; inside = inside; supers = whole.world_is.seen.above; signatures = whole.world_is.members_are.signatures_are });
  whole = whole;
}
