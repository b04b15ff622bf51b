-- The rows of a body from the last one back.
use Rattle.std.proofs.Common.{◌≡◌, sym, subst, ℕ, ◌+◌, ◌-◌, ◌<◌, ◌≤◌, ◌^◌, [], length, arith, Option}
use Rattle.jr_defs.specs.declared.referent.RowType.{RowType}
use Rattle.jr_tree.specs.Rows.{end}
use Rattle.jr_codes.specs.declared.source.Source.{Source}
use Rattle.jr_codes.specs.Reads.{rows_of, facts}
use Rattle.jr_expressions.specs.Stacks.{Stacks, stacks_of, Makes, WaitsFrom}
use Rattle.jr_expressions.proofs.Joined.{row_waits, none_waits}
use Rattle.jr_expressions.proofs.Operated.{one_counted}
use Rattle.jr_elab.specs.Stacked.{AreRead}

-- so far the parts of the rows from this one on wait
pub record WaitsSo (s : Source) (outcome : Option RowType) (n row : ℕ) (start now : Stacks) : Type 0 where
  pub least : AreRead s → n < length (rows_of s) → n + 1 ≤ row
  pub most : AreRead s → n < length (rows_of s) → row ≤ end (rows_of s) n
  pub waits : AreRead s → n < length (rows_of s) → start ≡ stacks_of [] → WaitsFrom (facts s) outcome row (end (rows_of s) n) now

after : (n e : ℕ) → n < e → n + 1 ≤ e
after n e lt = omega (arith, lt)

itself : (e row : ℕ) → row ≡ e → e ≤ row
itself e row same = omega (arith, same)

not_more : (e row : ℕ) → row ≡ e → row ≤ e
not_more e row same = omega (arith, same)

pub waits_none : (s : Source) (outcome : Option RowType) (n row : ℕ) (start : Stacks) → (n + 1 < 2 ^ 32 → row ≡ end (rows_of s) n) → WaitsSo s outcome n row start start
waits_none s outcome n row start same = record {
  least = λ all inside. subst (λ k. n + 1 ≤ k) (sym (same (one_counted (all.read n inside)))) (after n (end (rows_of s) n) (all.more n));
  most = λ all inside. not_more (end (rows_of s) n) row (same (one_counted (all.read n inside)));
  waits = λ all inside none. subst (λ x. WaitsFrom (facts s) outcome row (end (rows_of s) n) x) (sym none) (none_waits (itself (end (rows_of s) n) row (same (one_counted (all.read n inside)))));
}

still_inside : (row stop : ℕ) → row + 1 ≤ stop → row < stop
still_inside row stop le = omega (arith, le)

in_rows : (row stop len : ℕ) → row < stop → stop ≤ len → row < len
in_rows row stop len lt le = omega (arith, lt, le)

behind_first : (n first row k : ℕ) → first ≡ n + 1 → first ≤ row → row ≤ k → n < k
behind_first n first row k is le more = omega (arith, is, le, more)

from_first : (n first row : ℕ) → first ≡ n + 1 → first ≤ row → n + 1 ≤ row
from_first n first row is le = omega (arith, is, le)

one_back : (row stop : ℕ) → row + 1 ≤ stop → row ≤ stop
one_back row stop le = omega (arith, le)

waits_more : (s : Source) (outcome : Option RowType) (n first row : ℕ) (start old new : Stacks) → WaitsSo s outcome n (row + 1) start old → (n + 1 < 2 ^ 32 → first ≡ n + 1) → first ≤ row
    → Makes s outcome row old new → WaitsSo s outcome n row start new
waits_more s outcome n first row start old new so is le makes = record {
  least = λ all inside. from_first n first row (is (one_counted (all.read n inside))) le;
  most = λ all inside. one_back row (end (rows_of s) n) (so.most all inside);
  waits = λ all inside none.
      let stop : ℕ = end (rows_of s) n in let here : first ≡ n + 1 = is (one_counted (all.read n inside)) in
      let less : row < stop = still_inside row stop (so.most all inside) in
      row_waits (all.read row (in_rows row stop (length (rows_of s)) less (all.last n inside))) all.deep
      (record {
        more = λ k from lt. all.deep.more n k (behind_first n first row k here le from) lt;
        inside = λ k from lt. all.deep.inside n k (behind_first n first row k here le from) lt;
      }) less (so.waits all inside none) makes;
}

sub_one : (first row : ℕ) → first < row → row ≡ row - 1 + 1
sub_one first row lt = omega (arith, lt)

not_first : (first row : ℕ) → first < row → first ≤ row - 1
not_first first row lt = omega (arith, lt)

pub waits_back : (s : Source) (outcome : Option RowType) (n first row : ℕ) (start old new : Stacks) → WaitsSo s outcome n row start old → (n + 1 < 2 ^ 32 → first ≡ n + 1) → first < row
    → Makes s outcome (row - 1) old new → WaitsSo s outcome n (row - 1) start new
waits_back s outcome n first row start old new so is lt makes =
    waits_more s outcome n first (row - 1) start old new (subst (λ k. WaitsSo s outcome n k start old) (sub_one first row lt) so) is (not_first first row lt) makes

same_row : (n first row : ℕ) → row ≤ first → first ≡ n + 1 → n + 1 ≤ row → row ≡ n + 1
same_row n first row le is least = omega (arith, le, is, least)

pub waits_all : (s : Source) (outcome : Option RowType) (n first row : ℕ) (start now : Stacks) → WaitsSo s outcome n row start now → (n + 1 < 2 ^ 32 → first ≡ n + 1) → row ≤ first → AreRead s → n < length (rows_of s)
    → start ≡ stacks_of [] → WaitsFrom (facts s) outcome (n + 1) (end (rows_of s) n) now
waits_all s outcome n first row start now so is le all inside none =
    subst (λ k. WaitsFrom (facts s) outcome k (end (rows_of s) n) now) (same_row n first row le (is (one_counted (all.read n inside))) (so.least all inside)) (so.waits all inside none)
