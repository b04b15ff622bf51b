use Rattle.std.proofs.Common.{◌≡◌, ◌+◌, drop}
use Rattle.std.specs.Prelude.{nat_le}
use Rattle.std.specs.List.{prefix_len}
use Rattle.jr_store.proofs.record.Record.count_until.Given as goal

abbrev pub invariant-loop-index : goal.invariant-loop-index
invariant-loop-index l =
    prefix_len (λ e. nat_le e.number l.number) l.entry-items ≡ l.index + prefix_len (λ e. nat_le e.number l.number) (drop l.index l.entry-items)
