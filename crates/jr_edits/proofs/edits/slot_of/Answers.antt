use Rattle.std.proofs.Common.{◌≡◌, ℕ, ◌<◌, ◌≤◌, true, false, rules, arith}
use Rattle.std.proofs.lemmas.Bool.Decides.{nat_tests}
use Rattle.std.proofs.lemmas.List.Sorted.{IsPartitionedBy-leb, IsPartitionPoint-from_clause}
use Rattle.std.specs.Prelude.{nat_le}
use Rattle.jr_edits.specs.declared.edit.Edit.{Edit}
use Rattle.jr_edits.proofs.edits.slot_of.Goals as goal

passes : (m n : ℕ) → nat_le m n ≡ true → m ≤ n
passes m n e = grind (arith, nat_tests)

fails : (m n : ℕ) → nat_le m n ≡ false → n < m
fails m n e = grind (arith, nat_tests)

pub returns : goal.returns
returns c =
    let facts = c.partition_point.ensures in
    let span = c.args.span in
    let edits = c.args.edits.now in
    let point = IsPartitionPoint-from_clause (λ (e : Edit). nat_le e.span.end span.start) edits c.partition_point.result facts.partitioned
    (IsPartitionedBy-leb (λ (e : Edit). e.span.end) edits span.start c.requires) (λ a r f called. search rules) in
    let bound = facts.bound in
    record {
      within = bound;
      before = λ k d lt. passes _ _ (point.0 k d (omega arith) lt);
      after = λ d lt. fails _ _ (point.1 c.partition_point.result d (omega arith) lt);
    }
