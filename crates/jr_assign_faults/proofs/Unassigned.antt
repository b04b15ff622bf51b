-- The locals that are found to be read and not assigned, and the blank finals that are found, are those of the rules.
use Rattle.std.proofs.Common.{◌≡◌, refl, subst, arith, ℕ, true, List, Result, Ok, Err, OnOk}
use Rattle.jr_tree.specs.Local.{IsLocal}
use Rattle.jr_rule.specs.declared.Fault.{Fault}
use Rattle.jr_rule.specs.declared.Rule.TheVariants as rule
use Rattle.jr_faults.specs.Added.{is_rule, AreOnly}
use Rattle.jr_faults.proofs.Told.{none_then}
use Rattle.jr_reach.specs.Statements as flow
use Rattle.jr_flow_faults.specs.Known as of_flow
use Rattle.jr_flow_faults.specs.Computed.{facts_in}
use Rattle.jr_flow_faults.proofs.Known as flow_known
use Rattle.jr_view.specs.declared.View.{View}
use Rattle.jr_assign.specs.Changes.{Facts}
use Rattle.jr_assign.specs.Confirmed.{are_last}
use Rattle.jr_assign.specs.Judged.{ReadsUnassigned, AreUnassignedReads}
use Rattle.jr_assign.specs.Blank.{IsLeftBlank}
use Rattle.jr_assign.specs.Made.{AreLeftBlank}
use Rattle.jr_assign.proofs.Judging.{has_each_last}
use Rattle.jr_assign_faults.specs.Changed.{rows_in, table_in}
use Rattle.jr_assign_faults.specs.Faults.{AreExactFaults}
use Rattle.jr_assign_faults.specs.Finals.{BreaksAssignment}
use Rattle.jr_assign_faults.specs.Known.{AreRead, AreKnown}
use Rattle.jr_assign_faults.proofs.Known.{known_once}

-- facts in another place
pub read_so : (view : View) {facts seen : Facts} → facts ≡ seen → AreRead (rows_in view) (table_in view) (facts_in view) facts → AreRead (rows_in view) (table_in view) (facts_in view) seen
read_so view same h = subst (λ (all : Facts). AreRead (rows_in view) (table_in view) (facts_in view) all) same h

module _ (view : View) (local : IsLocal (rows_in view)) (known : of_flow.AreKnown (rows_in view) (table_in view) (facts_in view)) (facts : Facts)
    (read : AreRead (rows_in view) (table_in view) (facts_in view) facts) (lasts : are_last (rows_in view) facts ≡ true) where
  mine : AreKnown (rows_in view) (table_in view) (facts_in view) facts
  mine = record { read = read; lasts = has_each_last (rows_in view) facts lasts }

  same_facts : (f : flow.Facts) (other : Facts) → of_flow.AreKnown (rows_in view) (table_in view) f → AreKnown (rows_in view) (table_in view) f other → other ≡ facts
  same_facts f other a b = known_once (rows_in view) local.tree (table_in view) (facts_in view) other facts
      (subst (λ (f : flow.Facts). AreKnown (rows_in view) (table_in view) f other) (flow_known.known_once (rows_in view) (table_in view) f (facts_in view) a known) b) mine

  broken_reads : (k n : ℕ) → k ≡ 38 → BreaksAssignment (rows_in view) (table_in view) k n → ReadsUnassigned (rows_in view) facts n
  broken_reads _ n e (BreaksAssignment.changed a b c d) = absurd (omega arith)
  broken_reads _ n e (BreaksAssignment.left_blank a b c) = absurd (omega arith)
  broken_reads _ n e (BreaksAssignment.unassigned {f = f} {facts = other} a b c) = subst (λ (all : Facts). ReadsUnassigned (rows_in view) all n) (same_facts f other a b) c

  broken_blanks : (k n : ℕ) → k ≡ 40 → BreaksAssignment (rows_in view) (table_in view) k n → IsLeftBlank (rows_in view) facts n
  broken_blanks _ n e (BreaksAssignment.changed a b c d) = absurd (omega arith)
  broken_blanks _ n e (BreaksAssignment.unassigned a b c) = absurd (omega arith)
  broken_blanks _ n e (BreaksAssignment.left_blank {f = f} {facts = other} a b c) = subst (λ (all : Facts). IsLeftBlank (rows_in view) all n) (same_facts f other a b) c

  pub reads_exact : (old new : List Fault) → AreUnassignedReads (rows_in view) facts old new → AreExactFaults view rule.UnassignedLocal old new
  reads_exact old new h = record {
    rows = h.rows;
    are = h.are;
    each = λ n. (λ e. BreaksAssignment.unassigned known mine ((h.each n).0 e), λ b. (h.each n).1 (broken_reads 38 n refl b));
  }

  pub blanks_exact : (old new : List Fault) → AreLeftBlank (rows_in view) facts old new → AreExactFaults view rule.UnassignedFinal old new
  blanks_exact old new h = record {
    rows = h.rows;
    are = h.are;
    each = λ n. (λ e. BreaksAssignment.left_blank known mine ((h.each n).0 e), λ b. (h.each n).1 (broken_blanks 40 n refl b));
  }

-- behind faults of the rule on finals
pub reads_behind : (view : View) (old mid new : List Fault) → AreOnly (is_rule rule.FinalAssignment) old mid → AreExactFaults view rule.UnassignedLocal mid new → AreExactFaults view rule.UnassignedLocal old new
reads_behind view old mid new only h = record { rows = h.rows; are = none_then rule.UnassignedLocal (only.others rule.UnassignedLocal refl) h.are; each = h.each }

pub blanks_behind : (view : View) (old mid new : List Fault) → AreOnly (is_rule rule.FinalAssignment) old mid → AreExactFaults view rule.UnassignedFinal mid new → AreExactFaults view rule.UnassignedFinal old new
blanks_behind view old mid new only h = record { rows = h.rows; are = none_then rule.UnassignedFinal (only.others rule.UnassignedFinal refl) h.are; each = h.each }

-- two facts of a result
pub on_ok_both : {T E P Q R : Type 0} (r : Result T E) → (P → Q → R) → OnOk r P → OnOk r Q → OnOk r R
on_ok_both (Ok x) f p q = f p q
on_ok_both (Err e) f p q = q
