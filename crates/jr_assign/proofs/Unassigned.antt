-- The faults that are found are those of the rule on locals that are read.
use Rattle.std.proofs.Common.{◌≡◌, refl, sym, ◌∙◌, ap, subst, arith, ℕ, zero, suc, ◌<◌, Bool, true, false, List, length, Option, Some, None, replicate}
use Rattle.std.proofs.lemmas.Bool.{false≢true}
use Rattle.jr_tree.specs.Rows.{Rows}
use Rattle.jr_plain.proofs.Searches.{lists}
use Rattle.jr_rule.specs.declared.Fault.{Fault}
use Rattle.jr_rule.specs.declared.Rule.TheVariants as rule
use Rattle.jr_rule.specs.Faults.{AreFaultsOf}
use Rattle.jr_faults.specs.Added.{is_rule, AreOnly}
use Rattle.jr_faults.proofs.Told.{then_none, none_then}
use Rattle.jr_assign.specs.Changes.{Facts, fact, members, member_in}
use Rattle.jr_assign.specs.Sets.{only}
use Rattle.jr_assign.specs.Assigned.{Seen, AreAssigned}
use Rattle.jr_assign.specs.Confirmed.{IsWhole}
use Rattle.jr_assign.specs.Judged.{ReadsUnassigned, Verdicts, verdict, AreJudged, is_lost, lost_rows, is_settled, are_settled, AreUnassignedReads}
use Rattle.jr_assign.specs.Made.{AreLeftBlank}
use Rattle.jr_assign.proofs.Following.{each_member_once}
use Rattle.jr_assign.proofs.Judging.{none_some, each_below, has_each_last, read_within}

some_same : {A : Type 0} {x y : A} → Some x ≡ Some y → x ≡ y
some_same e = cc

module _ (p : Rows) (f : Facts) (whole : IsWhole p f) where
  module _ (all : Verdicts) (judged : AreJudged p f (members p (length p)) all) (settled : are_settled p f all ≡ true) where
    lost_reads : (n : ℕ) → (o : Option ℕ) (w : Option Bool) → (fact f n).read ≡ o → verdict all n ≡ w → is_lost o w ≡ true → ReadsUnassigned p f n
    lost_reads n None w e k h = absurd (false≢true h)
    lost_reads n (Some v) None e k h = absurd (false≢true h)
    lost_reads n (Some v) (Some true) e k h = absurd (false≢true h)
    lost_reads n (Some v) (Some false) e k h = let j = judged.each whole n false k in record { variable = j.variable; read = j.read; table = j.table; assigned = j.assigned; unassigned = j.is }

    reads_lost : (n : ℕ) → ReadsUnassigned p f n → n < length p → (o : Option ℕ) (w : Option Bool) → (fact f n).read ≡ o → verdict all n ≡ w → is_settled o w ≡ true → is_lost o w ≡ true
    reads_lost n r lt None w e k s = absurd (none_some (sym e ∙ r.read))
    reads_lost n r lt (Some v) None e k s = absurd (false≢true s)
    reads_lost n r lt (Some v) (Some false) e k s = refl
    reads_lost n r lt (Some v) (Some true) e k s =
        let j = judged.each whole n true k in
        let one : j.variable ≡ r.variable = some_same (sym j.read ∙ r.read) in
        let low = j.low in
        let same = each_member_once r.variable p f (member_in (members p (length p)) n) false whole.tree (omega arith) (has_each_last p f whole.lasts) j.parts j.table r.table
        (subst (λ v. AreAssigned (only v) p f (member_in (members p (length p)) n) false j.table) one j.assigned) r.assigned n j.low j.high in
        absurd (false≢true (sym r.unassigned ∙ sym (ap (λ (x : Seen Bool). x.before) same) ∙ j.is))

    within : (n : ℕ) → ReadsUnassigned p f n → n < length p
    within n r = read_within p f whole.lasts n r.read

    pub reads_told : (old new : List Fault) → AreFaultsOf rule.UnassignedLocal (lost_rows p f all) old new → AreUnassignedReads p f old new
    reads_told old new are = record {
      rows = lost_rows p f all;
      are = are;
      each = lists (λ n. is_lost (fact f n).read (verdict all n)) (ReadsUnassigned p f) (λ n. (
        λ h. lost_reads n (fact f n).read (verdict all n) refl refl h,
        λ r. reads_lost n r (within n r) (fact f n).read (verdict all n) refl refl (each_below (length p) (λ n. is_settled (fact f n).read (verdict all n)) settled n (within n r)),
      )) (length p) within;
    }

-- nothing is judged yet
pub no_verdict : (n : ℕ) (all : Verdicts) (m : ℕ) {b : Bool} → all ≡ replicate n None → verdict all m ≡ Some b → ⊥
no_verdict n all m is e = none_some (sym (ap (λ all. verdict all m) is ∙ none_at n m) ∙ e)
  where
    none_at : (n m : ℕ) → verdict (replicate n None) m ≡ None
    none_at zero m = refl
    none_at (suc n) zero = refl
    none_at (suc n) (suc m) = none_at n m

pub none_judged : (p : Rows) (f : Facts) (held : List ℕ) (n : ℕ) (all : Verdicts) → all ≡ replicate n None → AreJudged p f held all
none_judged p f held n all is = record { each = λ whole m b e. absurd (no_verdict n all m is e) }

-- what is judged of all members, from nothing on
pub all_judged : (p : Rows) (f : Facts) (held : List ℕ) (none found seen : Verdicts) → held ≡ members p (length p) → none ≡ replicate (length p) None
    → (AreJudged p f held none → AreJudged p f held found) → seen ≡ found → AreJudged p f (members p (length p)) seen
all_judged p f held none found seen h n more s = subst (λ all. AreJudged p f (members p (length p)) all) (sym s) (subst (λ ms. AreJudged p f ms found) h (more (none_judged p f held (length p) none n)))

-- faults of the other rule behind them
pub reads_then : (p : Rows) (f : Facts) (old mid new : List Fault) → AreUnassignedReads p f old mid → AreOnly (is_rule rule.UnassignedFinal) mid new → AreUnassignedReads p f old new
reads_then p f old mid new h only = record { rows = h.rows; are = then_none rule.UnassignedLocal h.are (only.others rule.UnassignedLocal refl); each = h.each }

pub then_blanks : (p : Rows) (f : Facts) (old mid new : List Fault) → AreOnly (is_rule rule.UnassignedLocal) old mid → AreLeftBlank p f mid new → AreLeftBlank p f old new
then_blanks p f old mid new only h = record { rows = h.rows; are = none_then rule.UnassignedFinal (only.others rule.UnassignedFinal refl) h.are; each = h.each }
