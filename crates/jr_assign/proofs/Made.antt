-- The faults that are found are those of the rule on blank final fields.
use Rattle.std.proofs.Common.{◌≡◌, refl, sym, ◌∙◌, ap, subst, ⊎_elim, arith, ℕ, ◌+◌, ◌-◌, ◌<◌, ◌≤◌, Bool, true, false, if◌then◌else◌, List, length, Option, Some, None, replicate}
use Rattle.std.proofs.lemmas.Bool.{false≢true, cases_eq, cases_lt}
use Rattle.std.proofs.lemmas.Bool.Decides.{Decides-eqb}
use Rattle.jr_tree.specs.Rows.{Rows, parent, end}
use Rattle.jr_tree.specs.Tree.{IsTree}
use Rattle.jr_plain.proofs.Children.{child_below}
use Rattle.jr_plain.proofs.Searches.{lists}
use Rattle.jr_rule.specs.declared.Fault.{Fault}
use Rattle.jr_rule.specs.declared.Rule.TheVariants as rule
use Rattle.jr_rule.specs.Faults.{AreFaultsOf}
use Rattle.jr_assign.specs.Changes.{Facts, field_body}
use Rattle.jr_assign.specs.Assigned.{has_last, has_parts}
use Rattle.jr_assign.specs.Confirmed.{IsWhole}
use Rattle.jr_assign.specs.Judged.{Verdicts, verdict, is_lost, is_settled}
use Rattle.jr_assign.specs.Blank.{is_first, is_blank_in, is_blank, IsBefore, IsLeftBlank, HaveParts}
use Rattle.jr_assign.specs.Made.{IsBuilt, IsMade, AreFieldsJudged, blank_field, left_rows, are_fields_settled, AreLeftBlank}
use Rattle.jr_assign.proofs.Inside.{both_true, inside_ends, past_label}
use Rattle.jr_assign.proofs.Judging.{each_below, has_each_last}
use Rattle.jr_assign.proofs.Ended.{first_within}
use Rattle.jr_assign.proofs.Blank.{ends_once, before_once}
use Rattle.jr_assign.proofs.Unassigned.{no_verdict}

-- ---- rows past the end

blank_within : (p : Rows) (v : ℕ) → is_blank p v ≡ true → v < length p
blank_within p v e = ⊎_elim (λ lt. lt) (λ past. absurd (false≢true (sym (ap (λ l. is_blank_in l p v) (past_label p v past)) ∙ e))) (cases_lt v (length p))

-- ---- what is found of a field, and the rule

module _ (p : Rows) (f : Facts) (whole : IsWhole p f) where
  abbrev tree : IsTree p
  tree = whole.tree

  lasts : (n : ℕ) → has_last p f n ≡ true
  lasts = has_each_last p f whole.lasts

  parts : (n : ℕ) → n < length p → has_parts p f n ≡ true
  parts = each_below (length p) (has_parts p f) whole.parts

  body_parts : (body : ℕ) → HaveParts p f body
  body_parts body k up low = let inside = child_below p tree body k (low, up) in (inside, λ n from to. parts n (inside_ends p tree k n inside to))

  -- a constructor of the body stands in it
  record StandsIn (body c : ℕ) : Type 0 where
    there : c < length p
    low : body ≤ c
    high : c < body + (end p body - body)

  stands_in : (body c : ℕ) → is_first p body c ≡ true → StandsIn body c
  stands_in body c first = let up : parent p c ≡ body = (Decides-eqb (parent p c) body).0 (both_true _ _ (both_true _ _ first).1).0 in
      let there = first_within p body c first in
      ⊎_elim (λ at. first_row there at up) (λ apart. inside there (omega arith) up) (cases_eq c 0)
    where
      first_row : c < length p → c ≡ 0 → parent p c ≡ body → StandsIn body c
      first_row there at up = let over : parent p c ≡ 0 = ap (parent p) at ∙ tree.root in let some = tree.nested body in record { there = there; low = omega arith; high = omega arith }

      inside : c < length p → 0 < c → parent p c ≡ body → StandsIn body c
      inside there after up = let low = tree.up c there after in let held : c < end p body = subst (λ q. c < end p q) up (tree.held c there after) in record { there = there; low = omega arith; high = omega arith }

  made_left : (v : ℕ) → is_blank p v ≡ true → (b : Bool) → b ≡ false → IsMade p f v b → IsLeftBlank p f v
  made_left v blank b e (IsMade.of_class is before) = IsLeftBlank.of_class blank is (subst (λ b. IsBefore v p f (field_body p v) true (end p (field_body p v)) b) e before)
  made_left v blank b e (IsMade.of_instances is before (IsBuilt.never first ends)) = IsLeftBlank.of_instances blank is first before ends
  made_left v blank b e (IsMade.of_instances is before (IsBuilt.always all)) = absurd (false≢true (sym e))

  made_not : (v : ℕ) → (b : Bool) → b ≡ true → IsMade p f v b → IsLeftBlank p f v → ⊥
  made_not v b e (IsMade.of_class is before) (IsLeftBlank.of_class blank static other) = false≢true (before_once v p f tree lasts (field_body p v) true (body_parts (field_body p v)) other before refl ∙ e)
  made_not v b e (IsMade.of_class is before) (IsLeftBlank.of_instances blank static first start ends) = false≢true (sym static ∙ is)
  made_not v b e (IsMade.of_instances is before built) (IsLeftBlank.of_class blank static other) = false≢true (sym is ∙ static)
  made_not v b e (IsMade.of_instances is before (IsBuilt.never first ends)) (IsLeftBlank.of_instances blank static other start left) = false≢true e
  made_not v b e (IsMade.of_instances {start = begun} is before (IsBuilt.always all)) (IsLeftBlank.of_instances {c = c} {start = start} blank static first other left) =
      let at = stands_in (field_body p v) c first in
      false≢true (ends_once v p f tree lasts c at.there (λ n low high. parts n (inside_ends p tree c n at.there high)) start begun false true
      (before_once v p f tree lasts (field_body p v) false (body_parts (field_body p v)) other before refl) left (all c at.low at.high first))

  module _ (all : Verdicts) (judged : AreFieldsJudged p f all) (settled : are_fields_settled p all ≡ true) where
    lost_left : (v : ℕ) (b : Bool) (w : Option Bool) → is_blank p v ≡ b → verdict all v ≡ w → is_lost (if b then Some v else None) w ≡ true → IsLeftBlank p f v
    lost_left v false w e k h = absurd (false≢true h)
    lost_left v true None e k h = absurd (false≢true h)
    lost_left v true (Some true) e k h = absurd (false≢true h)
    lost_left v true (Some false) e k h = made_left v e false refl (judged.each whole v false k)

    is_blank_of : (v : ℕ) → IsLeftBlank p f v → is_blank p v ≡ true
    is_blank_of v (IsLeftBlank.of_class blank static before) = blank
    is_blank_of v (IsLeftBlank.of_instances blank static first before ends) = blank

    left_lost : (v : ℕ) → IsLeftBlank p f v → (b : Bool) (w : Option Bool) → is_blank p v ≡ b → verdict all v ≡ w → is_settled (if b then Some v else None) w ≡ true → is_lost (if b then Some v else None) w ≡ true
    left_lost v left false w e k s = absurd (false≢true (sym e ∙ is_blank_of v left))
    left_lost v left true None e k s = absurd (false≢true s)
    left_lost v left true (Some false) e k s = refl
    left_lost v left true (Some true) e k s = absurd (made_not v true refl (judged.each whole v true k) left)

    within : (v : ℕ) → IsLeftBlank p f v → v < length p
    within v left = blank_within p v (is_blank_of v left)

    blanks_by : (old new : List Fault) → AreFaultsOf rule.UnassignedFinal (left_rows p all) old new → AreLeftBlank p f old new
    blanks_by old new are = record {
      rows = left_rows p all;
      are = are;
      each = lists (λ v. is_lost (blank_field p v) (verdict all v)) (IsLeftBlank p f) (λ v. (
        λ h. lost_left v (is_blank p v) (verdict all v) refl refl h,
        λ left. left_lost v left (is_blank p v) (verdict all v) refl refl (each_below (length p) (λ v. is_settled (blank_field p v) (verdict all v)) settled v (within v left)),
      )) (length p) within;
    }

pub blanks_told : (p : Rows) (f : Facts) (all : Verdicts) → are_fields_settled p all ≡ true → (old new : List Fault) → AreFaultsOf rule.UnassignedFinal (left_rows p all) old new
    → IsWhole p f → AreFieldsJudged p f all → AreLeftBlank p f old new
blanks_told p f all settled old new are whole judged = blanks_by p f whole all judged settled old new are

-- what is judged of all fields, from nothing on
pub fields_judged : (p : Rows) (f : Facts) (none found seen : Verdicts) → none ≡ replicate (length p) None → (AreFieldsJudged p f none → AreFieldsJudged p f found) → seen ≡ found → AreFieldsJudged p f seen
fields_judged p f none found seen n more s = subst (AreFieldsJudged p f) (sym s) (more (record { each = λ whole v b e. absurd (no_verdict (length p) none v n e) }))
