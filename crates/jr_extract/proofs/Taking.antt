-- The parts of a run, as they are found.
use Rattle.std.proofs.Common.{◌≡◌, refl, sym, ◌∙◌, ap, subst, arith, ℕ, zero, suc, ◌+◌, ◌-◌, ◌<◌, ◌≤◌, ◌^◌, true, false, ◌&&◌, length, List, Option, Some, None, nat_le}
use Rattle.jr_base.specs.declared.token.Span.{Span}
use Rattle.jr_base.specs.declared.token.Token.{Token}
use Rattle.jr_tree.specs.Rows.{Rows, end}
use Rattle.jr_plain.specs.Search.{first_below}
use Rattle.jr_marks.specs.declared.marks.Marks.{Marks}
use Rattle.jr_marks.specs.Places.{IsOrdered, tokens_of}
use Rattle.jr_marks.proofs.Firsts.{first_none, first_some}
use Rattle.jr_marks.proofs.Cuts.{from_passes}
use Rattle.jr_draft.specs.Drafting.{unit_row}
use Rattle.jr_extract.specs.declared.run.Run.{Run}
use Rattle.jr_extract.specs.declared.run.TokenRange.{TokenRange}
use Rattle.jr_extract.specs.Running.{begins_statement, end_from, end_of_statements, ends_at, ends_within, member_from, run_at, run_from, run_of, run_to, statement_at, tokens_in}
use Rattle.jr_extract.proofs.Counting.{end_here, end_more, within_rows}

-- ---- the first statement

-- the row of a unit can be counted, and the one behind it
pub top_fits : (m : Marks) (unit : ℕ) → IsOrdered m → unit < length m.units.now → unit_row m unit + 1 < 2 ^ 32
top_fits m unit ordered lt = let few = ordered.few in let same = ordered.begins in let within = ordered.within unit (end m.rows.now 0) (omega arith) in omega arith

module _ (m : Marks) (unit token top last : ℕ) (ordered : IsOrdered m) (lt : unit < length m.units.now) (same : top ≡ unit_row m unit) (is : top + 1 < 2 ^ 32 → last ≡ end m.rows.now top) where
  abbrev in_unit : Option ℕ
  in_unit = first_below (end m.rows.now top) (λ n. nat_le top n && begins_statement m token n)

  told : in_unit ≡ statement_at m unit token
  told = ap (λ t. first_below (end m.rows.now t) (λ n. nat_le t n && begins_statement m token n)) same

  ends : last ≡ end m.rows.now top
  ends = is (let fits = top_fits m unit ordered lt in omega arith)

  pub statement_found : (at : ℕ) → top ≤ at → at < last → begins_statement m token at ≡ true → ((k : ℕ) → k < at → (nat_le top k && begins_statement m token k) ≡ false) → Some at ≡ statement_at m unit token
  statement_found at from below passes fails = sym (first_some (λ n. nat_le top n && begins_statement m token n) (end m.rows.now top) at (let e = ends in omega arith) (from_passes top at _ from passes) fails) ∙ told

  pub statement_none : ((k : ℕ) → k < last → (nat_le top k && begins_statement m token k) ≡ false) → None ≡ statement_at m unit token
  statement_none fails = sym (first_none (λ n. nat_le top n && begins_statement m token n) (end m.rows.now top) (λ k below. fails k (let e = ends in omega arith))) ∙ told

-- ---- the last statement

module _ (m : Marks) (block token at behind turn : ℕ) (answer : Option ℕ) (ordered : IsOrdered m) (left : turn < length m.rows.now) (inside : ends_within m block token at ≡ true)
    (is : at + 1 < 2 ^ 32 → behind ≡ end m.rows.now at) (before : end_from m block token (length m.rows.now - turn) at ≡ answer) where
  fits : at + 1 < 2 ^ 32
  fits = let few = ordered.few in let lt = within_rows m block token at inside in omega arith

  turns : length m.rows.now - turn ≡ (length m.rows.now - (turn + 1)) + 1
  turns = omega (arith, left)

  pub end_on : ends_at m token at ≡ false → end_from m block token (length m.rows.now - (turn + 1)) behind ≡ answer
  end_on not_yet = ap (λ n. end_from m block token (length m.rows.now - (turn + 1)) n) (is fits) ∙ sym (end_more m block token (length m.rows.now - (turn + 1)) at inside not_yet) ∙ ap (λ k. end_from m block token k at) (sym turns) ∙ before

  pub end_found : ends_at m token at ≡ true → Some behind ≡ answer
  end_found last = ap Some (is fits) ∙ sym (end_here m block token (length m.rows.now - (turn + 1)) at inside last) ∙ ap (λ k. end_from m block token k at) (sym turns) ∙ before

pub end_over : (m : Marks) (block token at left : ℕ) (answer : Option ℕ) → left ≡ 0 → end_from m block token left at ≡ answer → None ≡ answer
end_over m block token at left answer none before = sym (ap (λ k. end_from m block token k at) none) ∙ before

pub member_over : (p : Rows) (at left : ℕ) (answer : Option ℕ) → left ≡ 0 → member_from p left at ≡ answer → None ≡ answer
member_over p at left answer none before = sym (ap (λ k. member_from p k at) none) ∙ before

-- ---- the run

pub run_taken : (m : Marks) (tokens : TokenRange) (first : ℕ) (behind : Option ℕ) (found : Option Run) → behind ≡ end_of_statements m first tokens.after → found ≡ run_to m tokens first behind → found ≡ run_from m tokens (Some first)
run_taken m tokens first behind found is made = made ∙ ap (run_to m tokens first) is

module _ (m : Marks) (unit : ℕ) (range : Span) (ts : List Token) (ordered : IsOrdered m) (of : ts ≡ tokens_of m unit) where
  counted : length ts < 2 ^ 32
  counted = let few = ordered.counts unit in let e = ap length of in omega arith

  pub run_some : (tokens : TokenRange) (first : Option ℕ) (found : Option Run) → (length ts < 2 ^ 32 → Some tokens ≡ tokens_in ts range) → first ≡ statement_at m unit tokens.first → found ≡ run_from m tokens first → found ≡ run_at m unit range
  run_some tokens first found is begins made = made ∙ ap (run_from m tokens) begins ∙ ap (run_of m unit) (is counted ∙ ap (λ ts. tokens_in ts range) of)

  pub run_none : (length ts < 2 ^ 32 → None ≡ tokens_in ts range) → None ≡ run_at m unit range
  run_none is = ap (run_of m unit) (is counted ∙ ap (λ ts. tokens_in ts range) of)
