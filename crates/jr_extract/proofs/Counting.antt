-- Runs: tokens that are counted, statements one behind the other, and rows outwards.
use Rattle.std.proofs.Common.{◌≡◌, refl, sym, ◌∙◌, ap, ⊎_elim, arith, ℕ, zero, suc, ◌+◌, ◌-◌, ◌<◌, ◌≤◌, ◌^◌, Bool, true, false, cond, not, ◌&&◌, length, List, Option, Some, None, nat_eq, nat_le, nat_lt, Decides, add-one}
use Rattle.std.proofs.lemmas.Bool.{false≢true, cases_lt}
use Rattle.std.proofs.lemmas.Bool.Decides.{Decides-ltb}
use Rattle.std.proofs.lemmas.Option.{none-some, same_Some}
use Rattle.std.specs.Option.{option_or}
use Rattle.jr_tree.specs.declared.label.Role.{Role}
use Rattle.jr_tree.specs.declared.label.Role.TheVariants as role
use Rattle.jr_tree.specs.Labels.{role_of}
use Rattle.jr_tree.specs.Rows.{Rows, end, label, parent, role_at}
use Rattle.jr_plain.specs.Declarations.{is_type}
use Rattle.jr_plain.specs.Search.{first_below}
use Rattle.jr_supers.specs.Tabled.{is_callable}
use Rattle.jr_marks.specs.declared.marks.Marks.{Marks}
use Rattle.jr_marks.specs.Places.{tokens_of}
use Rattle.jr_marks.proofs.Firsts.{label_past}
use Rattle.jr_base.specs.declared.token.Span.{Span}
use Rattle.jr_change.specs.declared.change.RowRange.{RowRange}
use Rattle.jr_draft.specs.Asking.{unit_of_file}
use Rattle.jr_extract.specs.declared.run.Run.{Run}
use Rattle.jr_extract.specs.declared.run.TokenRange.{TokenRange}
use Rattle.jr_extract.specs.Running.{constructor_call, end_from, end_of_statements, ends_at, ends_within, is_in_block, is_member, member_from, member_round, run_at, run_from, run_in, run_of, run_to, run_without, statement_at, tokens_in}

-- ---- numbers that are found

-- what is found is below
pub found_below : (test : ℕ → Bool) (n k : ℕ) → first_below n test ≡ Some k → k < n
found_below test zero k h = absurd (none-some k h)
found_below test (suc n) k h = by (first_below n test) (test n) (λ f. found_below test n k f) h
  where
    by : (found : Option ℕ) (b : Bool) → (found ≡ Some k → k < n) → option_or found (cond b (Some n) None) ≡ Some k → k < suc n
    by (Some j) b before h = let lt = before h in omega arith
    by None true before h = let e = same_Some n k h in omega arith
    by None false before h = absurd (none-some k h)

-- the unit of a file is there
pub unit_within : (m : Marks) (file : List ℕ) (unit : ℕ) → unit_of_file m file ≡ Some unit → unit < length m.units.now
unit_within m file unit h = found_below _ (length m.units.now) unit h

-- both tests pass
both : (a b : Bool) → (a && b) ≡ true → (a ≡ true) × (b ≡ true)
both true b h = (refl, h)
both false b h = absurd (false≢true h)

-- ---- tests that are turned

pub negated : (b : Bool) → not b ≡ true → b ≡ false
negated true h = absurd (false≢true h)
negated false h = refl

pub kept_within : (b : Bool) → not b ≡ false → b ≡ true
kept_within true h = refl
kept_within false h = absurd (false≢true (sym h))

-- ---- statements

-- a row that stands in the block is written
pub within_rows : (m : Marks) (block token n : ℕ) → ends_within m block token n ≡ true → n < length m.rows.now
within_rows m block token n h = (Decides-ltb n (length m.rows.now)).0 (both _ _ (both _ _ h).0).0

-- one statement more
pub end_more : (m : Marks) (block token more n : ℕ) → ends_within m block token n ≡ true → ends_at m token n ≡ false → end_from m block token (more + 1) n ≡ end_from m block token more (end m.rows.now n)
end_more m block token more n is not_yet = ap (λ j. end_from m block token j n) (add-one more) ∙ by (ends_within m block token n) (ends_at m token n) is not_yet
  where
    by : (a b : Bool) → a ≡ true → b ≡ false → cond a (cond b (Some (end m.rows.now n)) (end_from m block token more (end m.rows.now n))) None ≡ end_from m block token more (end m.rows.now n)
    by true false x y = refl
    by true true x y = absurd (false≢true (sym y))
    by false b x y = absurd (false≢true x)

-- the last one
pub end_here : (m : Marks) (block token more n : ℕ) → ends_within m block token n ≡ true → ends_at m token n ≡ true → end_from m block token (more + 1) n ≡ Some (end m.rows.now n)
end_here m block token more n is last = ap (λ j. end_from m block token j n) (add-one more) ∙ by (ends_within m block token n) (ends_at m token n) is last
  where
    by : (a b : Bool) → a ≡ true → b ≡ true → cond a (cond b (Some (end m.rows.now n)) (end_from m block token more (end m.rows.now n))) None ≡ Some (end m.rows.now n)
    by true true x y = refl
    by true false x y = absurd (false≢true y)
    by false b x y = absurd (false≢true x)

-- it is no statement of the block, or goes on behind the token
pub end_none : (m : Marks) (block token more n : ℕ) → ends_within m block token n ≡ false → end_from m block token more n ≡ None
end_none m block token zero n is = refl
end_none m block token (suc more) n is = ap (λ b. cond b (cond (ends_at m token n) (Some (end m.rows.now n)) (end_from m block token more (end m.rows.now n))) None) is

-- ---- outwards

pub member_here : (p : Rows) (more n : ℕ) → is_member p n ≡ true → member_from p (more + 1) n ≡ Some n
member_here p more n is = ap (λ j. member_from p j n) (add-one more) ∙ ap (λ b. cond b (Some n) (cond (is_type p n) None (member_from p more (parent p n)))) is

pub member_stops : (p : Rows) (more n : ℕ) → is_member p n ≡ false → is_type p n ≡ true → member_from p (more + 1) n ≡ None
member_stops p more n is type = ap (λ j. member_from p j n) (add-one more) ∙ ap (λ b. cond b (Some n) (cond (is_type p n) None (member_from p more (parent p n)))) is
    ∙ ap (λ b. cond b None (member_from p more (parent p n))) type

pub member_more : (p : Rows) (more n : ℕ) → is_member p n ≡ false → is_type p n ≡ false → member_from p (more + 1) n ≡ member_from p more (parent p n)
member_more p more n is type = ap (λ j. member_from p j n) (add-one more) ∙ ap (λ b. cond b (Some n) (cond (is_type p n) None (member_from p more (parent p n)))) is
    ∙ ap (λ b. cond b None (member_from p more (parent p n))) type

-- a member is written
member_within : (p : Rows) (n : ℕ) → is_member p n ≡ true → n < length p
member_within p n h = ⊎_elim (λ lt. lt) (λ past. absurd (false≢true (sym (ap (λ label. is_callable (role_of label)) (label_past p n past)) ∙ h))) (cases_lt n (length p))

found_within : (p : Rows) (more n k : ℕ) → member_from p more n ≡ Some k → k < length p
found_within p zero n k h = absurd (none-some k h)
found_within p (suc more) n k h = by (is_member p n) (is_type p n) refl (λ f. found_within p more (parent p n) k f) h
  where
    by : (a b : Bool) → is_member p n ≡ a → (member_from p more (parent p n) ≡ Some k → k < length p) → cond a (Some n) (cond b None (member_from p more (parent p n))) ≡ Some k → k < length p
    by true b is rest h = let e = same_Some n k h in let lt = member_within p n is in omega arith
    by false true is rest h = absurd (none-some k h)
    by false false is rest h = rest h

-- ---- the member of a run is written

run_member : (p : Rows) (run : Run) (call : Option ℕ) (found : Run) → run_without run call ≡ Some found → run.member < length p → found.member < length p
run_member p run None found h lt = let e = ap (λ r. r.member) (same_Some run found h) in omega arith
run_member p run (Some call) found h lt = absurd (none-some found h)

module _ (m : Marks) (found : Run) where
  in_within : (tokens : TokenRange) (rows : RowRange) (member : Option ℕ) → ((k : ℕ) → member ≡ Some k → k < length m.rows.now) → run_in m tokens rows member ≡ Some found → found.member < length m.rows.now
  in_within tokens rows None within h = absurd (none-some found h)
  in_within tokens rows (Some member) within h = run_member m.rows.now (record { tokens = tokens; rows = rows; member = member }) (constructor_call m.rows.now rows) found h (within member refl)

  to_within : (tokens : TokenRange) (first : ℕ) (behind : Option ℕ) → run_to m tokens first behind ≡ Some found → found.member < length m.rows.now
  to_within tokens first None h = absurd (none-some found h)
  to_within tokens first (Some behind) h = in_within tokens (record { first = first; end = behind }) (member_round m.rows.now first) (λ k e. found_within m.rows.now (length m.rows.now) first k e) h

  from_within : (tokens : TokenRange) (first : Option ℕ) → run_from m tokens first ≡ Some found → found.member < length m.rows.now
  from_within tokens None h = absurd (none-some found h)
  from_within tokens (Some first) h = to_within tokens first (end_of_statements m first tokens.after) h

  of_within : (unit : ℕ) (tokens : Option TokenRange) → run_of m unit tokens ≡ Some found → found.member < length m.rows.now
  of_within unit None h = absurd (none-some found h)
  of_within unit (Some tokens) h = from_within tokens (statement_at m unit tokens.first) h

pub run_within : (m : Marks) (unit : ℕ) (range : Span) (found : Run) → run_at m unit range ≡ Some found → found.member < length m.rows.now
run_within m unit range found h = of_within m found unit (tokens_in (tokens_of m unit) range) h
