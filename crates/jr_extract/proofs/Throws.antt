-- The classes that come out of a run, as they are found.
use Rattle.std.proofs.Common.{◌≡◌, ◌⊎◌, refl, sym, ◌∙◌, ap, subst, inl, inr, ⊎_elim, arith, ℕ, zero, suc, ◌+◌, ◌<◌, ◌≤◌, Bool, true, false, cond, List, [], ◌∷◌, ◌++◌, length, nat_eq, nat_le, Decides, add-one}
use Rattle.std.proofs.lemmas.Bool.{false≢true, cases_lt, cases_eq, or_cases, or_left, or_right}
use Rattle.std.proofs.lemmas.Bool.Decides.{Decides-at, Decides-eqb, Decides-ltb, leb_tells, same_from_decides}
use Rattle.std.proofs.lemmas.List.Folds.{list_any-append}
use Rattle.jr_tree.specs.Local.{IsLocal}
use Rattle.jr_tree.specs.Rows.{Rows, parent}
use Rattle.jr_tree.specs.Tree.{IsTree}
use Rattle.jr_defs.specs.MemberRules.{IsChecked}
use Rattle.jr_defs.specs.Referents.{Table}
use Rattle.jr_plain.specs.Headed.{IsHeaded}
use Rattle.jr_plain.specs.Overloads.{Types}
use Rattle.jr_plain.specs.Search.{Finds, Lists, has}
use Rattle.jr_plain.proofs.Bounds.{parent_past}
use Rattle.jr_plain.proofs.Searches.{some_of}
use Rattle.jr_plain.proofs.Tests.{never, itself, both, either, opposite, like}
use Rattle.jr_rules.specs.Typed.{Typed}
use Rattle.jr_member_rules.proofs.Thrown.{checked_tells}
use Rattle.jr_view.specs.declared.View.{View}
use Rattle.jr_flow_faults.specs.Computed.{rows_in, table_in}
use Rattle.jr_flow_faults.specs.Exceptions.{ComesTo, GoesOn}
use Rattle.jr_flow_faults.specs.ExceptionTests.{outwards, thrown_at}
use Rattle.jr_flow_faults.specs.Reading.{IsThrowingView, completes_in, types_in}
use Rattle.jr_flow_faults.proofs.Uncaught.{outwards_list, thrown_list}
use Rattle.jr_extract.specs.declared.run.Run.{Run}
use Rattle.jr_extract.specs.Running.{holds}
use Rattle.jr_extract.specs.Throwing.{AreThrownOut, ComesOut, IsStatementOf, IsThrownOut, comes_out, is_statement_of, is_thrown_out, thrown_below, thrown_out, with_class, with_classes, with_thrown_at, with_told}

none_true : (b : Bool) → (b ≡ true → ⊥) → b ≡ false
none_true true h = absurd (h refl)
none_true false h = refl

-- ---- from row to row outwards

module _ (p : Rows) (t : Table) (completes : ℕ → Bool) (run : Run) where
  abbrev Out : ℕ → ℕ → Type 0
  Out c n = ComesOut p t completes run c n

  abbrev Goes : ℕ → ℕ → Type 0
  Goes c n = GoesOn p t completes c n

  -- the row at which one is, on the way from another one
  pub record IsAscending (c at here turn : ℕ) : Type 0 where
    pub inside : holds run here ≡ true
    pub back : Out c here → Out c at
    pub on : Out c at → Out c here
    pub near : (parent p here ≡ here) ⊎ (here + turn ≤ length p)

  pub ascending_start : (c at : ℕ) → holds run at ≡ true → IsAscending c at at 0
  ascending_start c at inside = record { inside = inside; back = λ h. h; on = λ h. h; near = ⊎_elim (λ lt. inr (omega arith)) (λ le. inl (parent_past p at le)) (cases_lt at (length p)) }

  further_out : (c n : ℕ) → Goes c n → Out c (parent p n) → Out c n
  further_out c n go h = record { row = h.row; statement = h.statement; comes = ComesTo.further go h.comes }

  up_from : (c : ℕ) {n k : ℕ} → ComesTo p t completes c n k → holds run (parent p k) ≡ false → holds run (parent p n) ≡ true → Goes c n × ComesTo p t completes c (parent p n) k
  up_from c ComesTo.here outside inside = absurd (false≢true (sym outside ∙ inside))
  up_from c (ComesTo.further go rest) outside inside = (go, rest)

  out_further : (c n : ℕ) → holds run (parent p n) ≡ true → Out c n → Goes c n × Out c (parent p n)
  out_further c n inside h = let up = up_from c h.comes h.statement.outside inside in (up.0, record { row = h.row; statement = h.statement; comes = up.1 })

  near_next : IsTree p → (here turn : ℕ) → (parent p here ≡ here) ⊎ (here + turn ≤ length p) → (parent p (parent p here) ≡ parent p here) ⊎ (parent p here + (turn + 1) ≤ length p)
  near_next tree here turn (inl stuck) = inl (ap (parent p) stuck)
  near_next tree here turn (inr le) = ⊎_elim
      (λ lt. ⊎_elim (λ z. inl (ap (parent p) (ap (parent p) z ∙ tree.root) ∙ tree.root ∙ sym (ap (parent p) z ∙ tree.root))) (λ apart. let up = tree.up here lt (omega arith) in inr (omega arith)) (cases_eq here 0))
      (λ past. inl (ap (parent p) (parent_past p here past))) (cases_lt here (length p))

  pub ascending_step : IsTree p → (c at here turn over : ℕ) (b goes : Bool) → over ≡ parent p here → b ≡ holds run over → b ≡ true → Decides goes (Goes c here) → goes ≡ true → IsAscending c at here turn → IsAscending c at over (turn + 1)
  ascending_step tree c at here turn over b goes is holding inside tells go h = let within : holds run (parent p here) ≡ true = ap (holds run) (sym is) ∙ sym holding ∙ inside in
      subst (λ x. IsAscending c at x (turn + 1)) (sym is) (record {
        inside = within;
        back = λ o. h.back (further_out c here (tells.0 go) o);
        on = λ o. (out_further c here within (h.on o)).1;
        near = near_next tree here turn h.near;
      })

  stays : (c : ℕ) {n k : ℕ} → parent p n ≡ n → ComesTo p t completes c n k → n ≡ k
  stays c e ComesTo.here = refl
  stays c e (ComesTo.further go rest) = sym e ∙ stays c (ap (parent p) e) rest

  none_stuck : (c n : ℕ) → parent p n ≡ n → holds run n ≡ true → Out c n → ⊥
  none_stuck c n stuck inside h = false≢true (sym h.statement.outside ∙ ap (λ k. holds run (parent p k)) (sym (stays c stuck h.comes)) ∙ ap (holds run) stuck ∙ inside)

  statement_tells : (k : ℕ) → Decides (is_statement_of p run k) (IsStatementOf p run k)
  statement_tells k = like (both (itself (holds run k)) (opposite (itself (holds run (parent p k))))) (λ h. record { inside = h.0; outside = none_true (holds run (parent p k)) h.1 })
      (λ h. (h.inside, λ e. false≢true (sym h.outside ∙ e)))

  module _ (headed : IsHeaded p) (local : IsLocal p) where
    out_tells : (c n : ℕ) → Decides (comes_out p t completes run c n) (Out c n)
    out_tells c n = like (some_of (is_statement_of p run) (IsStatementOf p run) statement_tells (outwards p t completes c n) (outwards_list p t headed local completes c n))
        (λ h. record { row = h.0; statement = h.2; comes = h.1 }) (λ h. (h.row, h.comes, h.statement))

    module _ (c at here turn : ℕ) (h : IsAscending c at here turn) where
      out_told : (b : Bool) → Decides b (Out c at) → b ≡ comes_out p t completes run c at
      out_told b tells = same_from_decides b (comes_out p t completes run c at) tells (out_tells c at)

      -- what is right round the row is no part of the run
      pub found_out : (over : ℕ) (b : Bool) → over ≡ parent p here → b ≡ holds run over → b ≡ false → true ≡ comes_out p t completes run c at
      found_out over b is holding outside = out_told true (λ e. h.back (record { row = here; statement = record { inside = h.inside; outside = ap (holds run) (sym is) ∙ sym holding ∙ outside }; comes = ComesTo.here }), λ o. refl)

      none_out : (Out c here → ⊥) → false ≡ comes_out p t completes run c at
      none_out none = out_told false (λ e. absurd (false≢true e), λ o. absurd (none (h.on o)))

      pub stopped_out : (over : ℕ) (b goes : Bool) → over ≡ parent p here → b ≡ holds run over → b ≡ true → Decides goes (Goes c here) → goes ≡ false → false ≡ comes_out p t completes run c at
      stopped_out over b goes is holding inside tells stop = none_out (λ o. false≢true (sym stop ∙ tells.1 (out_further c here (ap (holds run) (sym is) ∙ sym holding ∙ inside) o).0))

      pub ended_out : length p ≤ turn → false ≡ comes_out p t completes run c at
      ended_out le = none_out (none_stuck c here (⊎_elim (λ stuck. stuck) (λ near. let z : here ≡ 0 = omega arith in ap (parent p) z ∙ local.tree.root ∙ sym z) h.near) h.inside)

    pub checked_out : (c n : ℕ) (a b : Bool) → Decides a (IsChecked p t c) → a ≡ true → b ≡ comes_out p t completes run c n → b ≡ is_thrown_out p t completes run n c
    checked_out c n a b tells is out = same_from_decides b (is_thrown_out p t completes run n c)
        (like (Decides-at b (comes_out p t completes run c n) out (itself (comes_out p t completes run c n))) (λ h. (tells.0 is, h)) (λ h. h.1))
        (both (checked_tells p t headed c) (itself (comes_out p t completes run c n)))

    pub unchecked_out : (c n : ℕ) (a : Bool) → Decides a (IsChecked p t c) → a ≡ false → false ≡ is_thrown_out p t completes run n c
    unchecked_out c n a tells is = same_from_decides false (is_thrown_out p t completes run n c)
        (λ e. absurd (false≢true e), λ h. absurd (false≢true (sym is ∙ tells.1 h.0)))
        (both (checked_tells p t headed c) (itself (comes_out p t completes run c n)))

-- ---- the rows of a run

leb_decides : (a b : ℕ) → Decides (nat_le a b) (a ≤ b)
leb_decides a b = by (nat_le a b) (leb_tells a b)
  where
    by : (t : Bool) → ((t ≡ true) × (a ≤ b)) ⊎ ((t ≡ false) × (b < a)) → Decides t (a ≤ b)
    by t (inl k) = (λ e. k.1, λ le. k.0)
    by t (inr k) = (λ e. absurd (false≢true (sym k.0 ∙ e)), λ le. let lt : b < a = k.1 in absurd (omega arith))

held_tells : (run : Run) (m : ℕ) → Decides (holds run m) ((run.rows.first ≤ m) × (m < run.rows.end))
held_tells run m = both (leb_decides run.rows.first m) (Decides-ltb m run.rows.end)

pub held : (run : Run) (m : ℕ) → run.rows.first ≤ m → m < run.rows.end → holds run m ≡ true
held run m le lt = (held_tells run m).1 (le, lt)

-- ---- with classes behind others

item_tells : (c d : ℕ) → Decides (has (c ∷ []) d) (c ≡ d)
item_tells c d = like (either (Decides-eqb c d) never) (⊎_elim (λ e. e) (λ h. absurd h)) (λ e. inl e)

class_tells : (told : Bool) (c : ℕ) (all : List ℕ) (d : ℕ) → Decides (has (with_class told c all) d) ((has all d ≡ true) ⊎ ((told ≡ true) × (c ≡ d)))
class_tells told c all d = by (has all c) told refl
  where
    by : (there told : Bool) → has all c ≡ there → Decides (has (cond there all (cond told (all ++ c ∷ []) all)) d) ((has all d ≡ true) ⊎ ((told ≡ true) × (c ≡ d)))
    by true told is = like (itself (has all d)) (λ h. inl h) (⊎_elim (λ h. h) (λ h. subst (λ x. has all x ≡ true) h.1 is))
    by false true is = like (Decides-at _ _ (list_any-append (λ y. nat_eq y d) all (c ∷ [])) (either (itself (has all d)) (item_tells c d))) (⊎_elim (λ h. inl h) (λ e. inr (refl, e))) (⊎_elim (λ h. inl h) (λ h. inr h.1))
    by false false is = like (itself (has all d)) (λ h. inl h) (⊎_elim (λ h. h) (λ h. absurd (false≢true h.0)))

classes_tell : (test : ℕ → Bool) (items all : List ℕ) (d : ℕ) → Decides (has (with_classes test items all) d) ((has all d ≡ true) ⊎ ((has items d ≡ true) × (test d ≡ true)))
classes_tell test [] all d = like (itself (has all d)) (λ h. inl h) (⊎_elim (λ h. h) (λ h. absurd (false≢true h.0)))
classes_tell test (c ∷ rest) all d = like (classes_tell test rest (with_class (test c) c all) d)
    (⊎_elim (λ h. ⊎_elim (λ a. inl a) (λ k. inr (or_left (nat_eq c d) _ ((Decides-eqb c d).1 k.1), subst (λ x. test x ≡ true) k.1 k.0)) ((class_tells (test c) c all d).0 h)) (λ h. inr (or_right (nat_eq c d) _ h.0, h.1)))
    (⊎_elim (λ a. inl ((class_tells (test c) c all d).1 (inl a)))
    (λ h. ⊎_elim (λ e. let same = (Decides-eqb c d).0 e in inl ((class_tells (test c) c all d).1 (inr (subst (λ x. test x ≡ true) (sym same) h.1, same)))) (λ r. inr (r, h.1)) (or_cases (nat_eq c d) _ h.0)))

pub classes_next : (test : ℕ → Bool) (items rest now next start : List ℕ) (c : ℕ) → items ≡ c ∷ rest → next ≡ with_class (test c) c now → with_classes test items now ≡ start → with_classes test rest next ≡ start
classes_next test items rest now next start c is made h = ap (with_classes test rest) made ∙ sym (ap (λ xs. with_classes test xs now) is) ∙ h

pub classes_end : (test : ℕ → Bool) (items now start : List ℕ) → items ≡ [] → with_classes test items now ≡ start → now ≡ start
classes_end test items now start is h = sym (ap (λ xs. with_classes test xs now) is) ∙ h

pub class_there : (told : Bool) (c : ℕ) (all : List ℕ) (b : Bool) → b ≡ has all c → b ≡ true → all ≡ with_class told c all
class_there told c all b is there = sym (ap (λ x. cond x all (with_told told c all)) (sym is ∙ there))

pub class_new : (told : Bool) (c : ℕ) (all new : List ℕ) (b x : Bool) → b ≡ has all c → b ≡ false → x ≡ told → new ≡ with_told x c all → new ≡ with_class told c all
class_new told c all new b x is none same made = made ∙ ap (λ x. with_told x c all) same ∙ sym (ap (λ x. cond x all (with_told told c all)) (sym is ∙ none))

-- ---- row by row

module _ (p : Rows) (t : Table) (type_of : Types) (completes : ℕ → Bool) (run : Run) where
  abbrev below : ℕ → List ℕ
  below n = thrown_below p t type_of completes run n

  abbrev with_one : ℕ → List ℕ → List ℕ
  with_one n all = with_thrown_at p t type_of completes run n all

  pub none_below : (n : ℕ) → n ≤ run.rows.first → below n ≡ []
  none_below zero le = refl
  none_below (suc n) le = ⊎_elim (λ h. let first : run.rows.first ≤ n = h.1 in absurd (omega arith)) (λ h. ap (λ b. cond b (with_one n (below n)) (below n)) h.0 ∙ none_below n (omega arith)) (leb_tells run.rows.first n)

  pub more_below : (n : ℕ) (now next : List ℕ) → run.rows.first ≤ n → now ≡ below n → next ≡ with_one n now → next ≡ below (n + 1)
  more_below n now next le is made = rw add-one (made ∙ ap (with_one n) is ∙ sym (⊎_elim (λ h. ap (λ b. cond b (with_one n (below n)) (below n)) h.0) (λ h. let lt : n < run.rows.first = h.1 in absurd (omega arith)) (leb_tells run.rows.first n)))

  -- a class that comes out of a row of the run among the first n
  abbrev Below : ℕ → ℕ → Type 0
  Below n d = (m : ℕ) × ((m < n) × (run.rows.first ≤ m)) × ((has (thrown_at p t type_of m) d ≡ true) × (is_thrown_out p t completes run m d ≡ true))

  module _ (n d : ℕ) (before : Decides (has (below n) d) (Below n d)) where
    older : Below n d → Below (suc n) d
    older h = let lt : h.0 < n = h.1.0 in (h.0, (omega arith, h.1.1), h.2)

    split : Below (suc n) d → Below n d ⊎ ((run.rows.first ≤ n) × ((has (thrown_at p t type_of n) d ≡ true) × (is_thrown_out p t completes run n d ≡ true)))
    split h = let lt : h.0 < suc n = h.1.0 in
        ⊎_elim (λ e. inr (subst (λ m. run.rows.first ≤ m) e h.1.1, subst (λ m. (has (thrown_at p t type_of m) d ≡ true) × (is_thrown_out p t completes run m d ≡ true)) e h.2))
        (λ apart. inl (h.0, (omega arith, h.1.1), h.2)) (cases_eq h.0 n)

    more_tells : Decides (has (below (suc n)) d) (Below (suc n) d)
    more_tells = by (nat_le run.rows.first n) (leb_tells run.rows.first n)
      where
        by : (b : Bool) → ((b ≡ true) × (run.rows.first ≤ n)) ⊎ ((b ≡ false) × (n < run.rows.first)) → Decides (has (cond b (with_one n (below n)) (below n)) d) (Below (suc n) d)
        by true tells = like (classes_tell (is_thrown_out p t completes run n) (thrown_at p t type_of n) (below n) d)
            (⊎_elim (λ h. older (before.0 h)) (λ h. (n, (omega arith, ⊎_elim (λ k. k.1) (λ k. absurd (false≢true (sym k.0))) tells), h)))
            (λ h. ⊎_elim (λ o. inl (before.1 o)) (λ o. inr o.1) (split h))
        by false tells = like before older (λ h. ⊎_elim (λ o. o) (λ o. let first : run.rows.first ≤ n = o.0 in ⊎_elim (λ k. absurd (false≢true k.0)) (λ k. let lt : n < run.rows.first = k.1 in absurd (omega arith)) tells) (split h))

  below_tells : (n d : ℕ) → Decides (has (below n) d) (Below n d)
  below_tells zero d = like never (λ h. absurd h) (λ h. let lt : h.0 < 0 = h.1.0 in absurd (omega arith))
  below_tells (suc n) d = more_tells n d (below_tells n d)

  -- all of them
  pub all_below : (at : ℕ) (all : List ℕ) → (run.rows.end < run.rows.first → all ≡ []) → all ≡ below at → run.rows.end ≤ at → (run.rows.first ≤ run.rows.end → at ≡ run.rows.end) → all ≡ below run.rows.end
  all_below at all none found past same = ⊎_elim (λ lt. none lt ∙ sym (none_below run.rows.end (omega arith))) (λ le. found ∙ ap below (same le)) (cases_lt run.rows.end run.rows.first)

  module _ (headed : IsHeaded p) (local : IsLocal p) (typed : (n : ℕ) → Finds (type_of n) (λ a. Typed p t n a)) where
    pub list_tells : Lists (below run.rows.end) (IsThrownOut p t completes run)
    list_tells d = like (below_tells run.rows.end d)
        (λ h. let told = (both (checked_tells p t headed d) (out_tells p t completes run headed local d h.0)).0 h.2.1 in
        record { row = h.0; inside = held run h.0 h.1.1 h.1.0; thrown = (thrown_list p t local type_of typed h.0 d).0 h.2.0; checked = told.0; comes = told.1 })
        (λ h. let rows = (held_tells run h.row).0 h.inside in (h.row, (rows.1, rows.0), ((thrown_list p t local type_of typed h.row d).1 h.thrown, (both (checked_tells p t headed d) (out_tells p t completes run headed local d h.row)).1 (h.checked, h.comes))))

-- ---- of a view

pub all_told : (view : View) (run : Run) (all : List ℕ) → IsThrowingView view → all ≡ thrown_out view run → AreThrownOut view run all
all_told view run all right is = record {
  each = subst (λ xs. Lists xs (IsThrownOut (rows_in view) (table_in view) (completes_in view) run)) (sym is)
      (list_tells (rows_in view) (table_in view) (types_in view) (completes_in view) run right.above.well.headed right.local right.typed);
  order = is;
}
