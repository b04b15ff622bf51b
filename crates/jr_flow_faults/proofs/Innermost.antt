-- The innermost statement round a row, by that of the row over it.
use Rattle.std.proofs.Common.{◌≡◌, refl, sym, ◌∙◌, ap, ap₂, subst, add-one, ⊎_elim, arith, ℕ, zero, suc, ◌+◌, ◌<◌, ◌≤◌, Bool, true, false, cond, ◌&&◌, ◌||◌, List, [], ◌∷◌, ◌++◌, length, Option, Some, None, nat_lt}
use Rattle.std.proofs.lemmas.Bool.{cases_lt, cases_eq, cases_Bool}
use Rattle.std.proofs.lemmas.Bool.Decides.{Decides-ltb}
use Rattle.jr_tree.specs.declared.label.Label.{Label}
use Rattle.jr_tree.specs.Rows.{Rows, label, parent, end}
use Rattle.jr_tree.specs.Local.{IsLocal}
use Rattle.jr_plain.specs.Search.{last_below}
use Rattle.jr_places.specs.Tabulated.{tabulated}
use Rattle.jr_places.proofs.Tables.{tabulated_at, last_same}
use Rattle.jr_rules.specs.StatementTests.{is_switch, is_loop, is_loop_or_switch}
use Rattle.jr_flow_faults.specs.declared.jumps.Targets.{Targets}
use Rattle.jr_flow_faults.specs.Computed.{innermost, no_targets, targets, targets_below, targets_by}

-- the value of a test
lt_true : (m n : ℕ) → m < n → nat_lt m n ≡ true
lt_true m n h = (Decides-ltb m n).1 h

lt_false : (m n : ℕ) → n ≤ m → nat_lt m n ≡ false
lt_false m n h = ⊎_elim (λ t. let lt = (Decides-ltb m n).0 t in absurd (omega arith)) (λ f. f) (cases_Bool (nat_lt m n))

and_false : (a b : Bool) → b ≡ false → (a && b) ≡ false
and_false true b e = e
and_false false b e = refl

and_true : (a b : Bool) → b ≡ true → (a && b) ≡ a
and_true true b e = e
and_true false b e = refl

-- the last number is below one behind which there are none
last_until : (f : ℕ → Bool) (a n : ℕ) → a < n → ((s : ℕ) → a < s → s < n → f s ≡ false) → last_below n f ≡ last_below (suc a) f
last_until f a zero lt none = absurd (omega arith)
last_until f a (suc n) lt none = ⊎_elim
    (λ e. ap (λ m. last_below (suc m) f) (sym e))
    (λ apart. ap (λ b. cond b (Some n) (last_below n f)) (none n (omega arith) (omega arith)) ∙ last_until f a n (omega arith) (λ s low high. none s low (omega arith)))
    (cases_eq a n)

module _ (p : Rows) (local : IsLocal p) where
  module _ (test : Label → Bool) (n : ℕ) (positive : 0 < n) (inside : n < length p) where
    abbrev a : ℕ
    a = parent p n

    abbrev round : ℕ → ℕ → Bool
    round m s = test (label p s) && nat_lt m (end p s)

    up : a < n
    up = local.tree.up n inside positive

    beside : (s : ℕ) → a < s → s < n → round n s ≡ false
    beside s low high = and_false (test (label p s)) _ (⊎_elim
        (λ lt. let over = local.tree.inner s n high lt in absurd (omega arith))
        (λ le. lt_false n (end p s) le) (cases_lt n (end p s)))

    above : (s : ℕ) → s < a → nat_lt n (end p s) ≡ nat_lt a (end p s)
    above s low = ⊎_elim
        (λ lt. let whole = local.tree.apart s a low lt in let held = local.tree.held n inside positive in lt_true n (end p s) (omega arith) ∙ sym (lt_true a (end p s) lt))
        (λ le. let lower = up in lt_false n (end p s) (omega arith) ∙ sym (lt_false a (end p s) le)) (cases_lt a (end p s))

    pub innermost_step : innermost p test n ≡ cond (test (label p a)) (Some a) (innermost p test a)
    innermost_step = last_until (round n) a n up beside
        ∙ ap₂ (λ b before. cond b (Some a) before) (and_true (test (label p a)) _ (lt_true n (end p a) (local.tree.held n inside positive)))
        (last_same (round n) (round a) a (λ s lt. ap (λ b. test (label p s) && b) (above s lt)))

  abbrev made : Option ℕ → Option ℕ → Targets
  made x y = record { looping = x; breaking = y }

  both_ways : (loop switch : Bool) (a : ℕ) (x y : Option ℕ) → cond loop (made (Some a) (Some a)) (cond switch (made x (Some a)) (made x y))
      ≡ made (cond loop (Some a) x) (cond (switch || loop) (Some a) y)
  both_ways true true a x y = refl
  both_ways true false a x y = refl
  both_ways false true a x y = refl
  both_ways false false a x y = refl

  root_targets : targets_by p [] 0 ≡ targets p 0
  root_targets = ap (λ n. targets_below p no_targets n) local.tree.root ∙ ap (λ l. cond (is_loop l) (made (Some 0) (Some 0)) (cond (is_switch l) (made None (Some 0)) no_targets)) local.program

  targets_told : (n : ℕ) → n < length p → targets_by p (tabulated (targets p) n) n ≡ targets p n
  targets_told n inside = ⊎_elim
      (λ e. subst (λ m. targets_by p (tabulated (targets p) m) m ≡ targets p m) (sym e) root_targets)
      (λ apart. let a = parent p n in let positive : 0 < n = omega arith in
      ap (λ (r : Targets). targets_below p r a) (tabulated_at (targets p) no_targets n a (local.tree.up n inside positive))
      ∙ both_ways (is_loop (label p a)) (is_switch (label p a)) a (innermost p is_loop a) (innermost p is_loop_or_switch a)
      ∙ ap₂ made (sym (innermost_step is_loop n positive inside)) (sym (innermost_step is_loop_or_switch n positive inside)))
      (cases_eq n 0)

  -- one more row
  pub targets_more : (n : ℕ) (all known more : List Targets) (x : Targets) → n < length p → all ≡ tabulated (targets p) n → known ≡ all → x ≡ targets_by p known n → more ≡ all ++ x ∷ [] → more ≡ tabulated (targets p) (n + 1)
  targets_more n all known more x inside h same is pushed = rw add-one (pushed ∙ ap₂ (λ xs x. xs ++ x ∷ []) h (is ∙ ap (λ xs. targets_by p xs n) (same ∙ h) ∙ targets_told n inside))
