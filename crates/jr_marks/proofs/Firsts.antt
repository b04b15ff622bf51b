-- The first number that passes, and lists put together number by number.
use Rattle.std.proofs.Common.{◌≡◌, refl, sym, ◌∙◌, ap, ap₂, ⊎_elim, arith, ℕ, zero, suc, ◌+◌, ◌<◌, ◌≤◌, Bool, true, false, cond, List, ◌++◌, length, Option, Some, None, add-one, append_assoc, ◌&&◌, Decides}
use Rattle.std.proofs.lemmas.Bool.{false≢true, cases_eq}
use Rattle.std.proofs.lemmas.List.{get_or_past}
use Rattle.std.specs.Option.{option_or}
use Rattle.jr_tree.specs.declared.label.Label.TheVariants as is
use Rattle.jr_tree.specs.Rows.{Rows, label}
use Rattle.jr_plain.specs.Search.{first_below, gathered}

module _ (test : ℕ → Bool) where
  -- none of the numbers passes
  pub first_none : (n : ℕ) → ((k : ℕ) → k < n → test k ≡ false) → first_below n test ≡ None
  first_none zero fails = refl
  first_none (suc n) fails = by (first_below n test) (test n) (first_none n (λ k lt. fails k (omega arith))) (fails n (omega arith))
    where
      by : (found : Option ℕ) (b : Bool) → found ≡ None → b ≡ false → option_or found (cond b (Some n) None) ≡ None
      by None false h e = refl
      by None true h e = absurd (false≢true (sym e))
      by (Some k) b h e = absurd (by_some h)
        where
          by_some : Some k ≡ None → ⊥
          by_some e = cc

  -- this one does, and none before it
  pub first_some : (n at : ℕ) → at < n → test at ≡ true → ((k : ℕ) → k < at → test k ≡ false) → first_below n test ≡ Some at
  first_some zero at lt passes fails = absurd (omega arith)
  first_some (suc n) at lt passes fails = ⊎_elim
      (λ e. here (first_below n test) (test n) (first_none n (λ k lt. fails k (omega arith))) (ap test (sym e) ∙ passes) ∙ ap Some (sym e))
      (λ apart. kept (first_below n test) (cond (test n) (Some n) None) (first_some n at (omega arith) passes fails)) (cases_eq at n)
    where
      here : (found : Option ℕ) (b : Bool) → found ≡ None → b ≡ true → option_or found (cond b (Some n) None) ≡ Some n
      here None true h e = refl
      here None false h e = absurd (false≢true e)
      here (Some k) b h e = cc

      kept : (found last : Option ℕ) → found ≡ Some at → option_or found last ≡ Some at
      kept (Some k) last h = h
      kept None last h = cc

-- both tests pass
pub above_passes : (a b : ℕ) (t u : Bool) → Decides t (a < b) → a < b → u ≡ true → (t && u) ≡ true
above_passes a b true u d lt h = h
above_passes a b false u d lt h = absurd (false≢true (d.1 lt))

-- one number more
pub gathered_more : {A : Type 0} (of : ℕ → List A) (n : ℕ) (first done more x : List A) → done ≡ first ++ gathered n of → more ≡ done ++ x → x ≡ of n → more ≡ first ++ gathered (n + 1) of
gathered_more of n first done more x h pushed is = rw add-one (pushed ∙ ap₂ (λ xs x. xs ++ x) h is ∙ append_assoc first (gathered n of) (of n))

-- past the last row nothing is written
pub label_past : (p : Rows) (n : ℕ) → length p ≤ n → label p n ≡ is.Skip
label_past p n past = ap (λ row. row.label) (get_or_past p n _ past)
