-- Steps of loops over rows and units that get a name.
use Rattle.std.proofs.Common.{◌≡◌, refl, sym, ◌∙◌, ap, arith, ℕ, suc, ◌+◌, ◌<◌, ◌≤◌, Bool, true, false, ◌||◌, List, [], ◌∷◌, ◌++◌, length, drop, append_assoc}
use Rattle.std.specs.Prelude.{if◌then◌else◌, slice_index_or}
use Rattle.std.proofs.lemmas.List.{drop_more, drop_all}
use Rattle.jr_marks.specs.declared.marks.Marks.{Marks}
use Rattle.jr_plain.specs.Search.{all_such}
use Rattle.jr_edits.specs.Place.{EditList}
use Rattle.jr_draft.specs.Asking.{is_in_prelude}
use Rattle.jr_draft.specs.Drafting.{Drafted, begun}
use Rattle.jr_draft.specs.Ordering.{order_with}
use Rattle.jr_names.specs.Renaming.{reaches_prelude, has_some, stands_in, with_all, renamed}

-- ---- what passes

module _ (test : ℕ → Bool) where
  pub such_more : (start all more : List ℕ) (n : ℕ) → all ≡ start ++ all_such n test → more ≡ all ++ (if test n then n ∷ [] else []) → more ≡ start ++ all_such (n + 1) test
  such_more start all more n h made = let next : suc n ≡ n + 1 = omega arith in
      made ∙ ap (λ xs. xs ++ (if test n then n ∷ [] else [])) h ∙ append_assoc start (all_such n test) (if test n then n ∷ [] else []) ∙ ap (λ k. start ++ all_such k test) next

pub order_so : (m : Marks) (moved : ℕ) (path to rows order : List ℕ) (old new : Drafted) → order ≡ order_with m moved path → old ≡ begun m → new ≡ with_all m moved path to rows order old → new ≡ renamed m moved path to rows
order_so m moved path to rows order old new h e made = made ∙ (λ i. with_all m moved path to rows (h i) (e i))

-- ---- one of some rows is such

module _ (m : Marks) (family : List ℕ) (i row d : ℕ) where
  pub reaches_now : i < length family → row ≡ slice_index_or family i d → is_in_prelude m row ≡ true → reaches_prelude m (drop i family) ≡ reaches_prelude m family → true ≡ reaches_prelude m family
  reaches_now lt is now h = sym (ap (λ b. b || reaches_prelude m (drop (i + 1) family)) (ap (is_in_prelude m) (sym is) ∙ now)) ∙ sym (ap (reaches_prelude m) (drop_more family i d lt)) ∙ h

  pub reaches_next : i < length family → row ≡ slice_index_or family i d → is_in_prelude m row ≡ false → reaches_prelude m (drop i family) ≡ reaches_prelude m family
      → reaches_prelude m (drop (i + 1) family) ≡ reaches_prelude m family
  reaches_next lt is now h = sym (ap (λ b. b || reaches_prelude m (drop (i + 1) family)) (ap (is_in_prelude m) (sym is) ∙ now)) ∙ sym (ap (reaches_prelude m) (drop_more family i d lt)) ∙ h

  pub reaches_end : length family ≤ i → reaches_prelude m (drop i family) ≡ reaches_prelude m family → false ≡ reaches_prelude m family
  reaches_end past h = sym (ap (reaches_prelude m) (drop_all i family past)) ∙ h

module _ (m : Marks) (unit : ℕ) (rows : List ℕ) (i row d : ℕ) where
  pub some_now : i < length rows → row ≡ slice_index_or rows i d → stands_in m unit row ≡ true → has_some m unit (drop i rows) ≡ has_some m unit rows → true ≡ has_some m unit rows
  some_now lt is now h = sym (ap (λ b. b || has_some m unit (drop (i + 1) rows)) (ap (stands_in m unit) (sym is) ∙ now)) ∙ sym (ap (has_some m unit) (drop_more rows i d lt)) ∙ h

  pub some_next : i < length rows → row ≡ slice_index_or rows i d → stands_in m unit row ≡ false → has_some m unit (drop i rows) ≡ has_some m unit rows → has_some m unit (drop (i + 1) rows) ≡ has_some m unit rows
  some_next lt is now h = sym (ap (λ b. b || has_some m unit (drop (i + 1) rows)) (ap (stands_in m unit) (sym is) ∙ now)) ∙ sym (ap (has_some m unit) (drop_more rows i d lt)) ∙ h

  pub some_end : length rows ≤ i → has_some m unit (drop i rows) ≡ has_some m unit rows → false ≡ has_some m unit rows
  some_end past h = sym (ap (has_some m unit) (drop_all i rows past)) ∙ h
