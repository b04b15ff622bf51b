-- The rows under a key, of entries that a function gives for the first rows.
use Rattle.std.proofs.Common.{◌≡◌, refl, sym, ◌∙◌, ap, subst, ⊎_elim, arith, ℕ, zero, suc, ◌<◌, Bool, true, false, cond, ◌&&◌, ◌∷◌, ◌++◌, append-nil, Option, Some, None, nat_eq, Decides}
use Rattle.std.proofs.lemmas.Bool.{false≢true, or_left, or_right, or_cases, cases_eq, and_parts, and_from}
use Rattle.std.proofs.lemmas.Bool.Decides.{Decides-eqb}
use Rattle.std.proofs.lemmas.Option.{none-some, same_Some}
use Rattle.jr_plain.specs.Search.{has}
use Rattle.jr_places.specs.declared.chains.Entry.{Entry}
use Rattle.jr_members.specs.Keys.{entry_list, entries_of}
use Rattle.jr_members.specs.Named.{under}
use Rattle.jr_members.proofs.Keyed.{under_pushed}

-- ---- entries of a function

module _ (f : ℕ → Option Entry) (rows : (k : ℕ) (e : Entry) → f k ≡ Some e → e.row ≡ k) (c x : ℕ) where
  -- the function gives an entry under the key for the row
  abbrev pub IsKeyed : ℕ → Type 0
  IsKeyed d = (e : Entry) × (f d ≡ Some e) × ((e.first ≡ c) × (e.second ≡ x))

  module _ (n d : ℕ) (before : Decides (has (under (entries_of f n) c x) d) ((d < n) × IsKeyed d)) where
    kept : (d < n) × IsKeyed d → (d < suc n) × IsKeyed d
    kept h = let lt = h.0 in (omega arith, h.1)

    by_none : f n ≡ None → Decides (has (under (entries_of f n ++ entry_list None) c x) d) ((d < suc n) × IsKeyed d)
    by_none none = (
      λ h. kept (before.0 (subst (λ l. has (under l c x) d ≡ true) (append-nil (entries_of f n)) h)),
      λ h. let lt = h.0 in ⊎_elim (λ same. absurd (none-some h.1.0 (sym none ∙ subst (λ k. f k ≡ Some h.1.0) (sym same) h.1.1)))
          (λ apart. subst (λ l. has (under l c x) d ≡ true) (sym (append-nil (entries_of f n))) (before.1 (omega arith, h.1))) (cases_eq n d),
    )

    by_key : (e : Entry) → f n ≡ Some e → (b : Bool) → (nat_eq e.first c && nat_eq e.second x) ≡ b → Decides (has (cond b (e.row ∷ under (entries_of f n) c x) (under (entries_of f n) c x)) d) ((d < suc n) × IsKeyed d)
    by_key e is true key = let parts = and_parts (nat_eq e.first c) (nat_eq e.second x) key in let row : e.row ≡ n = rows n e is in (
      λ h. ⊎_elim (λ own. let same : n ≡ d = sym row ∙ (Decides-eqb e.row d).0 own in
          subst (λ k. (k < suc n) × IsKeyed k) same (omega arith, (e, is, ((Decides-eqb e.first c).0 parts.0, (Decides-eqb e.second x).0 parts.1)))) (λ rest. kept (before.0 rest))
          (or_cases (nat_eq e.row d) (has (under (entries_of f n) c x) d) h),
      λ h. let lt = h.0 in ⊎_elim (λ same. or_left (nat_eq e.row d) (has (under (entries_of f n) c x) d) ((Decides-eqb e.row d).1 (row ∙ same)))
          (λ apart. or_right (nat_eq e.row d) (has (under (entries_of f n) c x) d) (before.1 (omega arith, h.1))) (cases_eq n d),
    )
    by_key e is false key = (
      λ h. kept (before.0 h),
      λ h. let lt = h.0 in ⊎_elim (λ same. let own : e ≡ h.1.0 = same_Some e h.1.0 (sym is ∙ subst (λ k. f k ≡ Some h.1.0) (sym same) h.1.1) in
          absurd (false≢true (sym key ∙ and_from (nat_eq e.first c) (nat_eq e.second x) ((Decides-eqb e.first c).1 (ap (λ e. e.first) own ∙ h.1.2.0)) ((Decides-eqb e.second x).1 (ap (λ e. e.second) own ∙ h.1.2.1)))))
          (λ apart. before.1 (omega arith, h.1)) (cases_eq n d),
    )

    by_entry : (o : Option Entry) → f n ≡ o → Decides (has (under (entries_of f n ++ entry_list o) c x) d) ((d < suc n) × IsKeyed d)
    by_entry None is = by_none is
    by_entry (Some e) is = subst (λ xs. Decides (has xs d) ((d < suc n) × IsKeyed d)) (sym (under_pushed (entries_of f n) e c x)) (by_key e is (nat_eq e.first c && nat_eq e.second x) refl)

  pub entries_tell : (n d : ℕ) → Decides (has (under (entries_of f n) c x) d) ((d < n) × IsKeyed d)
  entries_tell zero d = (λ h. absurd (false≢true h), λ h. let lt = h.0 in absurd (omega arith))
  entries_tell (suc n) d = by_entry n d (entries_tell n d) (f n) refl
