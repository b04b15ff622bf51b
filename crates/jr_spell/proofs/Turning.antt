-- Each row that looks for something has its turn.
use Rattle.std.proofs.Common.{◌≡◌, refl, sym, ◌∙◌, subst, arith, ⊎_elim, ℕ, ◌+◌, ◌<◌, ◌≤◌, Bool, true, false, List, length, get_or, set}
use Rattle.std.specs.List.{Contains}
use Rattle.std.proofs.lemmas.Bool.{cases_eq, cases_lt}
use Rattle.std.proofs.lemmas.List.{get_or-set_other}
use Rattle.jr_tree.specs.declared.label.Sought.TheVariants as sought
use Rattle.jr_tree.specs.Labels.{sought_by}
use Rattle.jr_tree.specs.Rows.{Rows, sought_at}
use Rattle.jr_plain.proofs.Bounds.{bounded}
use Rattle.jr_spell.specs.Shaping.{KeepsAll}

pub mark_more : (rows : List ℕ) (marks : List Bool) (at : ℕ) → ((n : ℕ) → get_or marks n false ≡ true → Contains rows n) → Contains rows at → (n : ℕ) → get_or (set marks at true) n false ≡ true → Contains rows n
mark_more rows marks at h here n e = ⊎_elim (λ same. subst (Contains rows) (sym same) here) (λ other. h n (sym (get_or-set_other marks at n true false other) ∙ e)) (cases_eq n at)

-- the rows that have a mark are in the list, and those before a row that look for something
abbrev pub AreIn : Rows → List Bool → List ℕ → ℕ → Type 0
AreIn p marks order at = ((n : ℕ) → get_or marks n false ≡ true → Contains order n) × ((n : ℕ) → n < at → (sought_at p n ≡ sought.Nothing → ⊥) → Contains order n)

module _ (p : Rows) (marks : List Bool) where
  pub in_more : (old new : List ℕ) (at : ℕ) → AreIn p marks old at → KeepsAll old new → ((sought_at p at ≡ sought.Nothing → ⊥) → Contains new at) → AreIn p marks new (at + 1)
  in_more old new at h keeps here = (
    λ n e. keeps n (h.0 n e),
    λ n lt seeks. ⊎_elim (λ less. keeps n (h.1 n less seeks))
        (λ le. let e : n ≡ at = omega arith in subst (Contains new) (sym e) (here (subst (λ k. sought_at p k ≡ sought.Nothing → ⊥) e seeks))) (cases_lt n at),
  )

  pub in_all : (order : List ℕ) (count : ℕ) → AreIn p marks order count → length p ≤ count → (n : ℕ) → (sought_at p n ≡ sought.Nothing → ⊥) → Contains order n
  in_all order count h le n seeks = let lt = bounded (λ l. sought_by l ≡ sought.Nothing → ⊥) (λ never. never refl) p n seeks in h.1 n (omega arith) seeks
