-- Names in headers are put one by one into a table that has nothing else.
use Rattle.std.proofs.Common.{◌≡◌, refl, sym, ◌∙◌, ap, subst, ⊎_elim, arith, ℕ, ◌+◌, ◌<◌, List, length, Some, slice_get, slice_set, replicate}
use Rattle.std.proofs.lemmas.Bool.{false≢true, cases_eq, cases_lt}
use Rattle.std.proofs.lemmas.Grind.{get_or-set_at}
use Rattle.std.proofs.lemmas.List.{get_or_past, get_or-replicate, get_or-set_other, length-replicate, length-set}
use Rattle.std.proofs.lemmas.Option.{slice_get_within}
use Rattle.jr_tree.specs.Rows.{Rows}
use Rattle.jr_defs.specs.declared.referent.Referent.{Referent}
use Rattle.jr_defs.specs.declared.referent.Referent.TheVariants.{Unbound}
use Rattle.jr_defs.specs.Referents.{entries}
use Rattle.jr_bind.specs.declared.stages.Stage.{Stage}
use Rattle.jr_bind.specs.declared.stages.Stage.TheVariants as stage
use Rattle.jr_bind.specs.Late.{AreLate}
use Rattle.jr_bind.specs.Filled.{HoldsHeaders}
use Rattle.jr_bind.specs.Naming.{BindsTypes}

nothing_at : (n k : ℕ) → entries (replicate n Unbound) k ≡ Unbound
nothing_at n k = let size : length (replicate n Unbound) ≡ n = length-replicate n Unbound in
    ⊎_elim (λ lt. get_or-replicate n k Unbound Unbound lt) (λ le. get_or_past (replicate n Unbound) k Unbound (omega arith)) (cases_lt k n)

before : (m n : ℕ) → m < n + 1 → (m ≡ n → ⊥) → m < n
before m n lt apart = grind arith

module _ (stages : List Stage) (table : List Referent) where
  pub headers_start : (kept : List Referent) → kept ≡ replicate (length stages) Unbound → HoldsHeaders stages table kept 0
  headers_start kept e = record {
    size = ap length e ∙ length-replicate (length stages) Unbound;
    held = λ m lt of. absurd (omega arith);
    left = λ m off. ap (λ all. entries all m) e ∙ nothing_at (length stages) m;
  }

  module _ (n : ℕ) (old new : List Referent) (so : HoldsHeaders stages table old n) where
    pub header_kept : (a : Referent) → slice_get stages n ≡ Some stage.Header → a ≡ entries table n → new ≡ slice_set old n a → HoldsHeaders stages table new (n + 1)
    header_kept a of is e = record {
      size = ap length e ∙ length-set old n a ∙ so.size;
      held = λ m lt here. ⊎_elim
          (λ same. subst (λ k. entries new k ≡ entries table k) (sym same) (ap (λ all. entries all n) e ∙ get_or-set_at old n n a Unbound refl inside ∙ is))
          (λ apart. others m apart ∙ so.held m (before m n lt apart) here) (cases_eq m n);
      left = λ m off. others m (λ same. off (subst (λ k. slice_get stages k ≡ Some stage.Header) (sym same) of)) ∙ so.left m off;
    }
      where
        inside : n < length old
        inside = let lt = slice_get_within stages n stage.Header of in let size = so.size in omega arith

        others : (m : ℕ) → (m ≡ n → ⊥) → entries new m ≡ entries old m
        others m apart = ap (λ all. entries all m) e ∙ get_or-set_other old n m a Unbound apart

    pub header_passed : (slice_get stages n ≡ Some stage.Header → ⊥) → new ≡ old → HoldsHeaders stages table new (n + 1)
    header_passed off e = subst (λ all. HoldsHeaders stages table all (n + 1)) (sym e) (record {
      size = so.size;
      held = λ m lt here. so.held m (before m n lt (λ same. off (subst (λ k. slice_get stages k ≡ Some stage.Header) same here))) here;
      left = so.left;
    })

-- in headers stand names of types alone
pub headers_bind : (p : Rows) (stages : List Stage) (table kept : List Referent) (n : ℕ) → AreLate p stages → HoldsHeaders stages table kept n → BindsTypes p kept
headers_bind p stages table kept n late so = record {
  size = so.size ∙ late.0;
  unseen = λ n e. so.left n (λ of. false≢true (sym e ∙ late.1 n stage.Header of));
}
