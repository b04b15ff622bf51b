-- A row stands in a call of a constructor, if the row over it is one or does.
use Rattle.std.proofs.Common.{◌≡◌, ◌⊎◌, sym, ◌∙◌, ap, subst, inl, inr, ⊎_elim, arith, ℕ, zero, suc, ◌<◌, ◌≤◌, Bool, true, false, ◌&&◌, ◌||◌, List, length, nat_lt, Decides}
use Rattle.std.proofs.lemmas.Bool.{cases_eq, false_from_ne_true}
use Rattle.std.proofs.lemmas.Bool.Decides.{Decides-ltb}
use Rattle.jr_tree.specs.Rows.{Rows, label, parent, end}
use Rattle.jr_tree.specs.Local.{IsLocal}
use Rattle.jr_plain.specs.Instances.{is_call_of_constructor, is_in_constructor_call}
use Rattle.jr_plain.proofs.Tests.{itself, both, either, like}
use Rattle.jr_plain.proofs.Searches.{any}
use Rattle.jr_places.specs.Tabulated.{tabulated}
use Rattle.jr_places.proofs.Tables.{tabulated_at}
use Rattle.jr_lookup.proofs.Instancing.{same_tests}
use Rattle.jr_type_facts.specs.Tables.{grown, call_by, AreCalls}
use Rattle.jr_type_facts.proofs.Tabling.{grown_told}

module _ (p : Rows) (local : IsLocal p) where
  abbrev IsCall : ℕ → Type 0
  IsCall m = is_call_of_constructor (label p m) ≡ true

  abbrev Around : ℕ → ℕ → Type 0
  Around n m = (IsCall m × (m < n)) × (n < end p m)

  call_tells : (n : ℕ) → Decides (is_in_constructor_call p n) ((m : ℕ) × (m < length p) × Around n m)
  call_tells n = any (λ m. is_call_of_constructor (label p m) && nat_lt m n && nat_lt n (end p m)) (Around n) (λ m. both (both (itself (is_call_of_constructor (label p m))) (Decides-ltb m n)) (Decides-ltb n (end p m))) (length p)

  module _ (n : ℕ) (lt : n < length p) (pos : 0 < n) where
    up : parent p n < n
    up = local.tree.up n lt pos

    held : n < end p (parent p n)
    held = local.tree.held n lt pos

    out : IsCall (parent p n) ⊎ ((m : ℕ) × (m < length p) × Around (parent p n) m) → (m : ℕ) × (m < length p) × Around n m
    out (inl h) = let a = up in (parent p n, omega arith, ((h, a), held))
    out (inr h) = let a = h.2.0.1 in let b = h.2.1 in let c = up in let d = held in let ends = local.tree.apart h.0 (parent p n) a b in (h.0, h.1, ((h.2.0.0, omega arith), omega arith))

    into : (m : ℕ) × (m < length p) × Around n m → IsCall (parent p n) ⊎ ((m : ℕ) × (m < length p) × Around (parent p n) m)
    into h = let a = h.2.0.1 in let b = h.2.1 in let c = up in let low = local.tree.inner h.0 n a b in
        ⊎_elim (λ e. inl (subst IsCall e h.2.0.0)) (λ apart. inr (h.0, h.1, ((h.2.0.0, omega arith), omega arith))) (cases_eq h.0 (parent p n))

    over_told : (is_call_of_constructor (label p (parent p n)) || is_in_constructor_call p (parent p n)) ≡ is_in_constructor_call p n
    over_told = same_tests _ _ ((m : ℕ) × (m < length p) × Around n m) (like (either (itself (is_call_of_constructor (label p (parent p n)))) (call_tells (parent p n))) out into) (call_tells n)

  none_first : false ≡ is_in_constructor_call p 0
  none_first = sym (false_from_ne_true _ (λ h. let k = (call_tells 0).0 h in let a = k.2.0.1 in absurd (omega arith)))

  none_past : (n : ℕ) → length p ≤ n → false ≡ is_in_constructor_call p n
  none_past n le = sym (false_from_ne_true _ (λ h. let k = (call_tells n).0 h in let last = local.tree.last k.0 k.1 in let b = k.2.1 in absurd (omega arith)))

  stepped : (n : ℕ) → n < length p → call_by p (tabulated (is_in_constructor_call p) n) n ≡ is_in_constructor_call p n
  stepped zero lt = ap (λ m. is_call_of_constructor (label p m) || false) local.tree.root ∙ ap (λ l. is_call_of_constructor l || false) local.program ∙ none_first
  stepped (suc n) lt = ap (λ b. is_call_of_constructor (label p (parent p (suc n))) || b) (tabulated_at (is_in_constructor_call p) false (suc n) (parent p (suc n)) (up (suc n) lt (omega arith))) ∙ over_told (suc n) lt (omega arith)

  pub calls_told : (all : List Bool) → all ≡ grown (call_by p) (length p) → AreCalls p all
  calls_told all is n = grown_told (call_by p) (is_in_constructor_call p) (length p) false all is stepped none_past n
