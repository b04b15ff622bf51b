-- The rows that hold a row.
use Rattle.std.proofs.Common.{◌≡◌, ◌⊎◌, refl, sym, ◌∙◌, ap, ap₂, inl, inr, ⊎_elim, arith, ℕ, zero, suc, ◌<◌, ◌≤◌, Bool, true, false, ◌&&◌, cond, List, [], ◌∷◌, ◌++◌, length, nat_eq, nat_lt, Decides, append_assoc}
use Rattle.std.proofs.lemmas.Bool.{false≢true, cases_eq}
use Rattle.std.proofs.lemmas.Bool.Decides.{Decides-eqb, Decides-ltb}
use Rattle.jr_tree.specs.declared.label.Label.{Label}
use Rattle.jr_tree.specs.declared.label.Label.TheVariants as is
use Rattle.jr_tree.specs.declared.label.Role.TheVariants as role
use Rattle.jr_tree.specs.Rows.{Rows, label, parent, end, role_at}
use Rattle.jr_tree.specs.Tree.{IsTree}
use Rattle.jr_defs.specs.Scope.{block_end, block_end_by}
use Rattle.jr_plain.specs.Search.{has}
use Rattle.jr_plain.specs.Same.{same_role}
use Rattle.jr_plain.proofs.Tests.{never, either, like}
use Rattle.jr_places.specs.Above.{above_to, holders, HoldersTo, block_by, block_of, is_local_at, HoldersTell}

-- ---- one row at a time

pub holders_start : (p : Rows) (k : ℕ) (done : List ℕ) → done ≡ [] → HoldersTo p k k k done
holders_start p k done none = record { rest = ap (λ xs. xs ++ above_to p k k) none }

pub holders_more : {p : Rows} {k room over : ℕ} {done : List ℕ} (j next : ℕ) (more : List ℕ) → HoldersTo p k room over done → suc j ≡ room → (over ≡ 0 → ⊥) → next ≡ parent p over → more ≡ done ++ over ∷ []
    → HoldersTo p k j next more
holders_more {p = p} {k = k} {room = room} {over = over} {done = done} j next more h left apart up pushed = record {
  rest = ap₂ (λ xs next. xs ++ above_to p j next) pushed up ∙ append_assoc done (over ∷ []) (above_to p j (parent p over))
      ∙ ap (λ xs. done ++ xs) (by (nat_eq over 0) (Decides-eqb over 0)) ∙ ap (λ room. done ++ above_to p room over) left ∙ h.rest;
}
  where
    by : (b : Bool) → Decides b (over ≡ 0) → (over ∷ above_to p j (parent p over)) ≡ (over ∷ cond b [] (above_to p j (parent p over)))
    by true d = absurd (apart (d.0 refl))
    by false d = refl

pub holders_root : {p : Rows} {k room over : ℕ} {done : List ℕ} (more : List ℕ) → HoldersTo p k room over done → over ≡ 0 → more ≡ done ++ over ∷ [] → more ≡ holders p k
holders_root {p = p} {k = k} {room = room} {over = over} {done = done} more h root pushed = pushed ∙ ap (λ xs. done ++ xs) (by room) ∙ h.rest
  where
    by : (room : ℕ) → (over ∷ []) ≡ above_to p room over
    by zero = refl
    by (suc j) = at (nat_eq over 0) (Decides-eqb over 0)
      where
        at : (b : Bool) → Decides b (over ≡ 0) → (over ∷ []) ≡ (over ∷ cond b [] (above_to p j (parent p over)))
        at true d = refl
        at false d = absurd (false≢true (d.1 root))

pub holders_last : {p : Rows} {k room over : ℕ} {done : List ℕ} (more : List ℕ) → HoldersTo p k room over done → room ≡ 0 → more ≡ done ++ over ∷ [] → more ≡ holders p k
holders_last {p = p} {k = k} {room = room} {over = over} {done = done} more h none pushed = pushed ∙ ap (λ room. done ++ above_to p room over) (sym none) ∙ h.rest

-- ---- what they are

module _ (p : Rows) (tree : IsTree p) where
  -- a row holds itself alone, or what is over it does
  held_by : (k m : ℕ) → k < length p → 0 < k → Decides true (((k ≡ m) ⊎ ((m ≤ parent p k) × (parent p k < end p m))) → (m ≤ k) × (k < end p m))
  held_by k m lt pos = (λ t. ⊎_elim (λ e. let n = tree.nested k in let same = ap (end p) e in (omega arith, omega arith)) over, λ h. refl)
    where
      over : (m ≤ parent p k) × (parent p k < end p m) → (m ≤ k) × (k < end p m)
      over h =
          let up = tree.up k lt pos in let held = tree.held k lt pos in let a = h.0 in let b = h.1 in
          ⊎_elim (λ e. let same = ap (end p) e in (omega arith, omega arith)) (λ apart. let ends = tree.apart m (parent p k) (omega arith) b in (omega arith, omega arith)) (cases_eq m (parent p k))

  holds : (k m : ℕ) → k < length p → 0 < k → (m ≤ k) × (k < end p m) → (k ≡ m) ⊎ ((m ≤ parent p k) × (parent p k < end p m))
  holds k m lt pos h = let a = h.0 in let b = h.1 in let up = tree.up k lt pos in
      ⊎_elim inl (λ apart. let low = tree.inner m k (omega arith) b in inr (low, omega arith)) (cases_eq k m)

  only_root : (k m : ℕ) → k ≡ 0 → Decides (has (k ∷ []) m) ((m ≤ k) × (k < end p m))
  only_root k m e = like (either (Decides-eqb k m) never) (⊎_elim (λ s. let n = tree.nested k in let same = ap (end p) s in (omega arith, omega arith)) (λ z. absurd z)) (λ h. let le = h.0 in inl (omega arith))

  above_tells : (rounds k m : ℕ) → k ≤ rounds → k < length p → Decides (has (above_to p rounds k) m) ((m ≤ k) × (k < end p m))
  above_tells zero k m le lt = only_root k m (omega arith)
  above_tells (suc rounds) k m le lt = by (nat_eq k 0) (Decides-eqb k 0) (λ pos. let up = tree.up k lt pos in above_tells rounds (parent p k) m (omega arith) (omega arith))
    where
      by : (b : Bool) → Decides b (k ≡ 0) → (0 < k → Decides (has (above_to p rounds (parent p k)) m) ((m ≤ parent p k) × (parent p k < end p m)))
          → Decides (has (k ∷ cond b [] (above_to p rounds (parent p k))) m) ((m ≤ k) × (k < end p m))
      by true d rest = only_root k m (d.0 refl)
      by false d rest = let pos : 0 < k = ⊎_elim (λ e. absurd (false≢true (d.1 e))) (λ apart. omega arith) (cases_eq k 0) in
          like (either (Decides-eqb k m) (rest pos)) ((held_by k m lt pos).0 refl) (holds k m lt pos)

  -- a block ends where the row does that stands for it, and begins before what is declared in it
  ends_with : (l : Label) (b : ℕ) → block_end_by l p b ≡ end p (block_by l p b)
  ends_with is.Group b = refl
  ends_with _ b = refl

  below_it : (l : Label) (b : ℕ) → b < length p → block_by l p b ≤ b
  below_it is.Group b lt = ⊎_elim (λ e. let root = ap (parent p) e ∙ tree.root in omega arith) (λ apart. let up = tree.up b lt (omega arith) in omega arith) (cases_eq b 0)
  below_it _ b lt = omega arith

  parent_most : (k : ℕ) → k < length p → parent p k ≤ k
  parent_most k lt = ⊎_elim (λ e. let root = ap (parent p) e ∙ tree.root in omega arith) (λ apart. let up = tree.up k lt (omega arith) in omega arith) (cases_eq k 0)

  block_before : (d : ℕ) → d < length p → block_of p d ≤ d
  block_before d lt = let a = parent_most d lt in let b = parent_most (parent p d) (omega arith) in let c = below_it (label p (parent p (parent p d))) (parent p (parent p d)) (omega arith) in omega arith

  same_scope : (d o : ℕ) → o < length p → d < o → has (holders p o) (block_of p d) ≡ nat_lt o (block_end p (parent p (parent p d)))
  same_scope d o lt after = one (has (holders p o) (block_of p d)) (nat_lt o (block_end p (parent p (parent p d)))) (above_tells o o (block_of p d) (omega arith) lt) (Decides-ltb o (block_end p (parent p (parent p d))))
    where
      one : (a b : Bool) → Decides a ((block_of p d ≤ o) × (o < end p (block_of p d))) → Decides b (o < block_end p (parent p (parent p d))) → a ≡ b
      one true true x y = refl
      one true false x y = let h = (x.0 refl).1 in let e = ends_with (label p (parent p (parent p d))) (parent p (parent p d)) in absurd (false≢true (y.1 (omega arith)))
      one false true x y = let h = y.0 refl in let e = ends_with (label p (parent p (parent p d))) (parent p (parent p d)) in let low = block_before d (omega arith) in absurd (false≢true (x.1 (omega arith, omega arith)))
      one false false x y = refl

  local_same : (d o : ℕ) → o < length p → is_local_at p d o ≡ (same_role (role_at p d) role.Local && nat_lt d o && nat_lt o (block_end p (parent p (parent p d))))
  local_same d o lt = by (same_role (role_at p d) role.Local) (nat_lt d o) (Decides-ltb d o)
    where
      by : (a b : Bool) → Decides b (d < o) → (a && b && has (holders p o) (block_of p d)) ≡ (a && b && nat_lt o (block_end p (parent p (parent p d))))
      by true true h = same_scope d o lt (h.0 refl)
      by true false h = refl
      by false b h = refl

  pub holders_tell : HoldersTell p
  holders_tell = record { hold = λ k lt m. above_tells k k m (omega arith) lt; locals = local_same }
