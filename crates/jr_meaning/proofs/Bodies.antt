-- Bodies that are left alone keep their flow.
use Rattle.std.proofs.Common.{◌≡◌, subst, arith, ℕ, ◌+◌, ◌<◌, ◌≤◌, true, false, List, length}
use Rattle.jr_tree.specs.Rows.{Rows, label, end}
use Rattle.jr_tree.specs.Tree.{IsTree}
use Rattle.jr_flow_defs.specs.Meaning.{Meaning}
use Rattle.jr_flow_laws.specs.Shifted.{IsIn, declares_code, IsWholeBody}
use Rattle.jr_change.specs.declared.change.Change.{Change}
use Rattle.jr_locks.specs.Origins.{no_row, origin_of}
use Rattle.jr_locks.specs.Changed.{IsChanged, origins_by, copies_by}
use Rattle.jr_copied_flow.specs.Alone.{copy_in, IsLeftAlone, KeepsMeaning, KeepsFlowAt}
use Rattle.jr_copied_flow.proofs.Kept.{flow_is_kept}
use Rattle.jr_meaning.specs.Whole.{nears}
use Rattle.jr_meaning.specs.Kept.{KeepsBodies, IsRun, AreKept, rows_of, KeepBodies, AreNears}
use Rattle.jr_meaning.proofs.Firsts.{seen_from, sees_first, copy_is, copy_is_row}
use Rattle.jr_meaning.proofs.Likeness.{IsLike, alike_tells}
use Rattle.jr_meaning.proofs.Holds.{whole_by}

module _ (p q : Rows) (m w : Meaning) (change : Change) (fits : length p ≤ no_row) (room : length q ≤ no_row) (here : IsTree p) (there : IsTree q) (changed : IsChanged p m.targets change q w.targets) where
  abbrev copies : List ℕ
  copies = copies_by (origins_by change) (length p)

  abbrev Keep : Type 0
  Keep = KeepBodies p q m w (nears p true (length p)) (nears p false (length p)) copies (length p)

  module _ (keep : Keep) (body at : ℕ) (few : body < length p) (code : declares_code (label p body) ≡ true) (alone : IsLeftAlone p change body at) where
    abbrev In : ℕ → Type 0
    In = IsIn p body

    few_row : (n : ℕ) → In n → n < length p
    few_row n i = let l = here.last body few in let t = i.to in omega (arith, l, t)

    fits_end : end p body ≤ no_row
    fits_end = let l = here.last body few in omega (arith, l, fits)

    copied : (n : ℕ) → In n → origin_of copies n ≡ copy_in body at n
    copied n i = copy_is p change body at fits_end alone n i (few_row n i)

    run : IsRun copies (rows_of p body)
    run n low high =
        let i : In n = record { from = low; to = high } in
        let first : In body = record { from = omega arith; to = here.nested body } in
        let one = copied n i in
        let other = copied body first in
        let row = copy_is_row p change body at fits_end alone n i in
        let count = changed.count in
        (omega (arith, one, other, low), omega (arith, one, row, count, room))

    kept : AreKept p q m w (nears p true (length p)) (nears p false (length p)) copies (rows_of p body) (end p body)
    kept = (keep body few).keeps code run

    whole : IsWholeBody p m body
    whole = whole_by p m body here few code (λ n i. (kept n i.from i.to).whole)

    like : (n : ℕ) → In n → IsLike p q m w n (copy_in body at n)
    like n i = subst (λ k. IsLike p q m w n k) (copied n i) (alike_tells p q m w n (origin_of copies n) (kept n i.from i.to).alike)

    read : KeepsMeaning p q m w change body at (seen_from change.inner (origins_by change) at)
    read = record {
      sees = λ d c less seen. sees_first change.inner (origins_by change) (length p) at d c fits less seen;
      known = λ n d i e. (like n i).known d e;
      bound = λ n d i e none. (like n i).bound d e none;
      roles = λ n d c i e f. (like n i).roles d c e f;
      constants = λ n i. (like n i).constants;
      texts = λ n i. (like n i).texts;
      shown = λ n i. (like n i).shown;
      casts = λ n i e. (like n i).casts e;
    }

    kept_flow : KeepsFlowAt p q m w change body at
    kept_flow = flow_is_kept p q change m w body at (seen_from change.inner (origins_by change) at) changed here there fits whole alone read

  all_kept : Keep → KeepsBodies p q m w change
  all_kept keep = record { keeps = λ body at few code alone. kept_flow keep body at few code alone }

pub bodies_kept : (p q : Rows) (m w : Meaning) (change : Change) (targets loops copy : List ℕ) (count : ℕ) → count ≡ length p → length p + 3 < 4294967296 → length q + 3 < 4294967296 → AreNears p targets loops
    → copy ≡ copies_by (origins_by change) (length p) → IsTree p → IsTree q → IsChanged p m.targets change q w.targets → KeepBodies p q m w targets loops copy count → KeepsBodies p q m w change
bodies_kept p q m w change targets loops copy count all few few_new near same here there changed keep =
    all_kept p q m w change (omega (arith, few)) (omega (arith, few_new)) here there changed
    (subst (λ n. KeepBodies p q m w (nears p true (length p)) (nears p false (length p)) (copies_by (origins_by change) (length p)) n) all
    (subst (λ xs. KeepBodies p q m w (nears p true (length p)) (nears p false (length p)) xs count) same
    (subst (λ xs. KeepBodies p q m w (nears p true (length p)) xs copy count) near.looped
    (subst (λ xs. KeepBodies p q m w xs loops copy count) near.switched keep))))
