-- Rows and bodies one after the other.
use Rattle.std.proofs.Common.{◌≡◌, sym, ◌∙◌, subst, ⊎_elim, arith, ℕ, ◌+◌, ◌<◌, ◌≤◌, true, false, ◌&&◌, List}
use Rattle.std.proofs.lemmas.Bool.{false≢true, cases_lt, and_parts}
use Rattle.jr_tree.specs.Rows.{Rows, label, end}
use Rattle.jr_flow_defs.specs.Meaning.{Meaning}
use Rattle.jr_flow_laws.specs.Shifted.{declares_code}
use Rattle.jr_change.specs.declared.change.RowRange.{RowRange}
use Rattle.jr_locks.specs.Origins.{origin_of}
use Rattle.jr_meaning.specs.Meaning.{is_alike}
use Rattle.jr_meaning.specs.Whole.{is_whole_at}
use Rattle.jr_meaning.specs.Kept.{IsRun, IsKeptRow, AreKept, KeepsBody, KeepBodies}

module _ (p q : Rows) (m w : Meaning) (targets loops : List ℕ) where
  pub row_kept : (range : RowRange) (n k : ℕ) → (is_whole_at p m targets loops range n && is_alike p q m w n k) ≡ true → IsKeptRow p q m w targets loops range n k
  row_kept range n k h = let both = and_parts (is_whole_at p m targets loops range n) (is_alike p q m w n k) h in record { whole = both.0; alike = both.1 }

  module _ (copy : List ℕ) where
    pub kept_more : (range : RowRange) (at k : ℕ) → AreKept p q m w targets loops copy range at → IsKeptRow p q m w targets loops range at k → k ≡ origin_of copy at
        → AreKept p q m w targets loops copy range (at + 1)
    kept_more range at k h one e n low lt = ⊎_elim (λ early. h n low early)
        (λ past. let same : at ≡ n = omega (arith, lt, past) in
        subst (λ z. IsKeptRow p q m w targets loops range z (origin_of copy z)) same (subst (λ z. IsKeptRow p q m w targets loops range at z) e one))
        (cases_lt n at)

    pub kept_to : (range : RowRange) (at stop : ℕ) → stop ≤ at → AreKept p q m w targets loops copy range at → AreKept p q m w targets loops copy range stop
    kept_to range at stop le h n low lt = h n low (omega (arith, le, lt))

    pub no_body : (body : ℕ) → declares_code (label p body) ≡ false → KeepsBody p q m w targets loops copy body
    no_body body none = record { keeps = λ code run. absurd (false≢true (sym none ∙ code)) }

    pub no_run : (body stop : ℕ) → stop ≡ end p body → (IsRun copy (record { first = body; end = stop }) → ⊥) → KeepsBody p q m w targets loops copy body
    no_run body stop e none = record { keeps = λ code run. absurd (none (λ n low lt. run n low (subst (λ k. n < k) e lt))) }

    pub by_rows : (body stop : ℕ) → stop ≡ end p body → AreKept p q m w targets loops copy (record { first = body; end = stop }) stop → KeepsBody p q m w targets loops copy body
    by_rows body stop e h = record { keeps = λ code run. subst (λ k. AreKept p q m w targets loops copy (record { first = body; end = k }) k) e h }

    pub body_more : (at : ℕ) → KeepBodies p q m w targets loops copy at → KeepsBody p q m w targets loops copy at → KeepBodies p q m w targets loops copy (at + 1)
    body_more at h one n lt = ⊎_elim (λ early. h n early) (λ past. let same : at ≡ n = omega (arith, lt, past) in subst (KeepsBody p q m w targets loops copy) same one) (cases_lt n at)

    pub bodies_to : (at stop : ℕ) → stop ≤ at → KeepBodies p q m w targets loops copy at → KeepBodies p q m w targets loops copy stop
    bodies_to at stop le h n lt = h n (omega (arith, le, lt))
