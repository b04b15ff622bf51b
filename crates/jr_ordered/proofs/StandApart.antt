-- Whether tokens stand apart, from the first on.
use Rattle.std.proofs.Common.{arith, ℕ, zero, suc, ◌<◌, ◌≤◌, List, [], ◌∷◌, length}
use Rattle.std.specs.Prelude.{slice_index_or}
use Rattle.jr_base.specs.declared.token.Token.{Token}
use Rattle.jr_marks.specs.Places.{AreApart}

-- the tokens stand apart, and begin at this offset or behind it
pub record AreBehind (end : ℕ) (ts : List Token) : Type 0 where
  pub apart : AreApart ts
  pub begins : (k : ℕ) (d : Token) → k < length ts → end ≤ (slice_index_or ts k d).span.start

module _ (end : ℕ) (t : Token) (ts : List Token) where
  whole_on : t.span.start < t.span.end → AreApart ts → (k : ℕ) (d : Token) → k < length (t ∷ ts) → (slice_index_or (t ∷ ts) k d).span.start < (slice_index_or (t ∷ ts) k d).span.end
  whole_on lt h zero d within = lt
  whole_on lt h (suc k) d within = h.whole k d (omega arith)

  apart_on : AreBehind t.span.end ts → (j k : ℕ) (d : Token) → j < k → k < length (t ∷ ts) → (slice_index_or (t ∷ ts) j d).span.end ≤ (slice_index_or (t ∷ ts) k d).span.start
  apart_on h j zero d lt within = absurd (omega arith)
  apart_on h zero (suc k) d lt within = h.begins k d (omega arith)
  apart_on h (suc j) (suc k) d lt within = h.apart.apart j k d (omega arith) (omega arith)

  begins_on : end ≤ t.span.start → t.span.start < t.span.end → AreBehind t.span.end ts → (k : ℕ) (d : Token) → k < length (t ∷ ts) → end ≤ (slice_index_or (t ∷ ts) k d).span.start
  begins_on le lt h zero d within = le
  begins_on le lt h (suc k) d within = let b = h.begins k d (omega arith) in omega arith

  pub joined : ((end ≤ t.span.start) × (t.span.start < t.span.end)) × AreBehind t.span.end ts → AreBehind end (t ∷ ts)
  joined h = record { apart = record { whole = whole_on h.0.1 h.1.apart; apart = apart_on h.1 }; begins = begins_on h.0.0 h.0.1 h.1 }

pub none_behind : (end : ℕ) → AreBehind end []
none_behind end = record { apart = record { whole = λ k d lt. absurd (omega arith); apart = λ j k d lt within. absurd (omega arith) }; begins = λ k d lt. absurd (omega arith) }
