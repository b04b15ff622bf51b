-- Sets of variables: what is assigned at a place.
use Rattle.std.specs.Prelude.{ℕ, suc, zero, Bool, true, false, ◌&&◌, ◌||◌, if◌then◌else◌, nat_eq}

-- the sets of some kind
pub record Sets (A : Type 0) : Type 0 where
  pub none : A
  -- everything: what is assigned where control never comes (JLS 16)
  pub all : A
  -- what is in both, and what is in one or the other
  pub both : A → A → A
  pub either : A → A → A
  -- the set of one variable, and a set without it
  pub one : ℕ → A
  pub less : ℕ → A → A

-- of all variables v alone: whether it is in the set
abbrev pub only : ℕ → Sets Bool
only v = record { none = false; all = true; both = λ a b. a && b; either = λ a b. a || b; one = λ d. nat_eq d v; less = λ d a. if nat_eq d v then false else a }

-- what is in all of the sets of the first k numbers that pass the test
abbrev pub both_of : {A : Type 0} → Sets A → (ℕ → Bool) → (ℕ → A) → ℕ → A
both_of s test value zero = s.all
both_of s test value (suc k) = let rest = both_of s test value k in if test k then s.both rest (value k) else rest
