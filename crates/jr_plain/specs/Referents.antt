-- The answer of a list of declarations (JLS 6.5).
use Rattle.std.specs.Prelude.{ℕ, Bool, List, [], ◌∷◌, Option, if◌then◌else◌}
use Rattle.std.specs.List.{list_all}
use Rattle.jr_defs.specs.declared.referent.Referent.{Referent}
use Rattle.jr_defs.specs.declared.referent.Referent.TheVariants.{Ambiguous, Declared}
use Rattle.jr_plain.specs.Search.{among}
use Rattle.jr_plain.specs.Same.{same_candidate}

-- one candidate is the answer, several are ambiguous, and with none the answer is the other one
abbrev pub answer_of : List (ℕ × Option ℕ) → Referent → Referent
answer_of [] otherwise = otherwise
answer_of (one ∷ more) otherwise = if list_all (same_candidate one) more then Declared one.0 one.1 else Ambiguous

-- the declaration d, found through the level, is a candidate
abbrev pub is_candidate : List (ℕ × Option ℕ) → ℕ → Option ℕ → Bool
is_candidate candidates d level = among same_candidate candidates (d, level)
