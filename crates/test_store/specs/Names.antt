-- The paths of files.
use Rattle.std.specs.Prelude.{ℕ, List, map}

abbrev pub names : List (List ℕ × List ℕ) → List (List ℕ)
names = map (λ f. f.0)
