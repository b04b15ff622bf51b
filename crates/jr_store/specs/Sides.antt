-- What a file holds, or that it is absent, put into an image.
use Rattle.std.specs.Prelude.{◌≢◌, List, [], ◌∷◌, ℕ, Option, if◌then◌else◌, bytes_eq}
use Rattle.jr_store.specs.Image.{Image}

abbrev pub put_side : List ℕ → Option (List ℕ) → Image → Image
put_side path side f q = if bytes_eq q path then side else f q

-- none of the paths is this one
abbrev pub IsNoneOf : List (List ℕ) → List ℕ → Type 0
IsNoneOf [] q = Unit {0}
IsNoneOf (p ∷ ps) q = (q ≢ p) × IsNoneOf ps q
