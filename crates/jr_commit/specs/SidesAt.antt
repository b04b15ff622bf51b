-- What stands at paths, put into an image.
use Rattle.std.specs.Prelude.{◌≡◌, List, [], ◌∷◌, ℕ, map, Option}
use Rattle.jr_store.specs.Image.{Image}
use Rattle.jr_store.specs.Sides.{put_side, IsNoneOf}

-- a path, and the bytes of the file there, or `None` where there is no file
abbrev pub SideAt : Type 0
SideAt = List ℕ × Option (List ℕ)

-- the image with each side put into it
abbrev pub with_sides : List SideAt → Image → Image
with_sides [] f = f
with_sides (e ∷ es) f = with_sides es (put_side e.0 e.1 f)

abbrev pub paths_of : List SideAt → List (List ℕ)
paths_of es = map (λ e. e.0) es

-- no side is at this path
abbrev pub IsOff : List SideAt → List ℕ → Type 0
IsOff es q = IsNoneOf (paths_of es) q

-- old and new differ at the sides' paths at most
abbrev pub ChangesOnlyOn : List SideAt → Image → Image → Type 0
ChangesOnlyOn es old new = (q : List ℕ) → IsOff es q → new q ≡ old q

-- an earlier outcome after a step
abbrev pub After : (Image → Image → Type 0) → (Image → Type 0) → Image → Type 0
After step outcomes c = (d : Image) × outcomes d × step d c

-- new is old with each side put into it
abbrev pub HasSides : List SideAt → Image → Image → Type 0
HasSides es old new = new ≡ with_sides es old
