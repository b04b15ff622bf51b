-- Files that pile up, as plain data.
use Rattle.std.specs.Prelude.{ℕ, ◌-◌, nat_lt, Bool, true, false, List, [], ◌∷◌, length, Option, Some, None, if◌then◌else◌}
use Rattle.std.specs.FinMap as map
use Rattle.jr_base.specs.Files.{FileMap}
use Rattle.jr_base.specs.declared.limits.TheConstants.Limits as limits
use Rattle.jr_store.specs.Image.{Image}
use Rattle.jr_base.specs.declared.limits.Size.TheVariants as size
use Rattle.jr_gather.specs.declared.collect.Gathered.{Gathered}
use Rattle.jr_gather.specs.declared.collect.Gathered.TheVariants as gathered
use Rattle.jr_gather.specs.declared.pile.Pile.{Pile}

-- the files so far, how many bytes all may still have, whether one was too large, and whether all were
pub record PlainPile : Type 0 where
  pub files : FileMap
  pub left : ℕ
  pub is_large : Bool
  pub is_past : Bool

abbrev pub plain_pile : Pile → PlainPile
plain_pile pile = record { files = pile.files; left = pile.left; is_large = pile.is_large; is_past = pile.is_past }

abbrev pub start : PlainPile
start = record { files = map.empty; left = limits.TOTAL; is_large = false; is_past = false }

-- the pile with a file more
abbrev pub next : PlainPile → List ℕ → List ℕ → PlainPile
next pile path bytes =
    if nat_lt limits.FILE (length bytes) then record { files = pile.files; left = pile.left; is_large = true; is_past = pile.is_past }
    else (if nat_lt pile.left (length bytes) then record { files = pile.files; left = pile.left; is_large = pile.is_large; is_past = true }
    else record { files = map.insert pile.files path bytes; left = pile.left - length bytes; is_large = pile.is_large; is_past = pile.is_past })

abbrev pub with_side : PlainPile → List ℕ → Option (List ℕ) → PlainPile
with_side pile path None = pile
with_side pile path (Some bytes) = next pile path bytes

-- the pile with the files at these paths
abbrev pub pile_of : Image → PlainPile → List (List ℕ) → PlainPile
pile_of f pile [] = pile
pile_of f pile (path ∷ paths) = pile_of f (with_side pile path (f path)) paths

-- what the pile comes to: a file that is too large first, and then all together
abbrev pub outcome_of : PlainPile → Gathered
outcome_of pile = if pile.is_large then gathered.TooLarge size.File else (if pile.is_past then gathered.TooLarge size.Total else gathered.Files pile.files)
