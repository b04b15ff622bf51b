-- Where the last of the scopes of each name ends.
use Rattle.std.specs.Prelude.{◌≡◌, ℕ, ◌<◌, ◌≤◌, if◌then◌else◌, List, [], ◌∷◌, length, nat_lt, slice_index_or, slice_set}
use Rattle.jr_tree.specs.Rows.{Rows}
use Rattle.jr_places.specs.Names.{name_row}
use Rattle.jr_members.specs.Each.{AreBelow}

abbrev pub end_in : List ℕ → ℕ → ℕ
end_in ends x = slice_index_or ends x 0

-- one more scope of the name x, which ends at e
abbrev pub opened : List ℕ → ℕ → ℕ → List ℕ
opened ends x e = if nat_lt (end_in ends x) e then slice_set ends x e else ends

-- one more scope for each of these rows
abbrev pub all_opened : Rows → ℕ → List ℕ → List ℕ → List ℕ
all_opened p e [] ends = ends
all_opened p e (d ∷ more) ends = all_opened p e more (opened ends (name_row p d) e)

-- the target is reached once the scopes of the rest are opened
pub record IsOpening (p : Rows) (e : ℕ) (target rest ends : List ℕ) : Type 0 where
  pub below : AreBelow (length p) rest
  pub is : all_opened p e rest ends ≡ target

-- these are the ends of the scopes that are opened, of which `Opens d e` tells that d opens one that ends at e
pub record AreEndsOf (p : Rows) (ends : List ℕ) (Opens : ℕ → ℕ → Type 0) : Type 0 where
  pub size : length ends ≡ length p
  pub sound : (x o : ℕ) → o < end_in ends x → (d : ℕ) × (e : ℕ) × Opens d e × (name_row p d ≡ x) × (o < e)
  pub whole : (d e : ℕ) → Opens d e → e ≤ end_in ends (name_row p d)
