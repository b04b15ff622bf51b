-- Which calls find in the changed program the copy of what they found (JLS 15.12.4.4).
use Rattle.std.specs.Prelude.{◌≡◌, ℕ, ◌<◌, Bool, false, List, [], ◌∷◌, Option, Some, None, nat_eq}
use Rattle.jr_tree.specs.Rows.{Rows}
use Rattle.jr_defs.specs.Referents.{Table}
use Rattle.jr_defs.specs.Overriding.{Dispatches}
use Rattle.jr_dispatch.specs.declared.dispatch.Found as code
use Rattle.jr_locks.specs.Origins.{row_by, origin_of}
use Rattle.jr_edges.specs.declared.dispatched.Lost as lost_call

-- the row m is the copy of the old row n
abbrev pub IsCopy : List ℕ → ℕ → ℕ → Type 0
IsCopy copy n m = row_by (origin_of copy n) ≡ Some m

-- the copy of the old row n was found
abbrev pub is_copy_of : Option ℕ → Option ℕ → Bool
is_copy_of (Some m) (Some found) = nat_eq m found
is_copy_of _ _ = false

abbrev pub is_copy_found : List ℕ → ℕ → Option ℕ → Bool
is_copy_found copy n found = is_copy_of (row_by (origin_of copy n)) found

module _ (q : Rows) (l : Table) (copy : List ℕ) where
  -- a call of the copy of m in the copy of the class c finds the copy of f
  abbrev pub KeepsCall : ℕ → ℕ → ℕ → Type 0
  KeepsCall c m f = (d k : ℕ) → IsCopy copy c d → IsCopy copy m k → (g : ℕ) × IsCopy copy f g × Dispatches q l d k g

  -- the first edge of a list that is not kept
  pub data IsFirstLost : List code.Found → Option lost_call.Lost → Type 0 where
    none : IsFirstLost [] None
    here : {e : code.Found} {more : List code.Found} → (KeepsCall e.class e.method e.found → ⊥) → IsFirstLost (e ∷ more) (Some (record { class = e.class; method = e.method }))
    later : {e : code.Found} {more : List code.Found} {found : Option lost_call.Lost} → KeepsCall e.class e.method e.found → IsFirstLost more found → IsFirstLost (e ∷ more) found

  module _ (p : Rows) (t : Table) where
    -- calls in the class find the copies of what they found
    abbrev pub KeepsClass : ℕ → Type 0
    KeepsClass c = (m f : ℕ) → Dispatches p t c m f → KeepsCall c m f

    -- the first method of the class of which that does not hold
    pub record IsLostIn (c : ℕ) (lost : lost_call.Lost) : Type 0 where
      pub in_class : lost.class ≡ c
      pub found : ℕ
      pub was : Dispatches p t c lost.method found
      pub lacks : KeepsCall c lost.method found → ⊥
      pub before : (m f : ℕ) → m < lost.method → Dispatches p t c m f → KeepsCall c m f

    abbrev pub IsClassTold : ℕ → Option lost_call.Lost → Type 0
    IsClassTold c None = KeepsClass c
    IsClassTold c (Some lost) = IsLostIn c lost

    -- the first such class
    pub record IsLost (lost : lost_call.Lost) : Type 0 where
      pub there : IsLostIn lost.class lost
      pub classes : (c : ℕ) → c < lost.class → KeepsClass c

    -- of the classes below a number
    abbrev pub AreTold : ℕ → Option lost_call.Lost → Type 0
    AreTold n None = (c : ℕ) → c < n → KeepsClass c
    AreTold n (Some lost) = IsLost lost

-- each call in the copy of a class finds the copy of what it found there
abbrev pub KeepsDispatch : Rows → Table → Rows → Table → List ℕ → Type 0
KeepsDispatch p t q l copy = (c m f : ℕ) → Dispatches p t c m f → KeepsCall q l copy c m f

-- what is told of the calls of a program and the changed one: that all are kept, or the first that is not
abbrev pub IsTold : Rows → Table → Rows → Table → List ℕ → Option lost_call.Lost → Type 0
IsTold p t q l copy None = KeepsDispatch p t q l copy
IsTold p t q l copy (Some lost) = IsLost q l copy p t lost
