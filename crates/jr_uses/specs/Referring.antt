-- The rows that refer to a declaration.
use Rattle.std.specs.Map.{lookup}
use Rattle.std.specs.Prelude.{ℕ, zero, suc, Bool, false, List, [], ◌∷◌, ◌++◌, Option, None, Some, if◌then◌else◌, nat_eq, slice_index_or}
use Rattle.std.specs.Option.{option_map_or}
use Rattle.std.specs.Global.{Vec}
use Rattle.indexmap.specs.IndexMap.{IndexMap, get}
use Rattle.jr_defs.specs.declared.referent.Referent.{Referent}
use Rattle.jr_defs.specs.declared.referent.Referent.TheVariants.{Unbound, Ambiguous, ArrayLength, Package, Declared}

-- the declaration to which a referent leads
abbrev pub declared_in : Referent → Option ℕ
declared_in (Declared d level) = Some d
declared_in Unbound = None
declared_in Ambiguous = None
declared_in ArrayLength = None
declared_in Package = None

-- the declaration to which a row of a table refers
abbrev pub declared_at : List Referent → ℕ → Option ℕ
declared_at t n = declared_in (slice_index_or t n Unbound)

-- a row of a table refers to the declaration
abbrev pub refers : List Referent → ℕ → ℕ → Bool
refers t n d = option_map_or (λ e. nat_eq e d) (declared_at t n) false

-- the rows below a number that refer to the declaration, as they rise
abbrev pub uses_below : List Referent → ℕ → ℕ → List ℕ
uses_below t d zero = []
uses_below t d (suc n) = uses_below t d n ++ (if refers t n d then n ∷ [] else [])

-- what entries have under a declaration
abbrev pub rows_in : List (ℕ × Vec ℕ) → ℕ → List ℕ
rows_in es d = option_map_or (λ rows. rows.items) (lookup (nat_eq d) es) []

-- what a map has under a declaration
abbrev pub rows_of : {S : Type 0} → IndexMap ℕ (Vec ℕ) S → ℕ → List ℕ
rows_of m d = option_map_or (λ rows. rows.items) (get nat_eq m d) []
