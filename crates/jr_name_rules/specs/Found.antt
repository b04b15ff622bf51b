-- What rows refer to, tests on what is found, and names that are the same.
use Rattle.std.specs.Prelude.{ℕ, zero, suc, ◌+◌, Bool, false, Option, Some, None, bytes_eq}
use Rattle.std.specs.Option.{option_map_or}
use Rattle.jr_tree.specs.Rows.{Rows, name}
use Rattle.jr_defs.specs.declared.referent.Referent.{Referent}
use Rattle.jr_defs.specs.declared.referent.Referent.TheVariants.{Declared}
use Rattle.jr_defs.specs.Referents.{Table}
use Rattle.jr_plain.specs.Types.{referred_type}

-- the row of the declaration
abbrev pub declared_row : Referent → Option ℕ
declared_row (Declared d level) = Some d
declared_row _ = None

-- what is found passes the test
abbrev pub found : {A : Type 0} → Option A → (A → Bool) → Bool
found one test = option_map_or test one false

-- both are found, and pass the test
abbrev pub both_found : {A B : Type 0} → Option A → Option B → (A → B → Bool) → Bool
both_found one other test = option_map_or (λ a. option_map_or (λ b. test a b) other false) one false

-- the row before passes the test
abbrev pub is_next : (ℕ → Bool) → ℕ → Bool
is_next test zero = false
is_next test (suc n) = test n

-- the two declare the same name
abbrev pub is_same_name : Rows → ℕ → ℕ → Bool
is_same_name p d e = bytes_eq (name p d) (name p e)

-- the type that the import names
abbrev pub imported_type : Rows → Table → ℕ → Option ℕ
imported_type p t i = referred_type p (t (i + 1))
