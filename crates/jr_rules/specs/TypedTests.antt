-- Children with types, and what rows refer to, computed.
use Rattle.std.specs.Prelude.{ℕ, Bool, false, if◌then◌else◌, Option, Some, None, nat_eq}
use Rattle.std.specs.Option.{option_map_or}
use Rattle.jr_tree.specs.Rows.{Rows, parent}
use Rattle.jr_defs.specs.declared.referent.RowType.{RowType}
use Rattle.jr_defs.specs.declared.referent.Referent.{Referent}
use Rattle.jr_defs.specs.declared.referent.Referent.TheVariants.{Declared}
use Rattle.jr_defs.specs.Referents.{Table}
use Rattle.jr_plain.specs.Types.{type_at}
use Rattle.jr_plain.specs.Conversions.{is_integral, is_plain}

-- the type that is written at m, where m is a child of n
abbrev pub type_below : Rows → Table → ℕ → ℕ → Option RowType
type_below p t n m = if nat_eq (parent p m) n then type_at p t m else None

-- a type that promotes to int: byte, short, char or int (JLS 5.6.1)
abbrev pub is_int_like : RowType → Bool
is_int_like a = is_plain is_integral a

-- the row of the declaration
abbrev pub declared_row : Referent → Option ℕ
declared_row (Declared d level) = Some d
declared_row _ = None

-- what is found passes the test
abbrev pub found : {A : Type 0} → Option A → (A → Bool) → Bool
found one test = option_map_or test one false

-- both are found, and pass the test
abbrev pub both_found : {A B : Type 0} → Option A → Option B → (A → B → Bool) → Bool
both_found one other test = option_map_or (λ a. option_map_or (λ b. test a b) other false) one false
