-- What occurrences refer to, and the answer of a set of declarations (JLS 6.5).
use Rattle.std.specs.Prelude.{◌≡◌, ℕ, List, Option, slice_index_or}
use Rattle.jr_defs.specs.declared.referent.Referent.{Referent}
use Rattle.jr_defs.specs.declared.referent.Referent.TheVariants.{Unbound, Ambiguous, Declared}

-- what each row refers to
abbrev pub Table : Type 0
Table = ℕ → Referent

-- a table that is kept as a list
abbrev pub entries : List Referent → Table
entries all n = slice_index_or all n Unbound

-- declarations, each with the level through which it is found
abbrev pub Candidates : Type 1
Candidates = ℕ → Option ℕ → Type 0

-- one candidate is the answer, several are ambiguous, and with none the answer is one of Otherwise
pub data IsAnswer (C : ℕ → Option ℕ → Type 0) (Otherwise : Referent → Type 0) : Referent → Type 0 where
  one : (d : ℕ) (level : Option ℕ) → C d level → ((e : ℕ) (other : Option ℕ) → C e other → (e ≡ d) × (other ≡ level)) → IsAnswer C Otherwise (Declared d level)
  none : {a : Referent} → ((d : ℕ) (level : Option ℕ) → C d level → ⊥) → Otherwise a → IsAnswer C Otherwise a
  several : (d e : ℕ) (level other : Option ℕ) → C d level → C e other → ((d ≡ e) × (level ≡ other) → ⊥) → IsAnswer C Otherwise Ambiguous
