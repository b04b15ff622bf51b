-- What spellings are given to references.
use Rattle.std.specs.Prelude.{◌≡◌, ◌⊎◌, ℕ, ◌+◌, ◌-◌, ◌<◌, ◌^◌, Bool, false, List, [], map, reverse, length, Option, Some, None, slice_index_or, ⊤}
use Rattle.std.specs.List.{AllByRecursion, Contains}
use Rattle.jr_tree.specs.Rows.{Rows, name}
use Rattle.jr_defs.specs.Constants.{HasConstantForm}
use Rattle.jr_defs.specs.Declarations.{IsReference}
use Rattle.jr_defs.specs.declared.referent.Referent.{Referent}
use Rattle.jr_defs.specs.declared.referent.Referent.TheVariants.{Unbound, Ambiguous}
use Rattle.jr_defs.specs.Referents.{Table}
use Rattle.jr_defs.specs.Typing.{TypeOf}
use Rattle.jr_plain.specs.Overloads.{Types}
use Rattle.jr_plain.specs.Search.{Finds}
use Rattle.jr_lookup.specs.Behind.{RefersByNames}
use Rattle.jr_shapes.specs.declared.spelling.Shape.TheVariants as shape
use Rattle.jr_shapes.specs.declared.spelling.Spelling.{Spelling}
use Rattle.jr_shapes.specs.Names.{kept, named_by}
use Rattle.jr_shapes.specs.Parts.{parts, type_of}
use Rattle.jr_spelling_rules.specs.Candidates.{is_by_names, texts}
use Rattle.jr_spelling_rules.specs.Spelling.{Written, spelling}
use Rattle.jr_spell.specs.declared.fault.SpellFault.{SpellFault}
use Rattle.jr_spell.specs.declared.fault.SpellFault.TheVariants as fault

-- the same spelling, of the reference at the row
pub data IsWritten (n : ℕ) : Option Spelling → Option Written → Type 0 where
  none : IsWritten n None None
  some : {a : Spelling} {w : Written} → a.row ≡ n → a.shape ≡ w.shape → a.casts.items ≡ w.casts → a.found ≡ w.found → a.trace.items ≡ w.trace → IsWritten n (Some a) (Some w)

-- the reference at the row cannot be written, or there is no memory
abbrev pub IsFaultAt : ℕ → SpellFault → Type 0
IsFaultAt n (fault.NoSpelling row found) = row ≡ n
IsFaultAt n _ = ⊤

-- the first row behind the prelude, which has two units
abbrev pub first_written : List ℕ → ℕ
first_written starts = slice_index_or starts 2 (2 ^ 32 - 1)

-- ---- references that stay as they stand

-- a reference that must refer to one thing
pub record HasLock (p : Rows) (t : Table) (n : ℕ) : Type 0 where
  pub refers : IsReference p t n
  pub bound : t n ≡ Unbound → ⊥
  pub one : t n ≡ Ambiguous → ⊥

-- the list has a spelling of the reference
pub record HasSpelling (all : List Spelling) (n : ℕ) : Type 0 where
  pub spelling : Spelling
  pub there : Contains all spelling
  pub row_is : spelling.row ≡ n

-- where it refers so, its identifier is the name of that
abbrev pub IsNamedSo : Rows → ℕ → Referent → Type 0
IsNamedSo p n found = name p (named_by p n found) ≡ name p n

-- so are those of the packages and types before its dot (JLS 6.5), a package as a whole
abbrev pub ArePartsNamedSo : Rows → Table → ℕ → Referent → Type 0
ArePartsNamedSo p t n found = texts p (kept p t (type_of p found) (parts p t n)) ≡ texts p (parts p t n)

-- Written so the reference is as it stands: in its old shape, without casts, by the identifiers that it has; it and each package and type before its dot refer to their locks.
pub record IsAsItStands (p : Rows) (t : Table) (n : ℕ) (w : Written) : Type 0 where
  pub shape_is : w.shape ≡ shape.Kept
  pub uncast : w.casts ≡ []
  pub found_is : w.found ≡ t n
  pub trace_is : w.trace ≡ reverse (map t (parts p t n))
  pub named : IsNamedSo p n w.found
  pub parts_named : ArePartsNamedSo p t n w.found

abbrev pub written_of : Spelling → Written
written_of a = record { shape = a.shape; casts = a.casts.items; found = a.found; trace = a.trace.items }

-- ---- of which references it is told

-- the types of expressions are those of the rows
pub record HasTypes (p : Rows) (t : Table) (type_of : Types) : Type 0 where
  pub refers : RefersByNames p t
  pub few : length p + 3 < 2 ^ 32
  pub typed : (n : ℕ) → Finds (type_of n) (λ a. TypeOf p t (HasConstantForm p t) n a)

-- where it is not written by identifiers alone the types of expressions are known
pub record IsExactAt (p : Rows) (t : Table) (type_of : Types) (n : ℕ) : Type 0 where
  pub typed : is_by_names p t n ≡ false → HasTypes p t type_of

module _ (p : Rows) (t : Table) (type_of : Types) (was_constant : ℕ → Bool) (first : ℕ) (variable : ℕ → Bool) where
  -- its spelling is the first that fits
  abbrev pub IsSpelled : Spelling → Type 0
  IsSpelled a = IsExactAt p t type_of a.row → IsWritten a.row (Some a) (spelling p t type_of was_constant first a.row variable)

  abbrev pub AreSpelled : List Spelling → Type 0
  AreSpelled all = AllByRecursion (λ a. IsSpelled a) all

  -- where the fault says that it has no spelling, it has none
  abbrev pub HasNone : SpellFault → Type 0
  HasNone (fault.NoSpelling n found) = IsExactAt p t type_of n → spelling p t type_of was_constant first n variable ≡ None
  HasNone _ = ⊤

  -- the first spelling that fits is how it stands
  pub record Stays (n : ℕ) : Type 0 where
    pub written : Written
    pub spells : spelling p t type_of was_constant first n variable ≡ Some written
    pub stands : IsAsItStands p t n written

  -- a reference with a lock has a spelling in the list, or it stays as it stands
  abbrev pub IsTold : List Spelling → ℕ → Type 0
  IsTold all n = HasLock p t n → HasSpelling all n ⊎ (IsExactAt p t type_of n → Stays n)

  -- so does each
  abbrev pub AreTold : List Spelling → Type 0
  AreTold all = (n : ℕ) → IsTold all n
