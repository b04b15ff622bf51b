-- Types that rank above all for which they wait, so that each is settled (JLS 8.1.4, 8.1.5, 9.1.3).
use Rattle.std.specs.Prelude.{◌≡◌, ℕ, ◌+◌, ◌<◌, Bool, true, false, nat_lt, List, length, Option, Some, None, slice_index_or}
use Rattle.jr_tree.specs.declared.label.ImportKind.TheVariants as importing
use Rattle.jr_tree.specs.Rows.{Rows}
use Rattle.jr_defs.specs.declared.referent.Referent.TheVariants.{Declared}
use Rattle.jr_defs.specs.Referents.{Table}
use Rattle.jr_defs.specs.Declarations.{IsType}
use Rattle.jr_defs.specs.Enclosing.{DeclaredIn}
use Rattle.jr_defs.specs.Headers.{NamesHeader, IsIdentifierOf, IsFirstOf, IsLookedForIn, IsSettled}
use Rattle.jr_plain.specs.Imports.{is_import_of}
use Rattle.jr_plain.specs.Search.{has}
use Rattle.jr_lookup.specs.Scopes.{is_single_of, is_static_of}

abbrev pub rank_in : List ℕ → ℕ → ℕ
rank_in ranks c = slice_index_or ranks c 0

-- a type ranks below the bound, if there is one
abbrev pub is_below : List ℕ → ℕ → Option ℕ → Bool
is_below ranks bound None = true
is_below ranks bound (Some s) = nat_lt (rank_in ranks s) bound

-- the types to which the identifiers of the name at n refer rank below the bound
abbrev pub AreBelow : Rows → Table → List ℕ → ℕ → ℕ → Type 0
AreBelow p t ranks bound n = (k s : ℕ) (level : Option ℕ) → IsIdentifierOf p n k → t k ≡ Declared s level → IsType p s → rank_in ranks s < bound

-- the imports where the identifier m is looked for are among these
abbrev pub HasAllLookedFor : Rows → Table → ℕ → List ℕ → Type 0
HasAllLookedFor p t m all = (i : ℕ) → IsLookedForIn p t m i → has all i ≡ true

-- all types that the name at n meets rank below the bound
pub record MeetsBelow (p : Rows) (t : Table) (ranks : List ℕ) (bound n : ℕ) : Type 0 where
  pub own : AreBelow p t ranks bound n
  pub imports : (m i : ℕ) → IsFirstOf p n m → IsLookedForIn p t m i → AreBelow p t ranks bound (i + 1)

-- a type ranks above the type round it
abbrev pub IsAboveOuter : Rows → List ℕ → ℕ → Type 0
IsAboveOuter p ranks n = (e : ℕ) → IsType p n → DeclaredIn p e n → rank_in ranks e < rank_in ranks n

-- and above all types that a name in its header meets
abbrev pub IsHeaderBelow : Rows → Table → List ℕ → ℕ → Type 0
IsHeaderBelow p t ranks n = (c : ℕ) → NamesHeader p c n → MeetsBelow p t ranks (rank_in ranks c) n

pub record IsRankedAt (p : Rows) (t : Table) (ranks : List ℕ) (n : ℕ) : Type 0 where
  pub inner : IsAboveOuter p ranks n
  pub header : IsHeaderBelow p t ranks n

abbrev pub AllSettled : Rows → Table → Type 0
AllSettled p t = (c : ℕ) → IsType p c → IsSettled p t t c

-- the imports of the unit that bring the name with this number alone are among these, unless they are hidden
pub record HasNamedImports (p : Rows) (unit name : ℕ) (is_hidden : Bool) (all : List ℕ) : Type 0 where
  pub single : is_hidden ≡ false → (i : ℕ) → i < length p → is_single_of p unit name i ≡ true → has all i ≡ true
  pub static : is_hidden ≡ false → (i : ℕ) → i < length p → is_static_of p unit name i ≡ true → has all i ≡ true

-- and those on demand, unless the name is found before them
pub record HasImports (p : Rows) (unit name : ℕ) (is_hidden is_named : Bool) (all : List ℕ) : Type 0 where
  pub named : HasNamedImports p unit name is_hidden all
  pub demanded : is_named ≡ false → (i : ℕ) → i < length p → is_import_of p unit importing.OnDemand i ≡ true → has all i ≡ true
