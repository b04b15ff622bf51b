-- Which types are settled, and the graph of headers (JLS 8.1.4, 8.1.5, 9.1.3). Where two tables stand, names refer to what they do in the first; what shadows an import
-- is read in the second, which has the headers of settled types alone.
use Rattle.std.specs.Prelude.{◌≡◌, ◌⊎◌, ℕ, ◌+◌, ◌<◌, ◌≤◌, Option}
use Rattle.jr_base.specs.declared.text.Text.{Text}
use Rattle.jr_tree.specs.declared.label.ImportKind.{ImportKind}
use Rattle.jr_tree.specs.declared.label.ImportKind.TheVariants as importing
use Rattle.jr_tree.specs.declared.label.NameKind.{NameKind}
use Rattle.jr_tree.specs.declared.label.Sought.TheVariants as sought
use Rattle.jr_tree.specs.Rows.{Rows, name, parent, end, sought_at}
use Rattle.jr_defs.specs.declared.referent.Space.TheVariants as space
use Rattle.jr_defs.specs.declared.referent.Referent.TheVariants.{Declared}
use Rattle.jr_defs.specs.Referents.{Table}
use Rattle.jr_defs.specs.Declarations.{IsType}
use Rattle.jr_defs.specs.Enclosing.{DeclaredIn}
use Rattle.jr_defs.specs.Packages.{InUnit}
use Rattle.jr_defs.specs.Supertypes.{NamesSuperclass, NamesSuperinterface}
use Rattle.jr_defs.specs.Imports.{ImportOf}
use Rattle.jr_defs.specs.Scope.{Depth, InScope, rank, imported, on_demand}

-- the row n is the last identifier of a name in the header of c
abbrev pub NamesHeader : Rows → ℕ → ℕ → Type 0
NamesHeader p c n = NamesSuperclass p c n ⊎ NamesSuperinterface p c n

-- the row m is an identifier of that name: n itself or a qualifier
pub record IsIdentifierOf (p : Rows) (n m : ℕ) : Type 0 where
  pub from : n ≤ m
  pub before : m < end p n

-- the first identifier of the name stands last
pub record IsFirstOf (p : Rows) (n m : ℕ) : Type 0 where
  pub last : end p n ≡ m + 1
  pub kind : NameKind
  pub simple : sought_at p m ≡ sought.Simple kind

-- how far in an import brings what it brings
abbrev pub depth_of : ImportKind → Depth
depth_of importing.OnDemand = on_demand
depth_of _ = imported

-- an import on demand may bring any name, another only its last identifier
pub data MayBring (p : Rows) (i : ℕ) (x : Text) : ImportKind → Type 0 where
  on_demand_import : MayBring p i x importing.OnDemand
  single : name p (i + 1) ≡ x → MayBring p i x importing.Single
  static : name p i ≡ x → MayBring p i x importing.StaticSingle

-- the identifier m is looked for in the import i of its unit: that may bring its name, and nothing that shadows what it brings is found
pub record IsLookedForIn (p : Rows) (t : Table) (m i : ℕ) : Type 0 where
  pub unit : ℕ
  pub around : InUnit p unit m
  pub form : ImportKind
  pub import : ImportOf p unit form i
  pub may : MayBring p i (name p m) form
  pub unshadowed : (d : ℕ) (r : Depth) → InScope p t space.Type (name p m) m d r → rank r ≤ rank (depth_of form)

-- the name at n meets the type s: one of its identifiers refers to it, or its first is looked for in an import, and one of the import's does
pub data NameMeets (p : Rows) (t u : Table) (n : ℕ) : ℕ → Type 0 where
  own : {m s : ℕ} {level : Option ℕ} → IsIdentifierOf p n m → t m ≡ Declared s level → IsType p s → NameMeets p t u n s
  import : {m i k s : ℕ} {level : Option ℕ} → IsFirstOf p n m → IsLookedForIn p u m i → IsIdentifierOf p (i + 1) k → t k ≡ Declared s level → IsType p s → NameMeets p t u n s

-- a name in the header of c meets the type s
pub record Meets (p : Rows) (t u : Table) (c s : ℕ) : Type 0 where
  pub row : ℕ
  pub header : NamesHeader p c row
  pub meets : NameMeets p t u row s

-- the least set to which a type belongs where its enclosing type does, and all that its header meets
pub data IsSettled (p : Rows) (t u : Table) : ℕ → Type 0 where
  settled : {c : ℕ} → ((e : ℕ) → DeclaredIn p e c → IsSettled p t u e) → ((s : ℕ) → Meets p t u c s → IsSettled p t u s) → IsSettled p t u c

-- ---- the graph

-- the name n in the header of c meets the type s at the place k
pub record MeetsAt (p : Rows) (t u : Table) (c n k s : ℕ) : Type 0 where
  pub header : NamesHeader p c n
  pub level : Option ℕ
  pub refers : t k ≡ Declared s level
  pub type : IsType p s
  pub place : IsIdentifierOf p n k ⊎ ((m i : ℕ) × IsFirstOf p n m × IsLookedForIn p u m i × IsIdentifierOf p (i + 1) k)

-- in the order in which one name of a header meets types, at the place k before the place j: first what imports name, in their order, then its own,
-- qualifiers first; imports stand before the types of their unit
pub data ComesBefore (p : Rows) : ℕ → ℕ → ℕ → ℕ → Type 0 where
  by_import : {n k j : ℕ} → end p k ≤ j → ComesBefore p n k n j
  within : {n k j : ℕ} → j < k → k < end p j → ComesBefore p n k n j

-- the header graph: c is joined to its enclosing type; where that is settled, or there is none, also to each type that a name of its header meets
-- up to and including the first of that name that is not settled
pub data HeaderEdge (p : Rows) (t u : Table) (c : ℕ) : ℕ → Type 0 where
  outwards : {e : ℕ} → DeclaredIn p e c → HeaderEdge p t u c e
  header : {n k s : ℕ} → ((e : ℕ) → DeclaredIn p e c → IsSettled p t u e) → MeetsAt p t u c n k s
      → ((m j r : ℕ) → MeetsAt p t u c m j r → ComesBefore p m j n k → IsSettled p t u r) → HeaderEdge p t u c s

pub data HeaderPath (p : Rows) (t u : Table) : ℕ → ℕ → Type 0 where
  edge : {c s : ℕ} → HeaderEdge p t u c s → HeaderPath p t u c s
  edges : {c r s : ℕ} → HeaderEdge p t u c r → HeaderPath p t u r s → HeaderPath p t u c s
