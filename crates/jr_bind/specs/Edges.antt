-- The header graph between types that are not settled, as lookup under a table as a whole confirms it (JLS 8.1.4, 8.1.5, 9.1.3).
use Rattle.std.specs.Prelude.{◌≡◌, ◌⊎◌, ℕ, ◌+◌, ◌<◌, ◌≤◌, ◌^◌, Bool, true, false, List, [], length, Option, Some, None, slice_index_or}
use Rattle.jr_tree.specs.declared.label.Label.TheVariants as is
use Rattle.jr_tree.specs.declared.label.ImportKind.{ImportKind}
use Rattle.jr_tree.specs.declared.label.ImportKind.TheVariants as importing
use Rattle.jr_tree.specs.declared.label.Sought.{Sought}
use Rattle.jr_tree.specs.declared.label.Sought.TheVariants as sought
use Rattle.jr_tree.specs.Rows.{Rows, label, name, end}
use Rattle.jr_defs.specs.declared.referent.Space.TheVariants as space
use Rattle.jr_defs.specs.declared.referent.Referent.TheVariants.{Unbound, Declared}
use Rattle.jr_defs.specs.Referents.{Table, entries}
use Rattle.jr_defs.specs.Declarations.{Declares, IsType}
use Rattle.jr_defs.specs.Enclosing.{DeclaredIn}
use Rattle.jr_defs.specs.Imports.{ImportNames}
use Rattle.jr_defs.specs.Headers.{NamesHeader, IsIdentifierOf, IsFirstOf, IsLookedForIn, ComesBefore, HeaderEdge}
use Rattle.jr_defs.specs.Formed.{IsFormed}
use Rattle.jr_plain.specs.Imports.{is_import_of}
use Rattle.jr_plain.specs.Types.{referred_type}
use Rattle.jr_places.specs.declared.chains.Entry.{Entry}
use Rattle.jr_places.specs.Chains.{entry_at}
use Rattle.jr_headers.specs.Rounds.{look_type, name_or_same}
use Rattle.jr_members.specs.Keys.{falling}
use Rattle.jr_lookup.specs.declared.simple.Sight.{Sight}
use Rattle.jr_lookup.specs.Locals.{AreLocalsPlaced}
use Rattle.jr_lookup.specs.Scopes.{is_single_of, is_static_of}
use Rattle.jr_lookup.specs.Sights.{IsSight}
use Rattle.jr_bind.specs.Rounds.{IsEdgeIn}

-- formed rows with all that lookup reads under their own table
pub record IsWhole (sight : Sight) : Type 0 where
  pub sight_is : IsSight (entries sight.world.under.table.now) sight
  pub placed : AreLocalsPlaced sight.world.under.rows.now
  pub formed : IsFormed sight.world.under.rows.now
  pub few : length sight.world.under.rows.now + 3 < 2 ^ 32

-- an import of the unit that brings the name alone, or one on demand, where the name is not found before those
abbrev pub IsImportIn : Rows → ℕ → ℕ → Bool → ℕ → Type 0
IsImportIn p unit x is_named i = (is_single_of p unit x i ≡ true) ⊎ ((is_static_of p unit x i ≡ true) ⊎ ((is_named ≡ false) × (is_import_of p unit importing.OnDemand i ≡ true)))

-- the imports on demand of the unit, from the last back, unless the name is found before them
abbrev pub demanded_unless : Rows → ℕ → Bool → List ℕ
demanded_unless p unit true = []
demanded_unless p unit false = falling (length p) (is_import_of p unit importing.OnDemand)

-- lookup gives the type s at the row k
abbrev pub FindsType : Rows → Table → ℕ → ℕ → Type 0
FindsType p u k s = referred_type p (look_type p u k) ≡ Some s

-- the type s was settled, and before c if c was
abbrev pub IsBefore : (ℕ → ℕ) → ℕ → ℕ → Type 0
IsBefore rank c s = (0 < rank s) × ((rank c ≡ 0) ⊎ (rank s < rank c))

-- k is an identifier of the name at n, or of an import where the first identifier of that is looked for
abbrev pub IsPlace : Rows → Table → ℕ → ℕ → Type 0
IsPlace p u n k = IsIdentifierOf p n k ⊎ ((m i : ℕ) × IsFirstOf p n m × IsLookedForIn p u m i × IsIdentifierOf p (i + 1) k)

-- an identifier that stands behind no dot
abbrev pub IsSimple : Sought → Type 0
IsSimple (sought.Simple kind) = Unit {0}
IsSimple _ = ⊥

-- ---- rows that are looked at

-- the type at one row, unless it was settled before
pub record IsOpenAt (p : Rows) (u : Table) (rank : ℕ → ℕ) (c k : ℕ) (open_type : Option ℕ) : Type 0 where
  pub none : open_type ≡ None → (s : ℕ) → FindsType p u k s → IsBefore rank c s
  pub some : (s : ℕ) → open_type ≡ Some s → FindsType p u k s × (IsBefore rank c s → ⊥)

-- rows from the one on, up to the last, that end as that does: what the table has but for the row `own` is what lookup gives, and of types that are met at the last rows first this is the
-- first that was not settled before
pub record IsScan (p : Rows) (u : Table) (rank : ℕ → ℕ) (c own from till : ℕ) (first : Option ℕ) : Type 0 where
  pub whole : (k : ℕ) → from ≤ k → k < till → end p k ≡ till
  pub same : (k : ℕ) → from ≤ k → k < till → (k ≡ own → ⊥) → u k ≡ look_type p u k
  pub none : first ≡ None → (k s : ℕ) → from ≤ k → k < till → FindsType p u k s → IsBefore rank c s
  pub some : (s : ℕ) → first ≡ Some s → (k : ℕ) × (from ≤ k) × (k < till) × FindsType p u k s × (IsBefore rank c s → ⊥)
      × ((j r : ℕ) → k < j → j < till → FindsType p u j r → IsBefore rank c r)

abbrev pub item : List ℕ → ℕ → ℕ
item all a = slice_index_or all a 0

-- so many of some imports that stand one behind another, up to the row `behind`
pub record ArePassed (p : Rows) (u : Table) (rank : ℕ → ℕ) (c : ℕ) (imports : List ℕ) (n behind : ℕ) (first : Option ℕ) : Type 0 where
  pub whole : (a k : ℕ) → a < n → IsIdentifierOf p (item imports a + 1) k → end p k ≡ end p (item imports a + 1)
  pub same : (a k : ℕ) → a < n → IsIdentifierOf p (item imports a + 1) k → u k ≡ look_type p u k
  pub apart : (a b : ℕ) → a < b → b < n → end p (item imports a + 1) ≤ item imports b
  pub past : (a : ℕ) → a < n → end p (item imports a + 1) ≤ behind
  pub none : first ≡ None → (a k s : ℕ) → a < n → IsIdentifierOf p (item imports a + 1) k → FindsType p u k s → IsBefore rank c s
  pub some : (s : ℕ) → first ≡ Some s → (a k : ℕ) × (a < n) × IsIdentifierOf p (item imports a + 1) k × FindsType p u k s × (IsBefore rank c s → ⊥)
      × ((j r : ℕ) → k < j → IsIdentifierOf p (item imports a + 1) j → FindsType p u j r → IsBefore rank c r)
      × ((b j r : ℕ) → b < a → IsIdentifierOf p (item imports b + 1) j → FindsType p u j r → IsBefore rank c r)

-- ---- one name of a header

-- at its places but the name itself the table has what lookup gives; places stand in an order, and in that this is the first type that was not settled before
pub record IsLookedAt (p : Rows) (u : Table) (rank : ℕ → ℕ) (c n : ℕ) (first : Option ℕ) : Type 0 where
  pub inner : (k : ℕ) → IsIdentifierOf p n k → n < k → u k ≡ look_type p u k
  pub imports : (m i k : ℕ) → IsFirstOf p n m → IsLookedForIn p u m i → IsIdentifierOf p (i + 1) k → u k ≡ look_type p u k
  pub order : (j k : ℕ) → IsPlace p u n j → IsPlace p u n k → (j ≡ k) ⊎ (ComesBefore p n j n k ⊎ ComesBefore p n k n j)
  pub none : first ≡ None → (k s : ℕ) → IsPlace p u n k → FindsType p u k s → IsBefore rank c s
  pub some : (s : ℕ) → first ≡ Some s → (k : ℕ) × IsPlace p u n k × FindsType p u k s × (IsBefore rank c s → ⊥)
      × ((j r : ℕ) → IsPlace p u n j → ComesBefore p n j n k → FindsType p u j r → IsBefore rank c r)

-- where the type is settled all are settled before; else the first that is not is on an edge, if the type round it is settled. What the table has for the name is what lookup gives, or nothing
pub record IsNameConfirmed (p : Rows) (u : Table) (rank : ℕ → ℕ) (edges : List Entry) (c n : ℕ) : Type 0 where
  pub first : Option ℕ
  pub looked : IsLookedAt p u rank c n first
  pub kept : 0 < rank c → (u n ≡ look_type p u n) × (first ≡ None)
  pub left : rank c ≡ 0 → (u n ≡ Unbound) × ((s : ℕ) → first ≡ Some s → ((e : ℕ) → DeclaredIn p e c → 0 < rank e) → IsEdgeIn edges c s)

-- the type round a type was settled before; where the type is not settled, nor the one round it, that is on an edge
pub record IsOuterConfirmed (p : Rows) (rank : ℕ → ℕ) (edges : List Entry) (c : ℕ) : Type 0 where
  pub kept : (e : ℕ) → DeclaredIn p e c → 0 < rank c → IsBefore rank c e
  pub left : (e : ℕ) → DeclaredIn p e c → rank c ≡ 0 → rank e ≡ 0 → IsEdgeIn edges c e

-- what the row n refers to, if it is a type, has the name of the row
abbrev pub HasOwnName : Rows → Table → ℕ → Type 0
HasOwnName p u n = (d : ℕ) (level : Option ℕ) → u n ≡ Declared d level → IsType p d → Declares p space.Type (name p n) d

-- what an import names has its name
abbrev pub IsImportConfirmed : Rows → Table → ℕ → Type 0
IsImportConfirmed p u i = (d : ℕ) (form : ImportKind) → label p i ≡ is.Import form → ImportNames p u i d → Declares p space.Type (name p (i + 1)) d

-- one row
pub record IsRowConfirmed (p : Rows) (u : Table) (rank : ℕ → ℕ) (edges : List Entry) (at : ℕ) : Type 0 where
  pub outer : IsType p at → IsOuterConfirmed p rank edges at
  pub header : (c : ℕ) → NamesHeader p c at → IsNameConfirmed p u rank edges c at
  pub import : IsImportConfirmed p u at

-- an edge from a type that is not settled: to the type round it, which is not settled, or to the first type of a name that is not
pub data IsOpenEdge (p : Rows) (u : Table) (rank : ℕ → ℕ) (c : ℕ) : ℕ → Type 0 where
  outwards : {s : ℕ} → rank s ≡ 0 → DeclaredIn p s c → IsOpenEdge p u rank c s
  header : {n s : ℕ} → rank s ≡ 0 → ((e : ℕ) → DeclaredIn p e c → 0 < rank e) → NamesHeader p c n → (first : Option ℕ) → IsLookedAt p u rank c n first → first ≡ Some s → IsOpenEdge p u rank c s

-- edges are right, and as those types rise that they lead from
pub record AreOpenEdges (p : Rows) (u : Table) (rank : ℕ → ℕ) (edges : List Entry) : Type 0 where
  pub sound : (c s : ℕ) → IsEdgeIn edges c s → IsType p c × (rank c ≡ 0) × IsOpenEdge p u rank c s
  pub rise : (j k : ℕ) → j ≤ k → k < length edges → (entry_at edges j).first ≤ (entry_at edges k).first

-- all rows, where each type that is not settled has an edge
pub record AreConfirmed (p : Rows) (u : Table) (rank : ℕ → ℕ) (edges : List Entry) : Type 0 where
  pub each : (at : ℕ) → at < length p → IsRowConfirmed p u rank edges at
  pub are : AreOpenEdges p u rank edges
  pub stuck : (c : ℕ) → IsType p c → rank c ≡ 0 → (s : ℕ) × IsEdgeIn edges c s

-- these are the edges of the header graph between types without a rank, as those types rise that they lead from
pub record AreHeaderEdges (p : Rows) (u : Table) (rank : ℕ → ℕ) (edges : List Entry) : Type 0 where
  pub sound : (c s : ℕ) → IsEdgeIn edges c s → IsType p c × HeaderEdge p (name_or_same p u) u c s
  pub whole : (c s : ℕ) → IsType p c → rank c ≡ 0 → rank s ≡ 0 → HeaderEdge p (name_or_same p u) u c s → IsEdgeIn edges c s
  pub rise : (j k : ℕ) → j ≤ k → k < length edges → (entry_at edges j).first ≤ (entry_at edges k).first

-- ---- edges that are found row by row

abbrev pub AreRising : List Entry → Type 0
AreRising edges = (j k : ℕ) → j ≤ k → k < length edges → (entry_at edges j).first ≤ (entry_at edges k).first

-- an edge from c to the type is added, if there is one
pub record AddsEdge (c : ℕ) (over : Option ℕ) (old new : List Entry) : Type 0 where
  pub kept : (a b : ℕ) → IsEdgeIn old a b → IsEdgeIn new a b
  pub from : (a b : ℕ) → IsEdgeIn new a b → IsEdgeIn old a b ⊎ ((c ≡ a) × (over ≡ Some b))
  pub told : (s : ℕ) → over ≡ Some s → IsEdgeIn new c s
  pub rise : AreRising old → AreRising new

-- what is asked of a name in the header of a type that is not settled
pub record IsOpenName (p : Rows) (u : Table) (rank : ℕ → ℕ) (c n : ℕ) (first edge : Option ℕ) : Type 0 where
  pub left : u n ≡ Unbound
  pub told : (s : ℕ) → first ≡ Some s → ((e : ℕ) → DeclaredIn p e c → 0 < rank e) → edge ≡ Some s
  pub from : (s : ℕ) → edge ≡ Some s → (first ≡ Some s) × ((e : ℕ) → DeclaredIn p e c → 0 < rank e)

-- one name of a header, and the type to which its edge leads, if it has one
pub record IsNameEdge (p : Rows) (u : Table) (rank : ℕ → ℕ) (c n : ℕ) (edge : Option ℕ) : Type 0 where
  pub first : Option ℕ
  pub looked : IsLookedAt p u rank c n first
  pub kept : 0 < rank c → (u n ≡ look_type p u n) × (first ≡ None)
  pub left : rank c ≡ 0 → (u n ≡ Unbound) × ((s : ℕ) → first ≡ Some s → ((e : ℕ) → DeclaredIn p e c → 0 < rank e) → edge ≡ Some s)
  pub told : (s : ℕ) → edge ≡ Some s → (rank c ≡ 0) × (first ≡ Some s) × ((e : ℕ) → DeclaredIn p e c → 0 < rank e)

-- rows of this kind are looked at: edges are kept, and new ones are right
pub record GoesOver (p : Rows) (u : Table) (rank : ℕ → ℕ) (old new : List Entry) : Type 0 where
  pub kept : (a b : ℕ) → IsEdgeIn old a b → IsEdgeIn new a b
  pub from : (a b : ℕ) → IsEdgeIn new a b → IsEdgeIn old a b ⊎ (IsType p a × (rank a ≡ 0) × IsOpenEdge p u rank a b)
  pub rise : AreRising old → AreRising new

-- the rows before one
pub record AreConfirmedTo (p : Rows) (u : Table) (rank : ℕ → ℕ) (edges : List Entry) (bound : ℕ) : Type 0 where
  pub each : (at : ℕ) → at < bound → IsRowConfirmed p u rank edges at
  pub sound : (c s : ℕ) → IsEdgeIn edges c s → IsType p c × (rank c ≡ 0) × IsOpenEdge p u rank c s
  pub rise : AreRising edges

-- each type of the rows before one that is not settled has an edge
abbrev pub AreLedOn : Rows → (ℕ → ℕ) → List Entry → ℕ → Type 0
AreLedOn p rank edges bound = (c : ℕ) → c < bound → IsType p c → rank c ≡ 0 → (s : ℕ) × IsEdgeIn edges c s
