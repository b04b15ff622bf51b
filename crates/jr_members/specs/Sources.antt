-- Rows whose places, supertypes and signatures are right under a table, and what is right of the lists of members (JLS 8.2).
use Rattle.std.specs.Prelude.{◌≡◌, ℕ, true, List, Option, ⊤}
use Rattle.jr_tree.specs.Rows.{Rows, role_at}
use Rattle.jr_tree.specs.Local.{IsLocal}
use Rattle.jr_defs.specs.Referents.{Table}
use Rattle.jr_plain.specs.Search.{has}
use Rattle.jr_places.specs.declared.chains.Entry.{Entry}
use Rattle.jr_places.specs.declared.places.Places.{Places}
use Rattle.jr_places.specs.Places.{ArePlaces}
use Rattle.jr_places.specs.Packages.{PackagesAreNamed}
use Rattle.jr_supers.specs.declared.above.Link.{Link}
use Rattle.jr_supers.specs.declared.signatures.Signatures.{Signatures}
use Rattle.jr_supers.specs.declared.subtypes.Supers.{Supers}
use Rattle.jr_supers.specs.Above.{OnChain}
use Rattle.jr_supers.specs.Signatures.{AreSignatures}
use Rattle.jr_supers.specs.Supers.{AreSupersOf}
use Rattle.jr_members.specs.declared.declared.MemberKind.{MemberKind}
use Rattle.jr_members.specs.declared.declared.MemberKind.TheVariants as kind
use Rattle.jr_members.specs.declared.named.Named.{Named}
use Rattle.jr_members.specs.declared.named.Sources.{Sources}
use Rattle.jr_members.specs.Keys.{AreDeclared}
use Rattle.jr_members.specs.Held.{role_of_kind}
use Rattle.jr_members.specs.Named.{AreLists, IsDone}
use Rattle.jr_members.specs.Nearest.{AreNear}

-- rows of a program with their places
pub record ArePlaced (p : Rows) (places : Places) : Type 0 where
  pub local : IsLocal p
  pub packages : PackagesAreNamed p
  pub are : ArePlaces p places

pub record AreSeen (p : Rows) (t : Table) (places : Places) (supers : Supers) : Type 0 where
  pub placed : ArePlaced p places
  pub above : AreSupersOf p t supers

-- the signatures are those of methods; fields and types need none
abbrev pub AreSignaturesFor : MemberKind → Rows → Table → Signatures → Type 0
AreSignaturesFor kind.Method p t signatures = AreSignatures p t signatures
AreSignaturesFor _ p t signatures = ⊤

-- the rows of the sources
abbrev pub rows_of : Sources → Rows
rows_of sources = sources.under.rows.now

-- what the tables are made from is right
pub record AreSources (t : Table) (kind : MemberKind) (sources : Sources) : Type 0 where
  pub seen : AreSeen (rows_of sources) t sources.under.places.now sources.supers.now
  pub signed : AreSignaturesFor kind (rows_of sources) t sources.signatures.now

-- the links of the types to their first supertypes
abbrev pub links_of : Supers → List (Option Link)
links_of supers = supers.above.links.items

-- each row is of the kind
pub record AreOfKind (p : Rows) (kind : MemberKind) (all : List ℕ) : Type 0 where
  pub each : (d : ℕ) → has all d ≡ true → role_at p d ≡ role_of_kind kind

-- the lists are right, and those of c and of the types above it by first supertypes are there
pub record CanClimb (p : Rows) (t : Table) (supers : Supers) (kind : MemberKind) (lists : List Entry) (c : ℕ) : Type 0 where
  pub all : AreLists p t kind lists
  pub done : (y : ℕ) → OnChain (links_of supers) c y → IsDone p t (links_of supers) kind lists y

-- the members of a kind of all types
pub record AreNamed (p : Rows) (t : Table) (supers : Supers) (kind : MemberKind) (named : Named) : Type 0 where
  pub declared_is : AreDeclared p kind named.declared
  pub all : AreLists p t kind named.lists
  pub near : AreNear p t kind named.lists named.nearest
  pub done : (y : ℕ) → IsDone p t (links_of supers) kind named.lists y
