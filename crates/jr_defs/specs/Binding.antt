-- The binding of a program, and cycles of headers.
use Rattle.std.specs.Prelude.{◌≡◌, ℕ, ◌+◌, ◌<◌}
use Rattle.jr_tree.specs.Rows.{Rows}
use Rattle.jr_defs.specs.declared.referent.Referent.TheVariants.{Unbound}
use Rattle.jr_defs.specs.Referents.{Table}
use Rattle.jr_defs.specs.Declarations.{IsType}
use Rattle.jr_defs.specs.Constants.{HasConstantForm}
use Rattle.jr_defs.specs.Lookup.{Look}
use Rattle.jr_defs.specs.Headers.{NamesHeader, IsIdentifierOf, IsLookedForIn, IsFirstOf, IsSettled, HeaderPath}

-- the entry of every row is what lookup gives under the table itself; a row that is no occurrence is not bound
abbrev pub IsBound : Rows → Table → Type 0
IsBound p t = (o : ℕ) → Look p t (HasConstantForm p t) o (t o)

-- each type is settled, so no header leads back to its own type; and the table agrees with itself
pub record IsBinding (p : Rows) (t : Table) : Type 0 where
  pub settled : (c : ℕ) → IsType p c → IsSettled p t t c
  pub bound : IsBound p t

-- an identifier in the header of the type, or in an import where the first identifier of one is looked for, with the headers of settled types alone
pub data IsOfHeader (p : Rows) (u : Table) (c o : ℕ) : Type 0 where
  own : {n : ℕ} → NamesHeader p c n → IsIdentifierOf p n o → IsOfHeader p u c o
  import : {n m i : ℕ} → NamesHeader p c n → IsFirstOf p n m → IsLookedForIn p u m i → IsIdentifierOf p (i + 1) o → IsOfHeader p u c o

-- the second table is the first without what headers of types that are not settled name as supertypes; which those are is read in both
pub record IsSettledPart (p : Rows) (t u : Table) : Type 0 where
  pub kept : (o : ℕ) → ((c : ℕ) → NamesHeader p c o → IsSettled p t u c) → u o ≡ t o
  pub left_out : (c o : ℕ) → NamesHeader p c o → (IsSettled p t u c → ⊥) → u o ≡ Unbound

-- the table has what lookup gives at the headers of all types, with the headers of settled types alone, and nothing else
pub record OfHeaders (p : Rows) (t : Table) : Type 0 where
  pub settled_part : Table
  pub part : IsSettledPart p t settled_part
  pub looked : (c o : ℕ) → IsType p c → IsOfHeader p settled_part c o → Look p settled_part (HasConstantForm p settled_part) o (t o)
  pub others : (o : ℕ) → (t o ≡ Unbound → ⊥) → (c : ℕ) × IsType p c × IsOfHeader p settled_part c o

-- some type is not settled, so the header graph has a cycle
pub record HasCycle (p : Rows) : Type 0 where
  pub table : Table
  pub of_headers : OfHeaders p table
  pub on : ℕ
  pub type : IsType p on
  pub unsettled : IsSettled p table of_headers.settled_part on → ⊥

-- the first type, in the order of the program, that lies on a cycle
pub record IsFirstOnCycle (p : Rows) (c : ℕ) : Type 0 where
  pub table : Table
  pub of_headers : OfHeaders p table
  pub type : IsType p c
  pub cycle : HeaderPath p table of_headers.settled_part c c
  pub first : (e : ℕ) → IsType p e → HeaderPath p table of_headers.settled_part e e → e < c → ⊥
