-- Tables that are right at headers by what lookup gives under the table itself (JLS 8.1.4, 8.1.5, 9.1.3), however they were found.
use Rattle.std.specs.Prelude.{◌≡◌, ◌⊎◌, ℕ, ◌+◌, ◌<◌}
use Rattle.jr_tree.specs.declared.label.ImportKind.{ImportKind}
use Rattle.jr_tree.specs.declared.label.Label.TheVariants as is
use Rattle.jr_tree.specs.Rows.{Rows, label, name}
use Rattle.jr_defs.specs.declared.referent.Referent.TheVariants.{Unbound}
use Rattle.jr_defs.specs.declared.referent.Space.TheVariants as space
use Rattle.jr_defs.specs.Referents.{Table}
use Rattle.jr_defs.specs.Declarations.{Declares, IsType}
use Rattle.jr_defs.specs.Enclosing.{DeclaredIn}
use Rattle.jr_defs.specs.Imports.{ImportNames}
use Rattle.jr_defs.specs.Headers.{NamesHeader, IsIdentifierOf, IsFirstOf, IsLookedForIn, Meets}
use Rattle.jr_headers.specs.Rounds.{look_type, name_or_same}

-- the type s is round c, or the header of c meets it, with the names in headers looked up under the table
abbrev pub WaitsFor : Rows → Table → ℕ → ℕ → Type 0
WaitsFor p u c s = DeclaredIn p s c ⊎ Meets p (name_or_same p u) u c s

-- types with a rank are settled under the table, and no others. It has what lookup gives under it at qualifiers in headers, at imports where a first identifier is looked for,
-- and at names in headers of settled types, and nothing at those of others; what other imports name has their names. A settled type waits for types of lower rank alone, each
-- other for one that is not settled
pub record IsConfirmed (p : Rows) (u : Table) (rank : ℕ → ℕ) : Type 0 where
  pub inner : (c n m : ℕ) → NamesHeader p c n → IsIdentifierOf p n m → n < m → u m ≡ look_type p u m
  pub imports : (c n m i k : ℕ) → NamesHeader p c n → IsFirstOf p n m → IsLookedForIn p u m i → IsIdentifierOf p (i + 1) k → u k ≡ look_type p u k
  pub ends : (i d : ℕ) (form : ImportKind) → label p i ≡ is.Import form → ImportNames p u i d → Declares p space.Type (name p (i + 1)) d
  pub names : (c n : ℕ) → NamesHeader p c n → 0 < rank c → u n ≡ look_type p u n
  pub left : (c n : ℕ) → NamesHeader p c n → rank c ≡ 0 → u n ≡ Unbound
  pub behind : (c s : ℕ) → IsType p c → 0 < rank c → WaitsFor p u c s → (0 < rank s) × (rank s < rank c)
  pub stuck : (c : ℕ) → IsType p c → rank c ≡ 0 → (s : ℕ) × (rank s ≡ 0) × WaitsFor p u c s
