-- What stands before an identifier in code, and what identifiers lead to there.
use Rattle.std.specs.Prelude.{◌≡◌, ℕ, List, ◌++◌, map, drop, Option, Some, None, option_map}
use Rattle.jr_base.specs.declared.text.Text.{Text}
use Rattle.jr_tree.specs.declared.label.NameKind.{NameKind}
use Rattle.jr_tree.specs.Rows.{Rows, name}
use Rattle.jr_defs.specs.declared.referent.Referent.{Referent}
use Rattle.jr_spelling_rules.specs.Naming.{Before, at_start, in_package, in_type, kind_before, look_up, qualify}
use Rattle.jr_spell.specs.declared.resolving.Before.{Before as Code}
use Rattle.jr_spell.specs.declared.resolving.Before.TheVariants as code
use Rattle.jr_spell.specs.declared.resolving.Qualifiers.{Qualifiers}
use Rattle.jr_spell.specs.declared.resolving.Resolved.{Resolved}
use Rattle.jr_spell.specs.declared.speller.Speller.{Speller}
use Rattle.jr_spell.specs.Packaging.{IsPath}
use Rattle.jr_spell.specs.Spellers.{rows_of, table_of}

abbrev pub texts_of : Rows → List ℕ → List Text
texts_of p names = map (λ n. name p n) names

-- ---- before an identifier

pub data StandsFor (s : Speller) : Code → Before → Type 0 where
  nothing : StandsFor s code.Nothing at_start
  of_package : {at : Option ℕ} {path : List Text} → IsPath (rows_of s) s.paths.now at path → StandsFor s (code.Package at) (in_package path)
  of_type : {c : ℕ} → StandsFor s (code.OfType c) (in_type c)

-- where the one is there, so is the other
pub data BothStand (s : Speller) : Option Code → Option Before → Type 0 where
  none : BothStand s None None
  some : {a : Code} {b : Before} → StandsFor s a b → BothStand s (Some a) (Some b)

-- ---- identifiers, one after another

abbrev pub onward : List Referent → Option (Before × List Referent) → Option (Before × List Referent)
onward trace o = option_map (λ q. (q.0, trace ++ q.1)) o

-- the first so many lead to what stands there, and refer so
pub record LeadsOn (s : Speller) (place : ℕ) (k : NameKind) (names : List ℕ) (i : ℕ) (last : Code) (trace : List Referent) : Type 0 where
  pub before : Before
  pub stands : StandsFor s last before
  pub rest : qualify (rows_of s) (table_of s) place k at_start (texts_of (rows_of s) names) ≡ onward trace (qualify (rows_of s) (table_of s) place k before (texts_of (rows_of s) (drop i names)))

-- what all of them lead to
pub data AreQualified (s : Speller) : Option Qualifiers → Option (Before × List Referent) → Type 0 where
  none : AreQualified s None None
  some : {q : Qualifiers} {b : Before} → StandsFor s q.last b → AreQualified s (Some q) (Some (b, q.trace.items))

-- what the last of some identifiers refers to behind the others, which refer so
pub data AreResolved (s : Speller) (place : ℕ) (k : NameKind) (names : List ℕ) (n : ℕ) : Option Resolved → Type 0 where
  none : qualify (rows_of s) (table_of s) place (kind_before k) at_start (texts_of (rows_of s) names) ≡ None → AreResolved s place k names n None
  some : {r : Resolved} {b : Before} → qualify (rows_of s) (table_of s) place (kind_before k) at_start (texts_of (rows_of s) names) ≡ Some (b, r.trace.items)
      → r.found ≡ look_up (rows_of s) (table_of s) place b k (name (rows_of s) n) → AreResolved s place k names n (Some r)
