-- Names of types that a spelling adds, in code and as the definition has them.
use Rattle.std.specs.Prelude.{◌≡◌, ℕ, ◌<◌, Bool, false, length, List, [], ◌∷◌, ◌++◌, Option, Some, None, if◌then◌else◌}
use Rattle.std.specs.List.{AllByRecursion}
use Rattle.std.specs.Option.{option_map_or}
use Rattle.jr_base.specs.declared.text.Text.{Text}
use Rattle.jr_tree.specs.Rows.{Rows}
use Rattle.jr_defs.specs.declared.referent.Referent.{Referent}
use Rattle.jr_defs.specs.Referents.{Table}
use Rattle.jr_spelling_rules.specs.Candidates.{Added, is_empty, package_before}
use Rattle.jr_spell.specs.declared.added.Added.{Added as Code}
use Rattle.jr_spell.specs.Packaging.{AreNumbers}
use Rattle.jr_spell.specs.Standing.{texts_of}

-- all are rows of the program
abbrev pub AreWithin : Rows → List ℕ → Type 0
AreWithin p all = AllByRecursion (λ n. n < length p) all

-- the numbers of these identifiers
pub record AreNumbersOf (p : Rows) (texts : List Text) (names : List ℕ) : Type 0 where
  pub numbers : AreNumbers p names
  pub spells : texts_of p names ≡ texts

-- a name as it would be written, and the numbers of its identifiers
pub data AreNumbered (p : Rows) : Option (List ℕ) → Option (List Text) → Type 0 where
  none : AreNumbered p None None
  some : {all : List ℕ} {texts : List Text} → AreNumbersOf p texts all → AreNumbered p (Some all) (Some texts)

-- a package before a reference would become the unnamed one
abbrev pub loses : Rows → Table → Option ℕ → List ℕ → Bool
loses p t behind parts = option_map_or is_empty (package_before p t behind parts) false

-- with what is found, where it is the type
abbrev pub traced : Bool → List Referent → Referent → Option (List Referent)
traced is_type trace found = if is_type then Some (trace ++ found ∷ []) else None

-- the same name, with the same trace
pub data IsAdded : Option Code → Option Added → Type 0 where
  none : IsAdded None None
  some : {a : Code} {b : Added} → a.suffix ≡ b.suffix → a.trace.items ≡ b.trace → IsAdded (Some a) (Some b)
