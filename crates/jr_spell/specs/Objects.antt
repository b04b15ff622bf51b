-- Ways to write a member by an object, as code tells them apart.
use Rattle.std.specs.Prelude.{◌≡◌, ℕ, Bool, false, if◌then◌else◌, List, [], ◌∷◌, ◌++◌, Option, Some, None, is_some}
use Rattle.jr_tree.specs.declared.label.NameKind.TheVariants as kind
use Rattle.jr_tree.specs.Rows.{Rows}
use Rattle.jr_defs.specs.declared.referent.RowType.{RowType}
use Rattle.jr_defs.specs.Referents.{Table}
use Rattle.jr_defs.specs.Types.{class_type}
use Rattle.jr_shapes.specs.declared.spelling.Shape.{Shape}
use Rattle.jr_shapes.specs.declared.spelling.Shape.TheVariants as shape
use Rattle.jr_shapes.specs.declared.spelling.Suffix.{Suffix}
use Rattle.jr_spelling_rules.specs.Candidates as candidate
use Rattle.jr_spelling_rules.specs.Candidates.{Candidate, Added}
use Rattle.jr_spelling_rules.specs.Naming.{in_type}
use Rattle.jr_spell.specs.declared.added.Added.{Added as Code}
use Rattle.jr_spell.specs.declared.fitting.Way.{Way}
use Rattle.jr_spell.specs.declared.objects.Addition.{Addition}
use Rattle.jr_spell.specs.declared.objects.Addition.TheVariants as addition

-- by the name of a type that is added
abbrev pub shape_by : Addition → Suffix → Shape
shape_by addition.Outer a = shape.Outer a
shape_by addition.CastThis a = shape.CastThis a
shape_by addition.Cast a = shape.Cast a

-- a member of an object of the class, which is that of the level
abbrev pub object_way : ℕ → Option ℕ → Way
object_way c level = record { receiver = Some (class_type c); level = level; is_constant_form = false }

-- a field through super
abbrev pub super_way : Option ℕ → Way
super_way level = record { receiver = None; level = level; is_constant_form = false }

abbrev pub only_if : Bool → ℕ → Option ℕ
only_if is_so n = if is_so then Some n else None

abbrev pub only_same : Option ℕ → ℕ → Option ℕ
only_same one n = if candidate.is_same_row one n then Some n else None

-- the same name, with the same trace
pub record IsSame (a : Code) (b : Added) : Type 0 where
  pub suffix_is : a.suffix ≡ b.suffix
  pub trace_is : a.trace.items ≡ b.trace

module _ (p : Rows) (t : Table) (given : Option (List RowType)) (n : ℕ) where
  -- a member of an object of the class c, by its name
  abbrev pub by_added : Addition → ℕ → List Candidate
  by_added way c = elim (candidate.added p t n kind.Type c) [ Some a ↦ candidate.on_object p t given n (shape_by way a.suffix) a.trace c ∷ [] | None ↦ [] ]

  -- by the names of both types, that of the class c being found, or by finding both
  abbrev pub by_level : ℕ → ℕ → Added → List Candidate
  by_level c l a = elim (candidate.added p t n kind.Type l) [ Some b ↦ candidate.cast_outer p t given n c a b ∷ [] | None ↦ [] ]

  abbrev pub by_class : ℕ → ℕ → List Candidate
  by_class c l = elim (candidate.added p t n kind.Type c) [
    | Some a ↦ elim (candidate.added p t n kind.Type l) [ Some b ↦ candidate.cast_outer p t given n c a b ∷ [] | None ↦ [] ]
    | None ↦ []
  ]

  -- the last ways to write an instance member without a receiver
  abbrev pub on_cast_object : List Candidate
  on_cast_object = if is_some (candidate.level_here p t n) then candidate.on_cast_this p t given n else candidate.on_cast_outer p t given n

  abbrev pub on_super_or_cast : List Candidate
  on_super_or_cast = candidate.on_super p t given n ++ on_cast_object

  abbrev pub on_outer_or_cast : List Candidate
  on_outer_or_cast = candidate.on_outer p t given n ++ on_super_or_cast

  -- a static member behind the type c, by its name
  abbrev pub by_type : ℕ → List Candidate
  by_type c = elim (candidate.added p t n kind.Ambiguous c) [ Some a ↦ candidate.behind p t given n (shape.Type a.suffix) a.trace (in_type c) ∷ [] | None ↦ [] ]
