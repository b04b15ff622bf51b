-- What calls refer to as they stand, the types of their arguments and parameters, and their spellings with casts.
use Rattle.std.specs.Prelude.{◌≡◌, ℕ, Bool, true, false, if◌then◌else◌, List, [], ◌∷◌, ◌++◌, drop, Option, Some, None, option_map, nat_lt}
use Rattle.jr_base.specs.declared.text.Text.{Text}
use Rattle.jr_tree.specs.declared.label.Sought.{Sought}
use Rattle.jr_tree.specs.declared.label.Sought.TheVariants as sought
use Rattle.jr_tree.specs.Rows.{Rows}
use Rattle.jr_defs.specs.declared.referent.Referent.{Referent}
use Rattle.jr_defs.specs.declared.referent.RowType.{RowType}
use Rattle.jr_defs.specs.Referents.{Table}
use Rattle.jr_plain.specs.Overloads.{Types}
use Rattle.jr_plain.specs.Types.{parameters}
use Rattle.jr_with.specs.World.{world_of, left_of}
use Rattle.jr_with.specs.With.{look_with}
use Rattle.jr_shapes.specs.declared.spelling.TypeName.{TypeName}
use Rattle.jr_spelling_rules.specs.Candidates.{Added, Candidate, left_standing, target}
use Rattle.jr_spelling_rules.specs.Fitting.{found}
use Rattle.jr_spelling_rules.specs.Spelling as rule
use Rattle.jr_spelling_rules.specs.Spelling.{Written, as_written, written_types}
use Rattle.jr_spell.specs.declared.fitting.Fit.{Fit}
use Rattle.jr_spell.specs.declared.speller.Speller.{Speller}
use Rattle.jr_spell.specs.Spellers.{rows_of, table_of, types_of, is_constant_variable, was_constant}

-- ---- arguments and parameters

-- the arguments of what is sought so begin behind its first child
abbrev pub begins_behind : Sought → Bool
begins_behind sought.MethodOf = true
begins_behind sought.Creation = true
begins_behind _ = false

-- the types of the parameters of what is referred to
abbrev pub parameters_of : Rows → Table → Referent → Option (List RowType)
parameters_of p t lock = elim (target lock) [ Some d ↦ parameters p t d | None ↦ None ]

-- these types, and those that are left of a list from one on, are the list
abbrev pub AreFirst : List RowType → ℕ → Option (List RowType) → Type 0
AreFirst all n found = option_map (λ more. all ++ drop n more) found ≡ found

-- ---- as it stands

-- what a call with this name refers to where it is sought so, its arguments having these types
abbrev pub call_found : Rows → Table → Types → ℕ → Sought → List RowType → Text → Referent
call_found p t type_of n s all x = look_with p (world_of p t) (left_standing s (Some all) (left_of p t type_of n)) n x s

-- ---- casts

abbrev pub type_name : RowType → ℕ → TypeName
type_name a count = record { element = a.element; count = count; dims = a.dims }

-- a type by the name that is added, if one is
abbrev pub type_by : RowType → Option Added → Option TypeName
type_by a o = elim o [ Some it ↦ Some (type_name a it.suffix.count) | None ↦ None ]

-- these, and the types that are left as they are written, are all of them
abbrev pub AreWrittenTo : Rows → Table → ℕ → List RowType → List TypeName → List RowType → Type 0
AreWrittenTo p t n types all rest = option_map (λ more. all ++ more) (written_types p t n rest) ≡ written_types p t n types

-- ---- spellings

-- the spelling is that of this candidate
pub record IsFit (s : Speller) (n : ℕ) (f : Fit) (c : Candidate) : Type 0 where
  pub shape_is : f.shape ≡ c.shape
  pub found_is : f.found ≡ found (rows_of s) (table_of s) n c
  pub trace_is : f.trace.items ≡ c.trace

-- with these casts, if there are any
abbrev pub written_by : Speller → ℕ → Candidate → Option (List TypeName) → Option Written
written_by s n c names = elim names [ Some all ↦ Some (as_written (rows_of s) (table_of s) n all c) | None ↦ None ]

abbrev pub written_with : Speller → ℕ → Candidate → List RowType → Option Written
written_with s n c types = written_by s n c (written_types (rows_of s) (table_of s) n types)

abbrev pub uncast_at : Speller → ℕ → Option Written
uncast_at s n = rule.uncast_spelling (rows_of s) (table_of s) (types_of s) (was_constant s) s.written n (is_constant_variable s)

abbrev pub with_casts_at : Speller → ℕ → List RowType → Option Written
with_casts_at s n types = rule.with_casts (rows_of s) (table_of s) (types_of s) (was_constant s) s.written n (is_constant_variable s) types

abbrev pub cast_to_at : Speller → ℕ → Option (List RowType) → Option Written
cast_to_at s n found = elim found [ Some types ↦ with_casts_at s n types | None ↦ None ]

abbrev pub cast_at : Speller → ℕ → Option Written
cast_at s n = rule.cast_spelling (rows_of s) (table_of s) (types_of s) (was_constant s) s.written n (is_constant_variable s)

-- where the row has a text to change
abbrev pub cast_here_at : Speller → ℕ → Option Written
cast_here_at s n = if nat_lt n s.written then None else cast_at s n
