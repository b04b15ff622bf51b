-- What a shape of spelling finds is what the candidates of the definition find.
use Rattle.std.specs.Prelude.{◌≡◌, ℕ, ◌+◌, Bool, if◌then◌else◌, List, [], ◌∷◌, Option, Some, None, nat_eq, nat_lt, true, false, is_some, slice_index_or}
use Rattle.std.specs.List.{Contains}
use Rattle.jr_base.specs.declared.text.Text.{Text}
use Rattle.jr_tree.specs.Rows.{Rows, parent}
use Rattle.jr_defs.specs.declared.referent.Element.{Element}
use Rattle.jr_defs.specs.declared.referent.Element.TheVariants as element
use Rattle.jr_defs.specs.declared.referent.Referent.{Referent}
use Rattle.jr_defs.specs.declared.referent.RowType.{RowType}
use Rattle.jr_defs.specs.Referents.{Table, entries}
use Rattle.jr_defs.specs.Types.{class_type}
use Rattle.jr_plain.specs.Overloads.{Types}
use Rattle.jr_lookup.specs.Answers.{CanChoose}
use Rattle.jr_lookup.specs.Locals.{AreLocalsPlaced}
use Rattle.jr_lookup.specs.Sights.{IsSight}
use Rattle.jr_view.specs.declared.View.{View}
use Rattle.jr_with.specs.World.{world_of}
use Rattle.jr_with.specs.With.{look_with}
use Rattle.jr_shapes.specs.declared.spelling.Shape.{Shape}
use Rattle.jr_shapes.specs.declared.spelling.Shape.TheVariants as shape
use Rattle.jr_shapes.specs.declared.spelling.Spelling.{Spelling}
use Rattle.jr_spelling_rules.specs.Candidates.{Candidate, level_of, kept_names, behind_names, others, candidates, as_it_stands as candidate_as_it_stands, is_call, method_behind}
use Rattle.jr_spelling_rules.specs.Behind.{with_types}
use Rattle.jr_spelling_rules.specs.Naming.{Before, left_behind}
use Rattle.jr_spelling_rules.specs.Spelling.{Written, as_written, spelling}
use Rattle.jr_spelling_rules.specs.Fitting.{fits, first_such, found, receiver_type, through}
use Rattle.jr_spell.specs.declared.fitting.Fit.{Fit}
use Rattle.jr_spell.specs.declared.fitting.Looked.{Looked}
use Rattle.jr_spell.specs.declared.fitting.Way.{Way}
use Rattle.jr_spell.specs.declared.fault.SpellFault.{SpellFault}
use Rattle.jr_spell.specs.declared.reference.Reference.{Reference}
use Rattle.jr_spell.specs.declared.speller.Speller.{Speller}
use Rattle.jr_spell.specs.Spellers.{rows_of, table_of, types_of, is_constant_variable, was_constant}
use Rattle.jr_spell.specs.Spelling as spelled

-- what is found in one way
pub record IsLookedAs (s : Speller) (n : ℕ) (looked : Looked) (c : Candidate) : Type 0 where
  pub found_is : looked.found ≡ found (rows_of s) (table_of s) n c
  pub trace_is : looked.trace.items ≡ c.trace
  pub receiver_is : looked.way.receiver ≡ receiver_type (rows_of s) c.left
  pub level_is : looked.way.level ≡ through (rows_of s) (table_of s) n c
  pub form_is : looked.way.is_constant_form ≡ c.is_constant_form

-- there is one way of this shape, or none
pub data AreLooked (s : Speller) (n : ℕ) (shape : Shape) : Option Looked → List Candidate → Type 0 where
  none : AreLooked s n shape None []
  some : {looked : Looked} {c : Candidate} → c.shape ≡ shape → IsLookedAs s n looked c → AreLooked s n shape (Some looked) (c ∷ [])

-- the way of a name alone, or of `super` and a name
abbrev pub way_of : Referent → Bool → Way
way_of found form = record { receiver = None; level = level_of found; is_constant_form = form }

-- of a call these are the types of the arguments
abbrev pub IsGiven : Reference → Option (List RowType) → List RowType → Type 0
IsGiven r given all = is_call r.sought ≡ true → given ≡ Some all

-- what a method with this name and such arguments refers to behind a package or a type, or without one
abbrev pub method_found : Rows → Table → ℕ → Before → List RowType → Text → Referent
method_found p t n b all x = look_with p (world_of p t) (with_types (left_behind b) all) n x (method_behind b)

-- the type of the expression behind the row, right below it, if there is one
abbrev pub type_behind : Rows → Types → ℕ → Option RowType
type_behind p type_of n = if nat_eq (parent p (n + 1)) n then type_of (n + 1) else None

-- the type through which its members are reached, where this is Object (JLS 10.7)
abbrev pub class_type_in : Element → Option RowType
class_type_in (element.Class c) = Some (class_type c)
class_type_in _ = None

abbrev pub object_type : Option ℕ → Option RowType
object_type object = elim object [ Some c ↦ Some (class_type c) | None ↦ None ]

abbrev pub receiver_by : Option ℕ → RowType → Option RowType
receiver_by object a = if nat_lt 0 a.dims then object_type object else class_type_in a.element

-- the way of what stands behind such an expression, or behind none
abbrev pub standing_way : Option RowType → Referent → Way
standing_way receiver found = record { receiver = receiver; level = level_of found; is_constant_form = false }

abbrev pub as_it_stands : Speller → Option (List RowType) → ℕ → Candidate
as_it_stands s given n = candidate_as_it_stands (rows_of s) (table_of s) (types_of s) given n

-- the old shape of a reference that is written by identifiers alone
abbrev pub kept_by_names : Rows → Table → Option (List RowType) → ℕ → List Candidate
kept_by_names p t given n = elim (kept_names p t n) [ Some names ↦ behind_names p t given n shape.Kept names | None ↦ [] ]

-- the ways besides the old one, where the row has a text to change
abbrev pub others_from : Rows → Table → Option (List RowType) → ℕ → ℕ → List Candidate
others_from p t given n first = if nat_lt n first then [] else others p t given n

-- the candidate fits
abbrev pub fits_at : Speller → ℕ → Candidate → Bool
fits_at s n c = fits (rows_of s) (table_of s) n (was_constant s) (is_constant_variable s) c

-- the spelling is that of the candidate
pub data IsFitOf (s : Speller) (n : ℕ) : Option Fit → Option Candidate → Type 0 where
  none : IsFitOf s n None None
  some : {f : Fit} {c : Candidate} → f.shape ≡ c.shape → f.found ≡ found (rows_of s) (table_of s) n c → f.trace.items ≡ c.trace → IsFitOf s n (Some f) (Some c)

-- it is the first of the list that fits
abbrev pub IsFirstOf : Speller → ℕ → List Candidate → Option Fit → Type 0
IsFirstOf s n all o = IsFitOf s n o (first_such (λ c. fits_at s n c) all)

-- ---- spellings

abbrev pub written_plain : Speller → ℕ → Option Candidate → Option Written
written_plain s n o = elim o [ Some c ↦ Some (as_written (rows_of s) (table_of s) n [] c) | None ↦ None ]

-- without casts, the arguments having these types
abbrev pub plainly : Speller → ℕ → Option (List RowType) → Option Written
plainly s n given = written_plain s n (first_such (λ c. fits_at s n c) (candidates (rows_of s) (table_of s) (types_of s) given n s.written))

abbrev pub spelling_at : Speller → ℕ → Option Written
spelling_at s n = spelling (rows_of s) (table_of s) (types_of s) (was_constant s) s.written n (is_constant_variable s)

abbrev pub IsSpelled : Speller → Spelling → Type 0
IsSpelled s a = spelled.IsSpelled (rows_of s) (table_of s) (types_of s) (was_constant s) s.written (is_constant_variable s) a

pub record AreSpelled (s : Speller) (all : List Spelling) : Type 0 where
  pub each : spelled.AreSpelled (rows_of s) (table_of s) (types_of s) (was_constant s) s.written (is_constant_variable s) all

abbrev pub HasNone : Speller → SpellFault → Type 0
HasNone s fault = spelled.HasNone (rows_of s) (table_of s) (types_of s) (was_constant s) s.written (is_constant_variable s) fault

-- a reference with a lock has a spelling in the list, or it stays as it stands
abbrev pub IsTold : Speller → List Spelling → ℕ → Type 0
IsTold s all n = spelled.IsTold (rows_of s) (table_of s) (types_of s) (was_constant s) s.written (is_constant_variable s) all n

-- so it is with each of these rows
pub record AreTold (s : Speller) (order : List ℕ) (all : List Spelling) : Type 0 where
  pub each : (n : ℕ) → Contains order n → IsTold s all n

-- what is in one list is in the other
abbrev pub KeepsAll : {A : Type 0} → List A → List A → Type 0
KeepsAll {A} old new = (a : A) → Contains old a → Contains new a

-- ---- under the locks of a program

-- with all that lookup reads
pub record IsWholeView (v : View) : Type 0 where
  pub sight_is : IsSight (entries v.sight.world.under.table.now) v.sight
  pub placed : AreLocalsPlaced v.sight.world.under.rows.now
  pub can : CanChoose (entries v.sight.world.under.table.now) v.sight.world

abbrev pub AreSpelledIn : View → List Bool → ℕ → List Spelling → Type 0
AreSpelledIn v constant first all = spelled.AreSpelled v.sight.world.under.rows.now (entries v.sight.world.under.table.now) (λ n. slice_index_or v.types.now n None) (λ n. slice_index_or constant n false) first
    (λ d. is_some (slice_index_or v.constants.now.variables.items d None)) all

abbrev pub AreToldIn : View → List Bool → ℕ → List Spelling → Type 0
AreToldIn v constant first all = spelled.AreTold v.sight.world.under.rows.now (entries v.sight.world.under.table.now) (λ n. slice_index_or v.types.now n None) (λ n. slice_index_or constant n false) first
    (λ d. is_some (slice_index_or v.constants.now.variables.items d None)) all

abbrev pub HasNoneIn : View → List Bool → ℕ → SpellFault → Type 0
HasNoneIn v constant first fault = spelled.HasNone v.sight.world.under.rows.now (entries v.sight.world.under.table.now) (λ n. slice_index_or v.types.now n None) (λ n. slice_index_or constant n false) first
    (λ d. is_some (slice_index_or v.constants.now.variables.items d None)) fault
