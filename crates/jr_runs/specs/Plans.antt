-- The rows that a program has where it is written with these spellings: each row becomes a run of rows.
use Rattle.std.specs.Prelude.{ℕ, zero, suc, ◌+◌, Bool, if◌then◌else◌, List, [], ◌∷◌, ◌++◌, length, take, drop, Option, Some, None, slice_get}
use Rattle.jr_tree.specs.declared.tree.Primitive.{Primitive}
use Rattle.jr_tree.specs.declared.tree.Primitive.TheVariants as word
use Rattle.jr_tree.specs.declared.label.Label.{Label}
use Rattle.jr_tree.specs.declared.label.Label.TheVariants as is
use Rattle.jr_tree.specs.declared.label.NamePlace.TheVariants as place
use Rattle.jr_tree.specs.Rows.{Rows, label}
use Rattle.jr_defs.specs.declared.referent.Element.{Element}
use Rattle.jr_defs.specs.declared.referent.Element.TheVariants as element
use Rattle.jr_defs.specs.declared.referent.Referent.{Referent}
use Rattle.jr_defs.specs.Referents.{Table}
use Rattle.jr_shapes.specs.declared.spelling.Shape.{Shape}
use Rattle.jr_shapes.specs.declared.spelling.Shape.TheVariants as shape
use Rattle.jr_shapes.specs.declared.spelling.Spelling.{Spelling}
use Rattle.jr_shapes.specs.declared.spelling.Suffix.{Suffix}
use Rattle.jr_shapes.specs.declared.spelling.TypeName.{TypeName}
use Rattle.jr_shapes.specs.Parts.{parts, type_of}
use Rattle.jr_shapes.specs.Names.{suffix, kept, named_by}
use Rattle.jr_runs.specs.declared.item.Item.{Item}
use Rattle.jr_runs.specs.declared.item.Refers.TheVariants.{To}
use Rattle.jr_runs.specs.declared.item.Meaning.{Meaning}
use Rattle.jr_runs.specs.declared.item.Front.{Front}
use Rattle.jr_runs.specs.declared.item.Front.TheVariants as front
use Rattle.jr_runs.specs.Marks.{Marks, front_at, is_dropped}
use Rattle.jr_runs.specs.Forms.{spelling_at, form_of, turned}
use Rattle.jr_runs.specs.Written.{left_kind, before_call, name_items, cast_items, enclosed_cast, this_items, cast_this, parens, parens_over}

abbrev pub names : Rows → Suffix → List ℕ
names p s = suffix p s.count s.of

abbrev pub trace_by : Option Spelling → List Referent
trace_by (Some s) = s.trace.items
trace_by None = []

abbrev pub primitive_of : Element → Option Primitive
primitive_of element.Boolean = Some word.Boolean
primitive_of element.Byte = Some word.Byte
primitive_of element.Short = Some word.Short
primitive_of element.Char = Some word.Char
primitive_of element.Int = Some word.Int
primitive_of element.Long = Some word.Long
primitive_of _ = None

abbrev pub class_of : Element → Option ℕ
class_of (element.Class c) = Some c
class_of _ = None

-- the names of a class in a cast; none of a primitive type
abbrev pub type_names : Rows → TypeName → List ℕ
type_names p ty = elim (class_of ty.element) [ Some c ↦ suffix p ty.count c | None ↦ [] ]

-- ---- before the row, by the spelling of the row over it

abbrev pub cast_front : Rows → List Spelling → ℕ → Front → ℕ → List Item
cast_front p c n front.Nothing at = []
cast_front p c n (front.Receiver s i) at = enclosed_cast n (trace_by (slice_get c i)) (Some s.of) (names p s) None None at
cast_front p c n (front.Argument ty) at = cast_items n (primitive_of ty.element) ty.dims [] (class_of ty.element) (type_names p ty) None None at

-- the number of the cast
abbrev pub cast_at : Front → ℕ → ℕ
cast_at (front.Receiver s i) at = at + 1
cast_at _ at = at

abbrev pub parens_front : Rows → ℕ → Front → ℕ → List Item
parens_front p n front.Nothing at = []
parens_front p n f at = parens p n (cast_at f at)

abbrev pub front_items : Rows → List Spelling → ℕ → Front → ℕ → List Item
front_items p c n f at = cast_front p c n f at ++ parens_front p n f at

-- what the row itself stands in
abbrev pub front_over : Rows → List Spelling → ℕ → Front → ℕ → Option ℕ
front_over p c n front.Nothing at = None
front_over p c n f at = parens_over p n (cast_at f at) (at + length (cast_front p c n f at))

-- ---- behind the row, by its own shape

abbrev pub left_meaning : Label → Meaning
left_meaning (is.Name k l is_qualified) = record { kind = left_kind k; place = place.Qualifier }
left_meaning _ = before_call

-- the identifiers before the last one of a reference that keeps its shape
abbrev pub kept_names : Rows → Table → ℕ → Referent → List ℕ
kept_names p t n found = kept p t (type_of p found) (parts p t n)

abbrev pub left_items : Rows → Spelling → ℕ → List ℕ → ℕ → List Item
left_items p s n all own = name_items n (left_meaning (label p n)) s.trace.items None all (Some own) (own + 1)

abbrev pub back_items : Rows → Table → Spelling → ℕ → Shape → ℕ → List Item
back_items p t s n shape.Kept own = left_items p s n (kept_names p t n s.found) own
back_items p t s n shape.This own = this_items n [] None [] (Some own) (own + 1)
back_items p t s n (shape.Outer outer) own = this_items n s.trace.items (Some outer.of) (names p outer) (Some own) (own + 1)
back_items p t s n (shape.CastThis f) own = cast_this n s.trace.items (Some f.of) (names p f) [] None [] (Some own) (own + 1)
back_items p t s n (shape.CastOuter f outer) own =
    cast_this n (take (length (names p f)) s.trace.items) (Some f.of) (names p f) (drop (length (names p f)) s.trace.items) (Some outer.of) (names p outer) (Some own) (own + 1)
back_items p t s n (shape.Type f) own = left_items p s n (names p f) own
back_items p t s n (shape.Named f) own = left_items p s n (drop 1 (names p f)) own
back_items p t s n _ own = []

abbrev pub back_by : Rows → Table → ℕ → Option Spelling → ℕ → List Item
back_by p t n (Some s) own = back_items p t s n s.shape own
back_by p t n None own = []

-- ---- the row itself

-- what it refers to: its lock, with the level of the spelling where it has one
abbrev pub found_by : Option Spelling → Referent → Referent
found_by (Some s) lock = s.found
found_by None lock = lock

abbrev pub name_by : Rows → ℕ → Option Spelling → ℕ
name_by p n (Some s) = named_by p n s.found
name_by p n None = n

abbrev pub own_item : Rows → Table → List Spelling → Marks → List Bool → ℕ → Option ℕ → Item
own_item p t c m back n over = record {
  of = n;
  form = form_of p c m back n;
  name = Some (name_by p n (spelling_at c m n));
  over = over;
  end = None;
  refers = To (found_by (spelling_at c m n) (t n));
}

-- ---- the run of a row, from its number on

abbrev pub before_own : Rows → List Spelling → Marks → ℕ → ℕ → List Item
before_own p c m n at = front_items p c n (front_at m n) at

abbrev pub from_own : Rows → Table → List Spelling → Marks → List Bool → ℕ → ℕ → ℕ → List Item
from_own p t c m back n at own = own_item p t c m back n (front_over p c n (front_at m n) at) ∷ back_by p t n (spelling_at c m n) own

abbrev pub kept_run : Rows → Table → List Spelling → Marks → List Bool → ℕ → ℕ → List Item
kept_run p t c m back n at = before_own p c m n at ++ from_own p t c m back n at (at + length (before_own p c m n at))

-- a qualifier is written with the row over it
abbrev pub run : Rows → Table → List Spelling → Marks → List Bool → ℕ → ℕ → List Item
run p t c m back n at = if is_dropped m n then [] else kept_run p t c m back n at

-- where the row itself stands
abbrev pub own_at : Rows → List Spelling → Marks → ℕ → ℕ → ℕ
own_at p c m n at = if is_dropped m n then at else at + length (before_own p c m n at)

-- the rows that are written, where the run of each old row begins, and where the row itself stands
pub record Plan : Type 0 where
  pub items : List Item
  pub starts : List ℕ
  pub copies : List ℕ

abbrev pub with_run : Rows → Table → List Spelling → Marks → List Bool → ℕ → Plan → Plan
with_run p t c m back n x = record {
  items = x.items ++ run p t c m back n (length x.items);
  starts = x.starts ++ length x.items ∷ [];
  copies = x.copies ++ own_at p c m n (length x.items) ∷ [];
}

-- the runs of the first rows, one behind the other
abbrev pub runs_to : Rows → Table → List Spelling → Marks → List Bool → ℕ → Plan
runs_to p t c m back zero = record { items = []; starts = []; copies = [] }
runs_to p t c m back (suc n) = with_run p t c m back n (runs_to p t c m back n)

-- and where the last run ends
abbrev pub ended : Plan → Plan
ended x = record x { starts = x.starts ++ length x.items ∷ [] }

abbrev pub plan_by : Rows → Table → List Spelling → Marks → Plan
plan_by p t c m = ended (runs_to p t c m (turned p c m) (length p))
