-- How an initializer stands in place of a use (JLS 6.5, 15.8.5, 15.11, 15.16).
use Rattle.std.specs.Prelude.{◌≡◌, ℕ, Bool, true, false, not, ◌&&◌, ◌||◌, if◌then◌else◌, List, [], ◌++◌, codes, Option, Some, None, is_some, slice_index_or}
use Rattle.jr_tree.specs.declared.label.Label.{Label}
use Rattle.jr_tree.specs.declared.label.Label.TheVariants as is
use Rattle.jr_tree.specs.declared.label.NamePlace.{NamePlace}
use Rattle.jr_tree.specs.declared.label.NamePlace.TheVariants as stands
use Rattle.jr_tree.specs.Rows.{Rows, label, name}
use Rattle.jr_defs.specs.declared.referent.Element.{Element}
use Rattle.jr_defs.specs.declared.referent.Element.TheVariants as element
use Rattle.jr_defs.specs.declared.referent.RowType.{RowType}
use Rattle.jr_defs.specs.Referents.{entries}
use Rattle.jr_plain.specs.Same.{same_type}
use Rattle.jr_plain.specs.Types.{type_of_declared}
use Rattle.jr_supers.specs.Tabled.{IsSized}
use Rattle.jr_shapes.specs.Names.{is_atom}
use Rattle.jr_shapes.specs.Parts.{end_of}
use Rattle.jr_weave.specs.Wording.{brackets, word_of}
use Rattle.jr_marks.specs.declared.marks.Marks.{Marks}
use Rattle.jr_text.specs.Spans.{part, tokens_span, unit_bytes}
use Rattle.jr_change.specs.declared.change.Target.TheVariants as target
use Rattle.jr_change.specs.declared.project.Project.{Project}
use Rattle.jr_draft.specs.Asking.{rows_of, table_of}
use Rattle.jr_draft.specs.Drafting.{Drafted, copied, glued, referred}
use Rattle.jr_inline.specs.declared.form.Form.{Form}
use Rattle.jr_inline.specs.declared.local.Local.{Local}

-- ---- which form

-- the type of the expression at a row, if it is one, by the types of the program
abbrev pub type_in : List (Option RowType) → ℕ → Option RowType
type_in types n = slice_index_or types n None

abbrev pub has_type : Option RowType → RowType → Bool
has_type None ty = false
has_type (Some found) ty = same_type found ty

abbrev pub cast_by : Option RowType → Option RowType → Option RowType
cast_by None found = None
cast_by (Some ty) found = if has_type found ty then None else Some ty

-- the type to which the initializer is cast: that of the local, where it has another one
abbrev pub IsCast : Project → Local → Option RowType → Type 0
IsCast old local cast = IsSized (rows_of old) → cast ≡ cast_by (type_of_declared (rows_of old) (entries (table_of old)) local.declarator) (type_in old.view.types.now local.value)

abbrev pub name_place_by : Label → Option NamePlace
name_place_by (is.Name kind place is_qualified) = Some place
name_place_by _ = None

-- where an identifier of a name stands, if the row is one
abbrev pub name_place : Rows → ℕ → Option NamePlace
name_place p n = name_place_by (label p n)

abbrev pub is_name : Rows → ℕ → Bool
is_name p n = is_some (name_place p n)

abbrev pub is_dotted : NamePlace → Bool
is_dotted stands.Qualifier = true
is_dotted stands.Receiver = true
is_dotted _ = false

abbrev pub is_before_dot_by : Option NamePlace → Bool
is_before_dot_by None = false
is_before_dot_by (Some place) = is_dotted place

-- an identifier of a name with a dot behind it
abbrev pub is_before_dot : Rows → ℕ → Bool
is_before_dot p n = is_before_dot_by (name_place p n)

-- a name before a dot, which would become one name with what stands behind it
abbrev pub is_merged : Rows → ℕ → ℕ → Bool
is_merged p value used = is_name p value && is_before_dot p used

-- a cast wants parentheses of its own where the initializer is no atom; without a cast so does a name before a dot
abbrev pub is_enclosed : Rows → ℕ → Option RowType → ℕ → Bool
is_enclosed p value None used = is_merged p value used || not (is_atom p value)
is_enclosed p value (Some ty) used = not (is_atom p value)

-- the form in which the initializer stands in place of a use
abbrev pub form_of : Rows → ℕ → Option RowType → ℕ → Form
form_of p value cast used = record { cast = cast; is_enclosed = is_enclosed p value cast used }

-- ---- its text

-- a type by the simple name of its class or its word
abbrev pub element_text : Rows → Element → List ℕ
element_text p (element.Class c) = name p c
element_text p e = word_of e

abbrev pub type_text : Rows → RowType → List ℕ
type_text p ty = element_text p ty.element ++ brackets ty.dims

abbrev pub cast_text : Rows → Option RowType → List ℕ
cast_text p None = []
cast_text p (Some ty) = codes "((" ++ (type_text p ty ++ codes ")")

abbrev pub open_text : Bool → List ℕ
open_text is_open = if is_open then codes "(" else []

abbrev pub close_text : Bool → List ℕ
close_text is_open = if is_open then codes ")" else []

abbrev pub value_text : Marks → ℕ → List ℕ
value_text m value = part (unit_bytes m value) (tokens_span m value)

abbrev pub front_text : Rows → Form → List ℕ
front_text p form = cast_text p form.cast ++ open_text form.is_enclosed

abbrev pub back_text : Form → List ℕ
back_text form = close_text form.is_enclosed ++ close_text (is_some form.cast)

-- `a`, `(a)`, `((T)a)` or `((T)(a))`
abbrev pub form_text : Rows → List ℕ → Form → List ℕ
form_text p value form = front_text p form ++ (value ++ back_text form)

-- ---- its rows

-- the name of a class refers to that
abbrev pub element_rows : Element → Drafted → Drafted
element_rows (element.Class c) d = referred d (target.Old c) None
element_rows e d = d

-- the parentheses, the cast and its type, which come from no old row
abbrev pub cast_rows : Option RowType → Drafted → Drafted
cast_rows None d = d
cast_rows (Some ty) d = element_rows ty.element (glued d 3)

abbrev pub open_rows : Bool → Drafted → Drafted
open_rows is_open d = if is_open then glued d 1 else d

-- with the rows of the form, in which those of the initializer are copies
abbrev pub form_rows : Rows → ℕ → Form → Drafted → Drafted
form_rows p value form d = copied (open_rows form.is_enclosed (cast_rows form.cast d)) value (end_of p value)
