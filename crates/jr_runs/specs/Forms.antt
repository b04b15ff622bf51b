-- The labels of rows that are spelled anew: names that become selections, and what stands before the dot of a call (JLS 6.5, 15.11, 15.12).
use Rattle.std.specs.Prelude.{ℕ, zero, suc, ◌+◌, ◌-◌, Bool, true, false, not, ◌&&◌, if◌then◌else◌, List, [], ◌∷◌, ◌++◌, length, Option, Some, None, slice_get, slice_index_or, nat_eq, nat_lt}
use Rattle.jr_tree.specs.declared.label.Label.{Label}
use Rattle.jr_tree.specs.declared.label.Label.TheVariants as is
use Rattle.jr_tree.specs.declared.label.NameKind.{NameKind}
use Rattle.jr_tree.specs.declared.label.NameKind.TheVariants as kind
use Rattle.jr_tree.specs.declared.label.NamePlace.{NamePlace}
use Rattle.jr_tree.specs.declared.label.NamePlace.TheVariants as place
use Rattle.jr_tree.specs.declared.label.ReceiverKind.{ReceiverKind}
use Rattle.jr_tree.specs.declared.label.ReceiverKind.TheVariants as on
use Rattle.jr_tree.specs.Rows.{Rows, label}
use Rattle.jr_shapes.specs.declared.spelling.Shape.{Shape}
use Rattle.jr_shapes.specs.declared.spelling.Shape.TheVariants as shape
use Rattle.jr_shapes.specs.declared.spelling.Spelling.{Spelling}
use Rattle.jr_runs.specs.declared.item.Form.{Form}
use Rattle.jr_runs.specs.declared.item.Form.TheVariants as form
use Rattle.jr_runs.specs.declared.item.Front.{Front}
use Rattle.jr_runs.specs.declared.item.Front.TheVariants as front
use Rattle.jr_runs.specs.Marks.{Marks, chosen_at, front_at, is_dropped}

abbrev pub of_row : ℕ → Option Spelling → Option Spelling
of_row n (Some s) = if nat_eq s.row n then Some s else None
of_row n None = None

abbrev pub spelled : List Spelling → ℕ → Option ℕ → Option Spelling
spelled c n (Some i) = of_row n (slice_get c i)
spelled c n None = None

abbrev pub shape_by : Option Spelling → Option Shape
shape_by (Some s) = Some s.shape
shape_by None = None

-- how a row is spelled, if it is
abbrev pub spelling_at : List Spelling → Marks → ℕ → Option Spelling
spelling_at c m n = spelled c n (chosen_at m n)

abbrev pub shape_at : List Spelling → Marks → ℕ → Option Shape
shape_at c m n = shape_by (spelling_at c m n)

-- a name of this shape is a selection
abbrev pub is_selection : Shape → Bool
is_selection shape.This = true
is_selection (shape.Outer outer) = true
is_selection shape.Super = true
is_selection (shape.CastThis suffix) = true
is_selection (shape.CastOuter suffix outer) = true
is_selection (shape.Cast suffix) = true
is_selection _ = false

-- what is before the dot stands there still
abbrev pub keeps_left : Option Shape → Bool
keeps_left (Some shape.Kept) = true
keeps_left (Some s) = false
keeps_left None = true

abbrev pub selects : Option Shape → Bool
selects (Some s) = is_selection s
selects None = false

-- a name becomes a selection by its own shape, or because what is before its dot does
abbrev pub turns_name : Option Shape → Bool → Bool → Bool
turns_name s is_qualified next = if keeps_left s then is_qualified && next else selects s

abbrev pub turns_label : Label → Option Shape → Bool → Bool
turns_label (is.Name kind place is_qualified) s next = turns_name s is_qualified next
turns_label _ s next = false

abbrev pub turns : Rows → List Spelling → Marks → ℕ → Bool → Bool
turns p c m n next = not (is_dropped m n) && turns_label (label p n) (shape_at c m n) next

-- whether the first of the last so many rows becomes a selection
abbrev pub turned_last : Rows → List Spelling → Marks → ℕ → Bool
turned_last p c m zero = false
turned_last p c m (suc k) = turns p c m (length p - k - 1) (turned_last p c m k)

abbrev pub turned_to : Rows → List Spelling → Marks → ℕ → List Bool
turned_to p c m zero = []
turned_to p c m (suc k) = turned_to p c m k ++ turned_last p c m (suc k) ∷ []

-- of each row from the last one back whether it becomes a selection
abbrev pub turned : Rows → List Spelling → Marks → List Bool
turned p c m = turned_to p c m (length p)

abbrev pub is_turned : List Bool → ℕ → Bool
is_turned back n = if nat_lt n (length back) then slice_index_or back (length back - n - 1) false else false

abbrev pub is_still_qualified : Option Shape → Bool → Bool
is_still_qualified (Some shape.Bare) is_qualified = false
is_still_qualified (Some (shape.Type of)) is_qualified = true
is_still_qualified (Some (shape.Named suffix)) is_qualified = nat_lt 1 suffix.count
is_still_qualified _ is_qualified = is_qualified

abbrev pub receiver_form : Option Shape → ReceiverKind → ReceiverKind
receiver_form None receiver = receiver
receiver_form (Some shape.Kept) receiver = receiver
receiver_form (Some shape.Bare) receiver = on.Absent
receiver_form (Some (shape.Type of)) receiver = on.Name
receiver_form (Some s) receiver = on.Expression

abbrev pub is_super : Option Shape → Bool
is_super (Some shape.Super) = true
is_super _ = false

abbrev pub casts_this : Option Shape → Bool
casts_this (Some (shape.CastThis suffix)) = true
casts_this _ = false

abbrev pub is_receiver : Front → Bool
is_receiver (front.Receiver suffix spelling) = true
is_receiver _ = false

-- a name that is cast as a receiver is a variable
abbrev pub plain_name : Bool → NameKind → NamePlace → Bool → Form
plain_name is_cast k l is_qualified = if is_cast then form.Name kind.Variable place.Expression is_qualified else form.Name k l is_qualified

abbrev pub name_form : Option Shape → Bool → Bool → NameKind → NamePlace → Bool → Form
name_form s is_turned is_cast k l is_qualified =
    if is_super s then form.SuperSelect else (if is_turned then form.Select else plain_name is_cast k l (is_still_qualified s is_qualified))

abbrev pub is_named : ReceiverKind → Bool
is_named on.Name = true
is_named _ = false

abbrev pub call_form : Option Shape → Bool → ReceiverKind → Form
call_form s next receiver = if is_named receiver && keeps_left s && next then form.Call on.Expression else form.Call (receiver_form s receiver)

-- the label of a row, by its shape, whether it and what is behind it become selections, and whether it is cast
abbrev pub form_by : Label → Option Shape → Bool → Bool → Bool → Form
form_by (is.Name k l is_qualified) s is_turned next is_cast = name_form s is_turned is_cast k l is_qualified
form_by (is.Call receiver) s is_turned next is_cast = call_form s next receiver
form_by is.SuperSelect s is_turned next is_cast = if casts_this s then form.Select else form.Same
form_by _ s is_turned next is_cast = form.Same

abbrev pub form_of : Rows → List Spelling → Marks → List Bool → ℕ → Form
form_of p c m back n = form_by (label p n) (shape_at c m n) (is_turned back n) (is_turned back (n + 1)) (is_receiver (front_at m n))
