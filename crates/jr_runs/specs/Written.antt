-- The rows that are written for parts of a spelling, each from its number on (JLS 6.2, 15.8.3, 15.8.4, 15.16).
use Rattle.std.specs.Prelude.{ℕ, ◌+◌, Bool, true, false, List, [], ◌∷◌, ◌++◌, length, Option, Some, None, slice_get, if◌then◌else◌}
use Rattle.jr_tree.specs.declared.tree.Primitive.{Primitive}
use Rattle.jr_tree.specs.declared.label.NameKind.{NameKind}
use Rattle.jr_tree.specs.declared.label.NameKind.TheVariants as kind
use Rattle.jr_tree.specs.declared.label.NamePlace.TheVariants as place
use Rattle.jr_tree.specs.Rows.{Rows}
use Rattle.jr_defs.specs.declared.referent.Referent.{Referent}
use Rattle.jr_defs.specs.declared.referent.Referent.TheVariants.{Unbound, Declared}
use Rattle.jr_shapes.specs.Names.{is_atom}
use Rattle.jr_runs.specs.declared.item.Item.{Item}
use Rattle.jr_runs.specs.declared.item.Form.{Form}
use Rattle.jr_runs.specs.declared.item.Form.TheVariants as form
use Rattle.jr_runs.specs.declared.item.Refers.{Refers}
use Rattle.jr_runs.specs.declared.item.Refers.TheVariants.{To, ToPart}
use Rattle.jr_runs.specs.declared.item.Meaning.{Meaning}

-- a row without an identifier, which refers to nothing
abbrev pub bare : ℕ → Form → Option ℕ → Option ℕ → Item
bare of f over end = record { of = of; form = f; name = None; over = over; end = end; refers = To Unbound }

-- what stands before a dot means, by what the name does (JLS 6.5.1)
abbrev pub left_kind : NameKind → NameKind
left_kind kind.Variable = kind.Ambiguous
left_kind kind.Type = kind.PackageOrType
left_kind k = k

abbrev pub left : Meaning → Meaning
left m = record { kind = left_kind m.kind; place = place.Qualifier }

-- the name of a type
abbrev pub of_type : Meaning
of_type = record { kind = kind.Type; place = place.Other }

-- what a name before the dot of a call means
abbrev pub before_call : Meaning
before_call = record { kind = kind.Ambiguous; place = place.Receiver }

abbrev pub refers_to_type : Option ℕ → Refers
refers_to_type (Some c) = To (Declared c None)
refers_to_type None = ToPart

-- an identifier refers to what is said of it, in the order of the text; else, where it is the last one, to the type that is named
abbrev pub refers_by : Option Referent → Option ℕ → Refers
refers_by (Some r) class = To r
refers_by None class = refers_to_type class

abbrev pub is_more : List ℕ → Bool
is_more [] = false
is_more (n ∷ rest) = true

abbrev pub identifier : ℕ → Meaning → Option Referent → Option ℕ → ℕ → Bool → Option ℕ → ℕ → Item
identifier of m said class n is_qualified over stop =
    record { of = of; form = form.Name m.kind m.place is_qualified; name = Some n; over = over; end = Some stop; refers = refers_by said class }

-- the identifiers of a name from the last one back, each below the one behind it
abbrev pub chain : ℕ → Meaning → List Referent → Option ℕ → List ℕ → Option ℕ → ℕ → ℕ → List Item
chain of m found class [] over at stop = []
chain of m found class (n ∷ rest) over at stop =
    identifier of m (slice_get found (length rest)) class n (is_more rest) over stop ∷ chain of (left m) found None rest (Some at) (at + 1) stop

-- a name as a whole
abbrev pub name_items : ℕ → Meaning → List Referent → Option ℕ → List ℕ → Option ℕ → ℕ → List Item
name_items of m found class names over at = chain of m found class names over at (at + length names)

-- a row, and the name of a type below it
abbrev pub named_items : ℕ → Form → List Referent → Option ℕ → List ℕ → Option ℕ → ℕ → List Item
named_items of f found class names over at =
    bare of f over (Some (at + 1 + length names)) ∷ name_items of of_type found class names (Some at) (at + 1)

-- a cast, up to what is cast
abbrev pub cast_items : ℕ → Option Primitive → ℕ → List Referent → Option ℕ → List ℕ → Option ℕ → Option ℕ → ℕ → List Item
cast_items of primitive dims found class names over stop at =
    bare of form.Cast over stop ∷ named_items of (form.TypeUse primitive dims) found class names (Some at) (at + 1)

-- parentheses, and a cast to a class in them
abbrev pub enclosed_cast : ℕ → List Referent → Option ℕ → List ℕ → Option ℕ → Option ℕ → ℕ → List Item
enclosed_cast of found class names over stop at = bare of form.Paren over stop ∷ cast_items of None 0 found class names (Some at) stop (at + 1)

-- `this`, or `T.this` by the names of T
abbrev pub this_items : ℕ → List Referent → Option ℕ → List ℕ → Option ℕ → ℕ → List Item
this_items of found class names over at = named_items of (form.This (is_more names)) found class names over at

-- `((S)this)` or `((S)T.this)`
abbrev pub cast_this : ℕ → List Referent → Option ℕ → List ℕ → List Referent → Option ℕ → List ℕ → Option ℕ → ℕ → List Item
cast_this of found class names outer_found outer outers over at =
    enclosed_cast of found class names over (Some (at + 4 + length names + length outers)) at ++ this_items of outer_found outer outers (Some (at + 1)) (at + 3 + length names)

-- parentheses round a row that is no atom, in the cast
abbrev pub parens : Rows → ℕ → ℕ → List Item
parens p n cast = if is_atom p n then [] else bare n form.Paren (Some cast) None ∷ []

-- what the row then stands in
abbrev pub parens_over : Rows → ℕ → ℕ → ℕ → Option ℕ
parens_over p n cast at = if is_atom p n then Some cast else Some at
