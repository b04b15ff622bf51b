-- Casts between types by those of their items (JLS 5.5).
use Rattle.std.specs.Prelude.{Bool, ◌-◌, ◌&&◌, ◌||◌, nat_eq}
use Rattle.jr_tree.specs.Rows.{Rows}
use Rattle.jr_defs.specs.declared.referent.Element.{Element}
use Rattle.jr_defs.specs.declared.referent.RowType.{RowType}
use Rattle.jr_defs.specs.Referents.{Table}
use Rattle.jr_defs.specs.Types.{array}
use Rattle.jr_plain.specs.Supertypes.{is_reference_type}
use Rattle.jr_plain.specs.Conversions.{is_numeric, is_boolean, is_castable_class, is_related}

-- a cast between plain types, but for subtypes
abbrev pub is_castable_plain : Rows → Element → Element → Bool
is_castable_plain p a b = (is_numeric a && is_numeric b) || (is_boolean a && is_boolean b) || is_castable_class p a b

-- a cast where one of the types has no items
abbrev pub is_castable_end : Rows → Table → RowType → RowType → Bool
is_castable_end p t a b = (nat_eq a.dims 0 && nat_eq b.dims 0 && is_castable_plain p a.element b.element) || is_related p t a b

-- the type of the items of an array
abbrev pub item : RowType → RowType
item a = array a.element (a.dims - 1)

-- a cast between array types, where it is told of their items
abbrev pub is_castable_over : Rows → Table → RowType → RowType → Bool → Bool
is_castable_over p t a b inner = (is_reference_type (item a) && is_reference_type (item b) && inner) || is_related p t a b
