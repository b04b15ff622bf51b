-- Whether two roles, levels, types or referents are one.
use Rattle.std.specs.Prelude.{ℕ, Bool, true, false, ◌&&◌, List, Option, nat_eq, bytes_eq}
use Rattle.std.specs.Option.{option_eq}
use Rattle.std.specs.Cmp.Lexicographic.{pointwise}
use Rattle.jr_base.specs.declared.text.Text.{Text}
use Rattle.jr_tree.specs.declared.label.Role.{Role}
use Rattle.jr_tree.specs.declared.label.Role.TheVariants as role
use Rattle.jr_defs.specs.declared.referent.Element.{Element}
use Rattle.jr_defs.specs.declared.referent.Element.TheVariants as element
use Rattle.jr_defs.specs.declared.referent.RowType.{RowType}
use Rattle.jr_defs.specs.declared.referent.Referent.{Referent}
use Rattle.jr_defs.specs.declared.referent.Referent.TheVariants.{Unbound, Ambiguous, ArrayLength, Package, Declared}

abbrev pub same_role : Role → Role → Bool
same_role role.Nothing role.Nothing = true
same_role role.Type role.Type = true
same_role role.Field role.Field = true
same_role role.Method role.Method = true
same_role role.Constructor role.Constructor = true
same_role role.Parameter role.Parameter = true
same_role role.Local role.Local = true
same_role role.Label role.Label = true
same_role _ _ = false

-- the names of packages
abbrev pub same_path : List Text → List Text → Bool
same_path = pointwise bytes_eq

abbrev pub same_level : Option ℕ → Option ℕ → Bool
same_level = option_eq nat_eq

-- pairs of rows
abbrev pub same_pair : ℕ × ℕ → ℕ × ℕ → Bool
same_pair a b = nat_eq a.0 b.0 && nat_eq a.1 b.1

-- declarations with the levels through which they are found
abbrev pub same_candidate : ℕ × Option ℕ → ℕ × Option ℕ → Bool
same_candidate a b = nat_eq a.0 b.0 && same_level a.1 b.1

abbrev pub same_element : Element → Element → Bool
same_element element.Boolean element.Boolean = true
same_element element.Byte element.Byte = true
same_element element.Short element.Short = true
same_element element.Char element.Char = true
same_element element.Int element.Int = true
same_element element.Long element.Long = true
same_element element.Null element.Null = true
same_element element.Void element.Void = true
same_element (element.Class c) (element.Class d) = nat_eq c d
same_element _ _ = false

abbrev pub same_type : RowType → RowType → Bool
same_type a b = same_element a.element b.element && nat_eq a.dims b.dims

abbrev pub same_types : List RowType → List RowType → Bool
same_types = pointwise same_type

abbrev pub same_referent : Referent → Referent → Bool
same_referent Unbound Unbound = true
same_referent Ambiguous Ambiguous = true
same_referent ArrayLength ArrayLength = true
same_referent Package Package = true
same_referent (Declared c level) (Declared d other) = nat_eq c d && same_level level other
same_referent _ _ = false
