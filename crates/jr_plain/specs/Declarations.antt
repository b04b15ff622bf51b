-- What rows declare, and which rows refer, as tests (JLS 6.1, 6.5).
use Rattle.std.specs.Prelude.{ℕ, Bool, true, false, not, ◌&&◌, codes, List, length, nat_eq, bytes_eq}
use Rattle.jr_base.specs.declared.text.Text.{Text}
use Rattle.jr_tree.specs.declared.label.Label.{Label}
use Rattle.jr_tree.specs.declared.label.Label.TheVariants as is
use Rattle.jr_tree.specs.declared.label.NamePlace.TheVariants as place
use Rattle.jr_tree.specs.declared.label.Role.{Role}
use Rattle.jr_tree.specs.declared.label.Role.TheVariants as role
use Rattle.jr_tree.specs.declared.label.Sought.{Sought}
use Rattle.jr_tree.specs.declared.label.Sought.TheVariants as sought
use Rattle.jr_tree.specs.Rows.{Rows, label, name, parent, role_at, sought_at}
use Rattle.jr_defs.specs.declared.referent.Space.{Space}
use Rattle.jr_defs.specs.declared.referent.Space.TheVariants as space
use Rattle.jr_defs.specs.declared.referent.Referent.{Referent}
use Rattle.jr_defs.specs.declared.referent.Referent.TheVariants.{Package, Declared}
use Rattle.jr_defs.specs.Referents.{Table}
use Rattle.jr_plain.specs.Search.{all_such}
use Rattle.jr_plain.specs.Same.{same_role}

abbrev pub is_of : Space → Role → Bool
is_of space.Type role.Type = true
is_of space.Variable role.Field = true
is_of space.Variable role.Parameter = true
is_of space.Variable role.Local = true
is_of space.Method role.Method = true
is_of space.Label role.Label = true
is_of _ _ = false

-- the row declares this name, of this kind
abbrev pub declares : Rows → Space → Text → ℕ → Bool
declares p kind x d = is_of kind (role_at p d) && bytes_eq (name p d) x

abbrev pub is_type : Rows → ℕ → Bool
is_type p c = same_role (role_at p c) role.Type

-- the types of the program
abbrev pub types : Rows → List ℕ
types p = all_such (length p) (λ c. is_type p c)

abbrev pub is_class_label : Label → Bool
is_class_label (is.Class modifiers is_member) = true
is_class_label _ = false

abbrev pub is_interface_label : Label → Bool
is_interface_label (is.Interface modifiers is_member) = true
is_interface_label _ = false

abbrev pub is_class : Rows → ℕ → Bool
is_class p c = is_class_label (label p c)

abbrev pub is_interface : Rows → ℕ → Bool
is_interface p c = is_interface_label (label p c)

abbrev pub is_variable : Rows → ℕ → Bool
is_variable p d = is_of space.Variable (role_at p d)

-- a type of java.lang that the first unit of the prelude declares; that unit is row 1
abbrev pub is_prelude : Rows → Text → ℕ → Bool
is_prelude p x c = is_type p c && nat_eq (parent p c) 1 && bytes_eq (name p c) x

abbrev pub is_object : Rows → ℕ → Bool
is_object p c = is_prelude p (codes "Object") c

abbrev pub is_string : Rows → ℕ → Bool
is_string p c = is_prelude p (codes "String") c

abbrev pub is_nothing : Sought → Bool
is_nothing sought.Nothing = true
is_nothing _ = false

abbrev pub is_implicit_call : Label → Bool
is_implicit_call is.ImplicitCall = true
is_implicit_call _ = false

-- a row that refers: it looks for something, and is not the call of super() that Object does without
abbrev pub is_occurrence : Rows → ℕ → Bool
is_occurrence p o = not (is_nothing (sought_at p o)) && not (is_implicit_call (label p o) && is_object p (parent p (parent p (parent p o))))

-- an identifier before a dot of a name, or the last one before the dot of a call
abbrev pub is_before_dot : Label → Bool
is_before_dot (is.Name kind place.Qualifier is_qualified) = true
is_before_dot (is.Name kind place.Receiver is_qualified) = true
is_before_dot _ = false

abbrev pub is_package_or_type : Rows → Referent → Bool
is_package_or_type p Package = true
is_package_or_type p (Declared d level) = is_type p d
is_package_or_type p _ = false

-- what stands before a dot and is a package or a type is part of a longer reference
abbrev pub is_part : Rows → Table → ℕ → Bool
is_part p t o = is_before_dot (label p o) && is_package_or_type p (t o)

-- a reference, by its last identifier: an occurrence that is no part of a longer one
abbrev pub is_reference : Rows → Table → ℕ → Bool
is_reference p t o = is_occurrence p o && not (is_part p t o)
