-- Rule 11, computed: an instance member, `this`, `super` or an inner class where there is no object (JLS 6.5.6, 8.8.7.1, 15.8.3, 15.8.4, 15.9.2, 15.11.2, 15.12.3).
use Rattle.std.specs.Prelude.{ℕ, Bool, true, false, not, ◌&&◌, ◌||◌, if◌then◌else◌, Option, Some, None, is_some}
use Rattle.jr_tree.specs.declared.label.Label.{Label}
use Rattle.jr_tree.specs.declared.label.Label.TheVariants as is
use Rattle.jr_tree.specs.declared.label.ReceiverKind.TheVariants as on
use Rattle.jr_tree.specs.declared.label.Role.{Role}
use Rattle.jr_tree.specs.declared.label.Role.TheVariants as role
use Rattle.jr_tree.specs.declared.label.Sought.{Sought}
use Rattle.jr_tree.specs.declared.label.Sought.TheVariants as sought
use Rattle.jr_tree.specs.Rows.{Rows, label, role_at, sought_at}
use Rattle.jr_defs.specs.declared.referent.Referent.{Referent}
use Rattle.jr_defs.specs.declared.referent.Referent.TheVariants.{Declared}
use Rattle.jr_defs.specs.Referents.{Table}
use Rattle.jr_plain.specs.Enclosing.{innermost}
use Rattle.jr_plain.specs.Modifiers.{is_static}
use Rattle.jr_plain.specs.Instances.{is_in_constructor_call, is_innermost, has_instance}
use Rattle.jr_plain.specs.Types.{named_type}
use Rattle.jr_rules.specs.TypedTests.{declared_row, found}

abbrev pub is_field_or_method : Role → Bool
is_field_or_method role.Field = true
is_field_or_method role.Method = true
is_field_or_method _ = false

-- a field or method of objects
abbrev pub is_instance_member : Rows → ℕ → Bool
is_instance_member p d = is_field_or_method (role_at p d) && not (is_static p d)

-- the class of which `this`, `T.this` or `super` needs an object
abbrev pub object_of : Rows → Table → ℕ → Label → Option ℕ
object_of p t o (is.This false) = innermost p o
object_of p t o (is.This true) = named_type p t o
object_of p t o is.SuperSelect = innermost p o
object_of p t o (is.Call on.Super) = innermost p o
object_of p t o _ = None

-- the class of which an instance member without receiver needs an object
abbrev pub object_of_member : Rows → Referent → Option ℕ
object_of_member p (Declared d (Some c)) = if is_instance_member p d then Some c else None
object_of_member p _ = None

-- the class of which an object stands round one that is created
abbrev pub object_round : Referent → Option ℕ
object_round (Declared k (Some c)) = Some c
object_round _ = None

abbrev pub is_new : Label → Bool
is_new is.New = true
is_new _ = false

-- there is an object of the class, and it is not the one whose constructor is being called
abbrev pub may_use : Rows → ℕ → ℕ → Bool
may_use p o c = has_instance p o c && not (is_in_constructor_call p o && is_innermost p o c)

abbrev pub may_not_use : Rows → ℕ → Option ℕ → Bool
may_not_use p o needed = found needed (λ c. not (may_use p o c))

abbrev pub is_behind_dot : Sought → Bool
is_behind_dot (sought.Qualified kind) = true
is_behind_dot sought.FieldOf = true
is_behind_dot sought.MethodOf = true
is_behind_dot _ = false

-- an instance member behind the name of a type
abbrev pub is_behind_type : Rows → Table → ℕ → Bool
is_behind_type p t o = is_behind_dot (sought_at p o) && is_some (named_type p t o) && found (declared_row (t o)) (λ d. is_instance_member p d)

-- the object that the place needs may not be used, or an instance member stands behind the name of a type
abbrev pub lacks_object : Rows → Table → ℕ → Bool
lacks_object p t o = may_not_use p o (object_of p t o (label p o)) || (may_not_use p o (object_of_member p (t o))
    || ((is_new (label p o) && may_not_use p o (object_round (t o))) || is_behind_type p t o))
