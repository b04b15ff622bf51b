-- Rule 10, computed: what is not accessible (JLS 6.6).
use Rattle.std.specs.Prelude.{ℕ, ◌+◌, Bool, true, false, not, ◌&&◌, ◌||◌, if◌then◌else◌, List, [], ◌∷◌, flat_map, Option, Some, None, nat_eq}
use Rattle.std.specs.List.{list_any}
use Rattle.jr_tree.specs.declared.label.Sought.{Sought}
use Rattle.jr_tree.specs.declared.label.Sought.TheVariants as sought
use Rattle.jr_tree.specs.Rows.{Rows, parent, sought_at}
use Rattle.jr_defs.specs.declared.referent.Element.{Element}
use Rattle.jr_defs.specs.declared.referent.Element.TheVariants as element
use Rattle.jr_defs.specs.declared.referent.RowType.{RowType}
use Rattle.jr_defs.specs.Referents.{Table}
use Rattle.jr_plain.specs.Lists.{or_else}
use Rattle.jr_plain.specs.Declarations.{is_occurrence}
use Rattle.jr_plain.specs.Access.{is_accessible}
use Rattle.jr_plain.specs.Overloads.{Types}
use Rattle.jr_plain.specs.Lookup.{receivers}
use Rattle.jr_name_rules.specs.Found.{declared_row, found}

-- what is sought behind a dot
abbrev pub is_behind_dot : Sought → Bool
is_behind_dot (sought.Qualified kind) = true
is_behind_dot sought.FieldOf = true
is_behind_dot sought.MethodOf = true
is_behind_dot _ = false

-- the types of the receivers of the occurrence
abbrev pub receiver_types : Rows → Table → Types → ℕ → List (Option RowType)
receiver_types p t type_of o = let types = flat_map (λ r. r.1 ∷ []) (receivers p t type_of o) in if is_behind_dot (sought_at p o) then types else []

-- the types of what the occurrence is reached through, or none without a receiver
abbrev pub reached_through : Rows → Table → Types → ℕ → List (Option RowType)
reached_through p t type_of o = or_else (receiver_types p t type_of o) (None ∷ [])

-- the class of an element type
abbrev pub class_of : Element → Option ℕ
class_of (element.Class c) = Some c
class_of _ = None

-- the class of values or of arrays of this type is not accessible at the place
abbrev pub has_hidden_class : Rows → Table → ℕ → RowType → Bool
has_hidden_class p t o a = found (class_of a.element) (λ c. not (is_accessible p t c o None))

-- what stands before the dot is a value of such a type
abbrev pub is_of_hidden_type : Rows → Table → Types → ℕ → Bool
is_of_hidden_type p t type_of o = let rest = found (type_of (o + 1)) (λ a. has_hidden_class p t o a) in is_behind_dot (sought_at p o) && (nat_eq (parent p (o + 1)) o && rest)

-- what the occurrence refers to is not accessible
abbrev pub is_target_hidden : Rows → Table → Types → ℕ → Bool
is_target_hidden p t type_of o = found (declared_row (t o)) (λ d. list_any (λ through. not (is_accessible p t d o through)) (reached_through p t type_of o))

-- rule 10: that, or no member of what stands before the dot is
abbrev pub is_not_accessible : Rows → Table → Types → ℕ → Bool
is_not_accessible p t type_of o = let hidden = is_target_hidden p t type_of o || is_of_hidden_type p t type_of o in is_occurrence p o && hidden
