-- Rule 21, computed: static members and initializers of inner classes (JLS 8.1.3).
use Rattle.std.specs.Prelude.{ℕ, Bool, false, not, ◌&&◌, ◌||◌, is_some}
use Rattle.std.specs.Option.{option_map_or}
use Rattle.jr_tree.specs.declared.label.Label.{Label}
use Rattle.jr_tree.specs.declared.label.Label.TheVariants as is
use Rattle.jr_tree.specs.Rows.{Rows, label}
use Rattle.jr_defs.specs.Referents.{Table}
use Rattle.jr_plain.specs.Enclosing.{declaring_type}
use Rattle.jr_plain.specs.Modifiers.{is_static, is_inner}
use Rattle.jr_plain.specs.Conversions.{Constants}
use Rattle.jr_plain.specs.Constants.{variable_value}
use Rattle.jr_member_rules.specs.Bodies.{body_type}

-- a static member of an inner class that is no constant variable
abbrev pub is_static_in_inner : Rows → Table → Constants → ℕ → Bool
is_static_in_inner p t constant d = option_map_or (is_inner p) (declaring_type p d) false && is_static p d && not (is_some (variable_value p t constant d))

-- a static initializer block
abbrev pub is_static_initializer : Label → Bool
is_static_initializer (is.Initializer is_static) = is_static
is_static_initializer _ = false

-- a static initializer of an inner class
abbrev pub is_initializer_in_inner : Rows → ℕ → Bool
is_initializer_in_inner p k = is_static_initializer (label p k) && option_map_or (is_inner p) (body_type p k) false

-- one of the tests of rule 21 finds the row
abbrev pub is_static_there : Rows → Table → Constants → ℕ → Bool
is_static_there p t constant n = is_static_in_inner p t constant n || is_initializer_in_inner p n
