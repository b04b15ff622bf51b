-- Rows at which a rule of a group may be broken, by what they are and stand in.
use Rattle.std.specs.Prelude.{ℕ, Bool, true, false, ◌&&◌, ◌||◌}
use Rattle.jr_tree.specs.declared.label.Label.{Label}
use Rattle.jr_tree.specs.declared.label.Label.TheVariants as is
use Rattle.jr_tree.specs.Rows.{Rows, label, parent, role_at}
use Rattle.jr_defs.specs.Referents.{Table}
use Rattle.jr_rules.specs.ObjectTests.{is_field_or_method}
use Rattle.jr_rules.specs.StatementTests.{is_catch, is_method_or_constructor, is_other_name}
use Rattle.jr_rules.specs.TypedTests.{declared_row, found}

-- ---- rules 11, 12, 22 and 23

-- whatever the row refers to
abbrev pub needs_object : Label → Bool
needs_object (is.This is_qualified) = true
needs_object is.SuperSelect = true
needs_object (is.Call receiver) = true
needs_object is.New = true
needs_object is.Throw = true
needs_object (is.Constructor modifiers) = true
needs_object is.DefaultConstructor = true
needs_object _ = false

-- n refers to a field or method
abbrev pub refers_to_member : Rows → Table → ℕ → Bool
refers_to_member p t n = found (declared_row (t n)) (λ d. is_field_or_method (role_at p d))

-- n names a class that a method or constructor declares as thrown
abbrev pub is_declared_class : Rows → ℕ → Bool
is_declared_class p n = is_method_or_constructor (role_at p (parent p n)) && is_other_name (label p n)

abbrev pub may_break_contexts : Rows → Table → ℕ → Bool
may_break_contexts p t n = needs_object (label p n) || (is_catch (label p (parent p n)) || (refers_to_member p t n || is_declared_class p n))

-- ---- rules 24 to 28

abbrev pub is_operator : Label → Bool
is_operator (is.Assign op) = true
is_operator is.Conditional = true
is_operator (is.Binary op) = true
is_operator is.IsA = true
is_operator (is.Unary op) = true
is_operator is.Cast = true
is_operator (is.PreStep op) = true
is_operator (is.PostStep op) = true
is_operator _ = false

-- a value, a variable or a condition stands right below it
abbrev pub holds_value : Label → Bool
holds_value is.Value = true
holds_value is.Do = true
holds_value is.While = true
holds_value is.If = true
holds_value (is.For has_first has_condition) = true
holds_value (is.Assign op) = true
holds_value is.Conditional = true
holds_value (is.PreStep op) = true
holds_value (is.PostStep op) = true
holds_value _ = false

abbrev pub may_break_values : Rows → ℕ → Bool
may_break_values p n = is_operator (label p n) || holds_value (label p (parent p n))

-- ---- rules 29 to 33 and 35

abbrev pub uses_value : Label → Bool
uses_value is.List = true
uses_value is.Switch = true
uses_value is.Case = true
uses_value is.Default = true
uses_value is.Return = true
uses_value is.Conditional = true
uses_value (is.Call receiver) = true
uses_value is.New = true
uses_value _ = false

-- an array, an index or a length stands right below it
abbrev pub holds_index : Label → Bool
holds_index is.Index = true
holds_index (is.NewArray base lengths more) = true
holds_index _ = false

abbrev pub may_break_uses : Rows → ℕ → Bool
may_break_uses p n = uses_value (label p n) || holds_index (label p (parent p n))
