-- Rows that do nothing themselves: their course is that of what stands behind them.
use Rattle.std.specs.Prelude.{Bool, true, false}
use Rattle.jr_tree.specs.declared.label.Label.{Label}
use Rattle.jr_tree.specs.declared.label.Label.TheVariants as is

-- a statement, a body, or a part of a statement that may end otherwise than it began
abbrev pub has_course : Label → Bool
has_course is.Block = true
has_course is.Nest = true
has_course is.Group = true
has_course is.Catch = true
has_course (is.Method modifiers is_void has_body) = true
has_course (is.Initializer is_static) = true
has_course is.Labeled = true
has_course is.If = true
has_course is.While = true
has_course (is.For has_first has_condition) = true
has_course is.Do = true
has_course is.Switch = true
has_course (is.Break has_label) = true
has_course (is.Continue has_label) = true
has_course is.Return = true
has_course is.Throw = true
has_course (is.Try has_finally) = true
has_course _ = false
