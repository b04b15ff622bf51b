-- Where locals and parameters of a program stand, and what stands below a `try`.
use Rattle.std.specs.Prelude.{◌≡◌, ℕ, ◌+◌, ◌<◌, Bool, List}
use Rattle.std.specs.List.{AllByRecursion}
use Rattle.jr_tree.specs.declared.tree.Unit as declared_unit
use Rattle.jr_tree.specs.Shape.{IsShaped}
use Rattle.jr_tree.specs.declared.label.Label.TheVariants as is
use Rattle.jr_tree.specs.Rows.{label, end, program_rows}
use Rattle.jr_lookup.specs.Locals.{AreLocalsPlaced}

-- the law
abbrev pub EachProgramPlacesLocals : Type 0
EachProgramPlacesLocals = (units : List declared_unit.Unit) → AllByRecursion IsShaped units → AreLocalsPlaced (program_rows units)

-- the law: a `try` has its block below it (JLS 14.20)
abbrev pub EachTryHasABlock : Type 0
EachTryHasABlock = (units : List declared_unit.Unit) → AllByRecursion IsShaped units → (n : ℕ) (has_finally : Bool) → label (program_rows units) n ≡ is.Try has_finally → n + 1 < end (program_rows units) n
