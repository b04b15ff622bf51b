-- The trees of the prelude are such as the grammar has, and not deep.
use Rattle.std.proofs.Common.{ℕ, ◌<◌, ◌≤◌, List, [], ◌∷◌, map, refl, arith}
use Rattle.std.specs.List.{AllByRecursion}
use Rattle.jr_tree.specs.Shape.{IsShapedDecl, IsShapedUnit}
use Rattle.jr_tree.specs.Depth.{unit_depth}
use Rattle.jr_defs.specs.Prelude.{exceptions}
use Rattle.jr_prelude.specs.Io.{print_stream_class, io_unit}
use Rattle.jr_prelude.specs.Lang.{object_class, string_class, system_class, throwable_class, thrown_class, lang_unit}

-- a place that takes any expression
any : (n : ℕ) → 0 ≤ n
any n = omega arith

-- the levels of this == o
bound : (0 < 7) × (7 ≤ 14) × (8 ≤ 14)
bound = (omega arith, omega arith, omega arith)

object_shaped : IsShapedDecl object_class
object_shaped = search (any, bound.0, bound.1, bound.2)

string_shaped : IsShapedDecl string_class
string_shaped = search (any)

system_shaped : IsShapedDecl system_class
system_shaped = search (any)

throwable_shaped : IsShapedDecl throwable_class
throwable_shaped = search (any)

thrown_shaped : (c : List ℕ × List ℕ) → IsShapedDecl (thrown_class c)
thrown_shaped c = search (any)

all_thrown_shaped : (cs : List (List ℕ × List ℕ)) → AllByRecursion IsShapedDecl (map thrown_class cs)
all_thrown_shaped [] = tt
all_thrown_shaped (c ∷ cs) = (thrown_shaped c, all_thrown_shaped cs)

pub lang_shaped : IsShapedUnit lang_unit
lang_shaped = (refl, tt, (object_shaped, (string_shaped, (system_shaped, (throwable_shaped, all_thrown_shaped exceptions)))))

pub lang_shallow : unit_depth lang_unit ≤ 256
lang_shallow = omega arith

-- ---- java.io

print_stream_shaped : IsShapedDecl print_stream_class
print_stream_shaped = search (any, sum.0, sum.1, sum.2, sum.3)
  where
    sum : (0 < 10) × (10 ≤ 10) × (10 ≤ 14) × (11 ≤ 14)
    sum = (omega arith, omega arith, omega arith, omega arith)

pub io_shaped : IsShapedUnit io_unit
io_shaped = (refl, tt, (print_stream_shaped, tt))

pub io_shallow : unit_depth io_unit ≤ 256
io_shallow = omega arith
