-- The order of declarations by their numbers, and maps by declarations.
use Rattle.std.specs.Prelude.{◌≡◌, Option}
use Rattle.std.specs.Option.{option_map}
use Rattle.std.specs.Ordering.{nat_cmp, ordering_then}
use Rattle.std.specs.declared.cmp.Ordering.{Ordering}
use Rattle.std.specs.BTreeMap.{BTreeMap, get}
use Rattle.jr_base.specs.declared.ids.DeclId.{DeclId}
use Rattle.jr_base.specs.declared.ids.TypeId.{TypeId}

-- by the unit, then by the node, then by the part
abbrev pub decl_cmp : DeclId → DeclId → Ordering
decl_cmp a b = ordering_then (ordering_then (nat_cmp a.at.cu.0 b.at.cu.0) (nat_cmp a.at.node.0 b.at.node.0)) (nat_cmp a.part b.part)

-- the map has for each declaration what a look-up finds, in another form
abbrev pub IsIndex : {X Y : Type 0} → BTreeMap DeclId X → (X → Y) → (DeclId → Option Y) → Type 0
IsIndex m form find = (decl : DeclId) → option_map form (get decl_cmp m decl) ≡ find decl

-- the class or interface that this declaration declares
abbrev pub class_of_decl : DeclId → TypeId
class_of_decl decl = record { 0 = decl }
