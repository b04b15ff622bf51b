use Rattle.std.proofs.Common.{◌≡◌, ◌++◌, drop, length, flat_map}
use Rattle.jr_tree.specs.Rows.{Rows}
use Rattle.jr_members.specs.declared.declared.MemberKind.{MemberKind}
use Rattle.jr_members.specs.Keys.{AreDeclared, falling, is_declared_by}
use Rattle.jr_members.proofs.declared.Declared.by_types.Given as goal

abbrev pub invariant-loop-over : goal.invariant-loop-over
invariant-loop-over l = (p : Rows) (kind : MemberKind) → AreDeclared p kind l.self
    → l.all.items ++ flat_map (λ c. falling (length p) (is_declared_by p kind c)) (drop l.over-index l.types) ≡ flat_map (λ c. falling (length p) (is_declared_by p kind c)) l.types
