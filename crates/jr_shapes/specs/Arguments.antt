-- The arguments of a call or creation, by rows (JLS 15.12, 15.9, 8.8.7.1).
use Rattle.std.specs.Prelude.{ℕ, ◌+◌, if◌then◌else◌, Option, Some, None, nat_lt}
use Rattle.jr_tree.specs.declared.label.Label.{Label}
use Rattle.jr_tree.specs.declared.label.Label.TheVariants as is
use Rattle.jr_tree.specs.declared.label.ReceiverKind.{ReceiverKind}
use Rattle.jr_tree.specs.Rows.{Rows, label}
use Rattle.jr_shapes.specs.declared.parts.Before.{Before}
use Rattle.jr_shapes.specs.declared.parts.Before.TheVariants.{Nothing}
use Rattle.jr_shapes.specs.Parts.{end_of, before_call}

abbrev pub behind : Before → Rows → ℕ → ℕ
behind Nothing p n = n
behind _ p n = end_of p n

abbrev pub argument_of_call : Rows → ℕ → ReceiverKind → ℕ
argument_of_call p n receiver = behind (before_call receiver) p (n + 1)

-- where the first argument stands, if there is one
abbrev pub argument_place : Rows → ℕ → Label → ℕ
argument_place p n (is.Call receiver) = argument_of_call p n receiver
argument_place p n is.New = end_of p (n + 1)
argument_place p n (is.ConstructorCall which) = n + 1
argument_place p n _ = end_of p n

abbrev pub within : Rows → ℕ → ℕ → Option ℕ
within p n k = if nat_lt k (end_of p n) then Some k else None

abbrev pub first_argument : Rows → ℕ → Option ℕ
first_argument p n = within p n (argument_place p n (label p n))

-- the next one stands where the one before it ends
abbrev pub argument_after : Rows → ℕ → ℕ → Option ℕ
argument_after p n k = if nat_lt k (end_of p k) then within p n (end_of p k) else None
