use Rattle.std.proofs.Common.{◌≡◌, sym, subst, arith, length, ℕ, true}
use Rattle.jr_plain.specs.Search.{has}
use Rattle.jr_bind.proofs.RowByRow.{some_of}
use Rattle.jr_bind.proofs.Ranked.{not_empty}
use Rattle.jr_bind.proofs.edges.has_edge.Goals as goal

pub returns : goal.returns
returns c = λ yes. let some = some_of c.in_ok-next.next.items (not_empty c.is_empty.result c.in_ok-next.next.len (length c.in_ok-next.next.items) c.is_empty.ensures (omega (arith, c.in_ok-next.next.ok.0)) yes) in
    (some.0, subst (λ all. has all some.0 ≡ true) c.in_ok-next.ensures some.1)
