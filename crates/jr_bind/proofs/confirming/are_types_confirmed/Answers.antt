use Rattle.std.proofs.Common.{◌≡◌, ◌<◌, ℕ, true, sym, subst, arith}
use Rattle.std.proofs.lemmas.Result.{IfOk-weaker}
use Rattle.jr_bind.specs.Confirmed.{IsTypeBoundAt, AreTypesBound}
use Rattle.jr_bind.proofs.Confirmed.{can_see_to}
use Rattle.jr_bind.proofs.confirming.are_types_confirmed.Goals as goal

pub returns : goal.returns
returns c = λ can. let x = c.in-Ok.ensures in IfOk-weaker c.are_types_bound.result
    (λ are. are ≡ true → (n : ℕ) → n < c.in-Ok.end → IsTypeBoundAt c.args.sight n)
    (λ are. are ≡ true → AreTypesBound c.args.sight)
    (λ are told yes n lt. told yes n (subst (λ m. n < m) (sym x.1) lt))
    (c.are_types_bound.ensures (can_see_to c.args.sight c.in-Ok.end can (let e = x.1 in omega (arith, e))))
