use Rattle.std.proofs.Common.{inl, ◌∷◌, []}
use Rattle.std.proofs.lemmas.Result.{on_ok_weaker}
use Rattle.jr_kept.specs.Carried.{IsOf, IsOtherOf}
use Rattle.jr_kept.proofs.Leaving.{defines_like, other_of}
use Rattle.jr_kept.proofs.carried.put_other.Goals as goal

pub returns-then-value-copy-clause-only : goal.returns-then-value-copy-clause-only
returns-then-value-copy-clause-only c = λ i j t h. inl h

pub returns-clause-only : goal.returns-clause-only
returns-clause-only c = let v = c.args.value in let copy = c.args.copy in
    on_ok_weaker c.put_definition.result (λ only. defines_like c.args.made.now c.put_definition.new.made c.args.hub (IsOf v.row copy) (IsOtherOf v (copy ∷ [])) (λ r l is. other_of v copy r l c.if-value-copy.false is) only) c.put_definition.ensures.only
