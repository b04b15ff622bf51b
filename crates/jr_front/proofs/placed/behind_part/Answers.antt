use Rattle.std.proofs.Common.{Some, None, [], ◌∷◌}
use Rattle.std.proofs.lemmas.Bool.Decides.{Decides-eqb}
use Rattle.std.proofs.lemmas.Slice.Eq.{strip_prefix_is}
use Rattle.jr_front.proofs.Placing.{none_then, behind_slash}
use Rattle.jr_front.proofs.placed.behind_part.Goals as goal

pub returns-in_err-behind : goal.returns-in_err-behind
returns-in_err-behind c = none_then _ c.from_residual.result c.from_residual.ensures (λ rest. strip_prefix_is Decides-eqb c.args.path.now c.args.part.now None c.in_err-behind.ensures.cases (47 ∷ rest))

pub returns : goal.returns
returns c = behind_slash c.args.path.now c.args.part.now c.in_ok-behind.behind.now c.strip_prefix-2.result (strip_prefix_is Decides-eqb c.args.path.now c.args.part.now (Some c.in_ok-behind.behind) c.in_ok-behind.ensures.cases)
    (strip_prefix_is Decides-eqb c.in_ok-behind.behind.now (47 ∷ []) c.strip_prefix-2.result c.strip_prefix-2.ensures.cases)
