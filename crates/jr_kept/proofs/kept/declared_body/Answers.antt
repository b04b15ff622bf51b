use Rattle.std.proofs.Common.{sym, ◌∙◌}
use Rattle.std.proofs.lemmas.Bool.{false≢true}
use Rattle.std.proofs.lemmas.Result.{IfOk-weaker}
use Rattle.jr_kept.proofs.Rounding.{round_declared}
use Rattle.jr_kept.proofs.kept.declared_body.Goals as goal

pub returns-then-not-is_declaration-clause-none : goal.returns-then-not-is_declaration-clause-none
returns-then-not-is_declaration-clause-none c = λ few none same. absurd (false≢true (sym c.if-not-is_declaration.true ∙ c.is_declaration.ensures.1 same))

pub returns-clause-round : goal.returns-clause-round
returns-clause-round c = λ few. IfOk-weaker c.body_round.result _ _ (λ found round. round_declared c.args.rows.now c.args.local c.args.statement found (c.is_declaration.ensures.0 c.if-not-is_declaration.false) round) (c.body_round.ensures.round few)

pub returns-clause-none : goal.returns-clause-none
returns-clause-none c = λ few. IfOk-weaker c.body_round.result _ _ (λ found no none same. no none) (c.body_round.ensures.none few)
