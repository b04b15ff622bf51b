use Rattle.std.proofs.Common.{sym, ap, ◌||◌}
use Rattle.std.proofs.lemmas.Result.{IfOk-weaker}
use Rattle.std.proofs.lemmas.Bool.{ne_eqb, eq-eqb}
use Rattle.jr_plain.specs.Overloads.{is_earlier}
use Rattle.jr_lookup.proofs.Ordering.{before_is}
use Rattle.jr_lookup.proofs.choice.is_before.Goals as goal

pub returns-then-one-other : goal.returns-then-one-other
returns-then-one-other c = λ t h. ap (λ b. b || is_earlier c.args.world.under.rows.now t c.args.over c.args.one c.args.other) (sym (eq-eqb c.args.one c.args.other c.if-one-other.true))

pub returns : goal.returns
returns c = λ t h. IfOk-weaker c.is_earlier.result _ _ (λ is tells. before_is c.args.world.under.rows.now t h.seen.above.well.headed c.args.over c.args.one c.args.other is tells (ne_eqb c.args.one c.args.other c.if-one-other.false)) (c.is_earlier.ensures t h)
