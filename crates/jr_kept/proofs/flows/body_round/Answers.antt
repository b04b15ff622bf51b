use Rattle.std.proofs.Common.{sym, ◌∙◌, subst}
use Rattle.jr_kept.specs.Courses.{AreBodies}
use Rattle.jr_kept.proofs.Rounding.{bodies_are}
use Rattle.jr_kept.proofs.flows.body_round.Goals as goal

pub returns-clause-round : goal.returns-clause-round
returns-clause-round c = λ few. c.body_among.ensures.round few (subst (AreBodies c.args.rows.now) (sym (c.deref.ensures.value ∙ c.in_ok-all.ensures)) (bodies_are c.args.rows.now))

pub returns-clause-none : goal.returns-clause-none
returns-clause-none c = λ few. c.body_among.ensures.none few (subst (AreBodies c.args.rows.now) (sym (c.deref.ensures.value ∙ c.in_ok-all.ensures)) (bodies_are c.args.rows.now))
