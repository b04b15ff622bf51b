use Rattle.std.proofs.Common.{◌≡◌, sym, ◌∙◌, subst, Some, IfSome}
use Rattle.std.proofs.lemmas.Result.{err_from_is_err_and}
use Rattle.jr_flow_defs.specs.Meaning.{declared}
use Rattle.jr_kept.specs.Started.{ActsAtStart}
use Rattle.jr_kept.proofs.starting.lost_initialization.Goals as goal

pub returns-in-Some-first_use-clause-leaves : goal.returns-in-Some-first_use-clause-leaves
returns-in-Some-first_use-clause-leaves c = λ m seen. let p = c.args.old.now.marks.rows.now in record {
  static = sym c.is_static.ensures ∙ c.if-not-is_static.false;
  acts = subst (λ o. IfSome o (λ row. ActsAtStart p m c.args.raised.from)) c.in-Some.is (c.in_ok-first.ensures.acts m seen);
  used_at = c.in-Some-first_use.second;
  uses = subst (λ o. IfSome o (λ row. declared (m.targets row) ≡ Some c.args.raised.method.first)) c.in-Some-first_use.is (c.first_use.ensures m seen);
}

pub returns-in_err-first-clause-large : goal.returns-in_err-first-clause-large
returns-in_err-first-clause-large c = λ m seen. let q = err_from_is_err_and c.from_residual.result c.from_residual.ensures.1 in rw (q.1, q.2) (c.in_err-first.ensures.large m seen)
