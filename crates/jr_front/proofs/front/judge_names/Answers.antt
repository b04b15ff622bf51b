use Rattle.std.proofs.Common.{sym, subst, List}
use Rattle.jr_rule.specs.declared.Fault.{Fault}
use Rattle.jr_front.specs.Tested.{AreClashes}
use Rattle.jr_front.proofs.Refused.{first_clash, no_clash, program_is_headed}
use Rattle.jr_front.proofs.front.judge_names.Goals as goal

pub returns-in-Some-clause-err : goal.returns-in-Some-clause-err
returns-in-Some-clause-err c = λ ordered is placed. first_clash c.args.marks.now c.deref.result.now (c.in-Some.field-0-0, c.in-Some.place) placed.local (program_is_headed c.args.marks.now.rows.now is)
    (subst (λ (l : List Fault). AreClashes c.args.marks.now.rows.now l) (sym c.deref.ensures.value) (c.in_ok-faults.ensures placed)) (c.in-Some.ensures.first ordered)

pub returns-clause-names : goal.returns-clause-names
returns-clause-names c = λ placed. no_clash c.args.marks.now.rows.now c.deref.result.now
    (subst (λ (l : List Fault). AreClashes c.args.marks.now.rows.now l) (sym c.deref.ensures.value) (c.in_ok-faults.ensures placed)) (c.first_broken.ensures.none.0 c.in-None.is)
