use Rattle.std.proofs.Common.{◌≡◌, ◌∙◌, sym, ap, subst, IfOk, [], List}
use Rattle.jr_core.specs.declared.code.Code as declared_code
use Rattle.jr_core.specs.Mirror as m
use Rattle.jr_core.specs.Mirror.{Code, plain_code, plain_codes, plain_any_code}
use Rattle.jr_machine_defs.specs.Classes.{body_in}
use Rattle.jr_machine_defs.specs.Parts.{codes_count}
use Rattle.jr_machine_defs.specs.Calls.{calls}
use Rattle.jr_machine_defs.specs.States.{with_some}
use Rattle.jr_machine_defs.specs.Finishing.{finishes}
use Rattle.jr_machine_defs.specs.Follows.{Follows}
use Rattle.jr_machine.proofs.Viewing.{call_view}
use Rattle.jr_machine.proofs.finishing.finish.Goals as goal

pub returns-in-Call : goal.returns-in-Call
returns-in-Call c =
    let core = c.args.program.now in
    let s = c.args.state.now in
    let new = c.finish_call.new.state in
    let view = ap plain_code c.in-Call.is ∙ call_view c.in-Call.receiver c.in-Call.is_super c.in-Call.method c.in-Call.args in
    let P : Code → Type 0 = λ x. IfOk c.finish_call.result (λ went. Follows (finishes core x s) went s new) in
    let Q : List declared_code.Code → Type 0 = λ a. IfOk c.finish_call.result (λ went.
    Follows (with_some (codes_count (plain_codes a)) [] s.frame.values s (calls core (body_in core c.in-Call.method) (plain_any_code c.in-Call.receiver) c.in-Call.is_super)) went s new) in
    subst P (sym view) (subst Q c.as_slice.ensures c.finish_call.ensures)
