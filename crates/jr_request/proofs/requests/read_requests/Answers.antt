use Rattle.std.proofs.lemmas.Result.{err_from_is_err_and}
use Rattle.jr_request.proofs.Answering.{answers_input, only_input, leaves_input, leaves_given_up}
use Rattle.jr_request.proofs.requests.read_requests.Goals as goal

pub returns-in_err-bytes-clause-left : goal.returns-in_err-bytes-clause-left
returns-in_err-bytes-clause-left g c =
    let p = err_from_is_err_and c.from_residual.result c.from_residual.ensures.1 in
    rw (p.1, p.2) (leaves_given_up (g.I.Source.left c.args.input.now) (g.I.Source.left c.read_input.new.input) c.in_err-bytes.field-0.0 c.in_err-bytes.ensures.front)

pub returns-clause-answer : goal.returns-clause-answer
returns-clause-answer g c =
    answers_input (g.I.Source.left c.args.input.now) (g.I.Source.left c.read_input.new.input) c.in_ok-bytes.bytes.items c.requests_of.result c.in_ok-bytes.ensures.front
    (rw c.deref.ensures.value at c.requests_of.ensures.answer)

pub returns-clause-only : goal.returns-clause-only
returns-clause-only g c =
    only_input (g.I.Source.left c.args.input.now) (g.I.Source.left c.read_input.new.input) c.in_ok-bytes.bytes.items c.requests_of.result c.in_ok-bytes.ensures.front
    (rw c.deref.ensures.value at c.requests_of.ensures.only)

pub returns-clause-left : goal.returns-clause-left
returns-clause-left g c =
    leaves_input (g.I.Source.left c.args.input.now) (g.I.Source.left c.read_input.new.input) c.in_ok-bytes.bytes.items c.requests_of.result c.in_ok-bytes.ensures.front
