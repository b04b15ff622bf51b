use Rattle.std.proofs.Common.{◌+◌, ◌≤◌, length, take, arith, length-take}
use Rattle.std.proofs.lemmas.Result.{err_from_is_err_and}
use Rattle.jr_request.proofs.Fronts.{gives_up}
use Rattle.jr_request.proofs.input.read_front.Goals as goal

pub returns-in_err-count-clause-front : goal.returns-in_err-count-clause-front
returns-in_err-count-clause-front g c =
    let left = g.I.Source.left in
    let loop = c.loop-bytes in
    let part = take c.min-room.result loop.buffer in
    let fits : length loop.bytes.items + length part ≤ c.args.most = omega (arith, length-take c.min-room.result loop.buffer) in
    let p = err_from_is_err_and c.from_residual.result c.from_residual.ensures.1 in
    rw (p.1, p.2) (gives_up c.args.most (length part) (left c.args.input.now) (left loop.input) (left c.read_part.new.input) loop.bytes.items c.read_part.new.bytes.items
    c.in_err-count.field-0.0 loop.invariant.taken fits c.in_err-count.ensures.part)
