use Rattle.std.proofs.Common.{inl, Ok, Err, arith}
use Rattle.jr_request.specs.declared.fault.RequestFault.TheVariants.{BadField}
use Rattle.jr_request.proofs.Answering.{many_one, reading_one}
use Rattle.jr_request.proofs.requests.requests_of.Goals as goal

pub returns-then-len-clause-only : goal.returns-then-len-clause-only
returns-then-len-clause-only c answer q =
    inl (many_one c.args.bytes.now c.in-Ok.requests answer (omega arith) c.in-Ok.ensures.answer (omega arith) q)

pub returns-else-len-clause-only : goal.returns-else-len-clause-only
returns-else-len-clause-only c answer q =
    inl (reading_one c.args.bytes.now (Ok c.in-Ok.requests) answer (omega arith) c.in-Ok.ensures.answer tt (omega arith) q)

pub returns-in-Err-BadField-clause-only : goal.returns-in-Err-BadField-clause-only
returns-in-Err-BadField-clause-only c answer q =
    inl (reading_one c.args.bytes.now (Err (BadField c.in-Err-BadField.request c.in-Err-BadField.field)) answer (omega arith)
    (rw c.in-Err-BadField.field-0-is at c.in-Err-BadField.ensures.answer) tt (omega arith) q)
