use Rattle.std.proofs.Common.{arith}
use Rattle.jr_supers.proofs.Signing.{continues_type}
use Rattle.jr_supers.proofs.signatures.with_type.Goals as goal

pub returns : goal.returns
returns c = λ h. let f = c.in_ok-kind.ensures h in let g = c.in_ok-class.ensures f.counted in continues_type {a = c.args.numbers.now} {b = c.number.new.self} {c = c.number-2.new.self} {d = c.number-3.new.self} {list = c.args.list} {kind = c.in_ok-kind.kind} {class = c.in_ok-class.class} {n = c.in_ok-number.number} {dims = c.in-Ok.dims} c.args.ty _ _ c.kind_of.ensures c.row_of.ensures (omega arith) f g (c.in_ok-number.ensures g.counted)
