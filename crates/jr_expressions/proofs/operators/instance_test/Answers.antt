use Rattle.std.proofs.Common.{sym, ◌∙◌, ap}
use Rattle.std.proofs.lemmas.Result.{on_ok_weaker}
use Rattle.jr_plain.specs.Types.{type_at}
use Rattle.jr_codes.specs.Reads.{rows_of, table_of}
use Rattle.jr_expressions.proofs.Operated.{instance_becomes, two_counted}
use Rattle.jr_expressions.proofs.operators.instance_test.Goals as goal

pub returns : goal.returns
returns c = on_ok_weaker c.push.result (λ pushed. instance_becomes (λ read. ap (type_at (rows_of c.args.source.now) (table_of c.args.source.now)) (sym (c.second.ensures (two_counted read))) ∙ c.in_ok-tested.ensures read.sized.few) c.in_ok-value.ensures (rw c.in_ok-ty.ensures at pushed)) c.push.ensures
