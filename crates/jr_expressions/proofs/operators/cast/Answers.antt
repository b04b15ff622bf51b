use Rattle.std.proofs.Common.{sym, ◌∙◌, ap, true, false}
use Rattle.std.proofs.lemmas.Result.{on_ok_weaker}
use Rattle.jr_plain.specs.Types.{type_at}
use Rattle.jr_codes.specs.Reads.{rows_of, table_of}
use Rattle.jr_expressions.proofs.Operated.{cast_becomes, one_counted}
use Rattle.jr_expressions.proofs.operators.cast.Goals as goal

pub returns-then-is_reference : goal.returns-then-is_reference
returns-then-is_reference c = on_ok_weaker c.reference_cast.result (cast_becomes true (λ read. ap (type_at (rows_of c.args.source.now) (table_of c.args.source.now)) (sym (c.first.ensures (one_counted read))) ∙ c.in_ok-to.ensures read.sized.few) (sym c.is_reference.ensures ∙ c.if-is_reference.true)) c.reference_cast.ensures

pub returns-else-is_reference : goal.returns-else-is_reference
returns-else-is_reference c = on_ok_weaker c.plain_cast.result (cast_becomes false (λ read. ap (type_at (rows_of c.args.source.now) (table_of c.args.source.now)) (sym (c.first.ensures (one_counted read))) ∙ c.in_ok-to.ensures read.sized.few) (sym c.is_reference.ensures ∙ c.if-is_reference.false)) c.plain_cast.ensures
