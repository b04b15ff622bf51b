use Rattle.std.proofs.lemmas.Result.{on_ok_weaker}
use Rattle.jr_plain.specs.Types.{type_of_declared}
use Rattle.jr_codes.specs.Reads.{rows_of, table_of}
use Rattle.jr_elab.proofs.Stacking.{catch_does}
use Rattle.jr_elab.proofs.jumps.catch.Goals as goal

pub returns : goal.returns
returns c = on_ok_weaker c.push.result (λ pushed labels groups. catch_does (type_of_declared (rows_of c.args.source.now) (table_of c.args.source.now)) labels groups c.first-parameter.ensures c.end.ensures (λ read. c.in_ok-class.ensures _ read) c.decl-param.ensures c.in_ok-body.ensures pushed) c.push.ensures
