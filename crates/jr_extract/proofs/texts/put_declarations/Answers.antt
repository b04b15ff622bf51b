use Rattle.std.proofs.Common.{arith}
use Rattle.std.proofs.lemmas.List.{drop_more, drop_all}
use Rattle.jr_extract.specs.Writing.{declaration_text}
use Rattle.jr_extract.proofs.Adding.{flat_end, flat_next}
use Rattle.jr_extract.proofs.texts.put_declarations.Goals as goal

pub loop-variable-preserved : goal.loop-variable-preserved
loop-variable-preserved c = flat_next (declaration_text c.args.rows.now) _ _ _ _ _ _ (drop_more c.args.variables.now c.loop-variable.variable-index _ (omega arith)) c.in_ok-put_declaration.ensures c.loop-variable.invariant

pub returns : goal.returns
returns c = flat_end (declaration_text c.args.rows.now) _ _ _ (drop_all c.loop-variable.variable-index c.args.variables.now (omega arith)) c.loop-variable.invariant
