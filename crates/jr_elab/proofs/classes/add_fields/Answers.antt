use Rattle.std.proofs.Common.{refl, arith}
use Rattle.std.proofs.lemmas.List.{drop_more, drop_all}
use Rattle.jr_codes.specs.Reads.{facts}
use Rattle.jr_elab.specs.Cores.{field_if}
use Rattle.jr_elab.proofs.Each.{flat_more, flat_end}
use Rattle.jr_elab.proofs.classes.add_fields.Goals as goal

pub loop-row-init : goal.loop-row-init
loop-row-init c = refl

pub loop-row-preserved : goal.loop-row-preserved
loop-row-preserved c = flat_more (field_if (facts c.args.source.now)) _ _ _ _ _ _ (drop_more c.args.rows.now c.loop-row.row-index _ (omega arith)) c.in_ok-add_field.ensures c.loop-row.invariant

pub returns : goal.returns
returns c = flat_end (field_if (facts c.args.source.now)) _ _ _ (drop_all c.loop-row.row-index c.args.rows.now (omega arith)) c.loop-row.invariant
