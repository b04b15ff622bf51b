use Rattle.std.proofs.Common.{◌∙◌, ap, flat_map}
use Rattle.jr_codes.specs.Reads.{facts}
use Rattle.jr_elab.specs.Cores.{field_if}
use Rattle.jr_elab.proofs.Each.{tail_same}
use Rattle.jr_elab.proofs.classes.add_fields_below.Goals as goal

pub returns : goal.returns
returns c = tail_same _ _ _ _ c.in_ok-add_fields.ensures (ap (flat_map (field_if (facts c.args.source.now))) (c.deref.ensures.value ∙ c.in_ok-rows.ensures))
