use Rattle.std.proofs.Common.{◌∙◌, ap, flat_map}
use Rattle.jr_codes.specs.Reads.{facts}
use Rattle.jr_elab.specs.Cores.{members_at}
use Rattle.jr_elab.proofs.Each.{tail_same}
use Rattle.jr_elab.proofs.classes.add_body.Goals as goal

pub returns : goal.returns
returns c = tail_same _ _ _ _ c.in_ok-add_all.ensures (ap (flat_map (members_at (facts c.args.source.now))) (c.deref.ensures.value ∙ c.in_ok-rows.ensures))
