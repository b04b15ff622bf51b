use Rattle.std.proofs.Common.{◌∙◌, ap, flat_map}
use Rattle.jr_codes.specs.Reads.{facts}
use Rattle.jr_elab.specs.Cores.{members_in}
use Rattle.jr_elab.proofs.classes.members.Goals as goal

pub returns : goal.returns
returns c = c.in_ok-all.ensures ∙ ap (flat_map (members_in (facts c.args.source.now) c.args.at)) (c.deref.ensures.value ∙ c.in_ok-rows.ensures)
