use Rattle.std.proofs.Common.{◌∙◌, ap, flat_map}
use Rattle.jr_codes.specs.Reads.{facts}
use Rattle.jr_elab.specs.Stacked.{parameter_if}
use Rattle.jr_elab.proofs.Callable.{parameters_are}
use Rattle.jr_elab.proofs.bodies.parameters.Goals as goal

pub returns : goal.returns
returns c = c.in_ok-all.ensures ∙ ap (flat_map (parameter_if (facts c.args.source.now))) (c.deref.ensures.value ∙ c.in_ok-rows.ensures) ∙ parameters_are (facts c.args.source.now) _
