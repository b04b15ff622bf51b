use Rattle.std.proofs.Common.{◌∙◌}
use Rattle.jr_lookup.proofs.Instancing.{around_is}
use Rattle.jr_type_facts.specs.Facts.{rows_of}
use Rattle.jr_type_faults.proofs.objects.innermost.Goals as goal

pub returns : goal.returns
returns c = λ right. c.around.ensures ∙ around_is (rows_of c.args.facts.now) c.args.facts.now.view.sight.world.under.places.now right.seen.placed c.args.at
