use Rattle.std.proofs.lemmas.Bool.Decides.{Decides-eqb}
use Rattle.std.proofs.lemmas.Slice.Eq.{strip_suffix_is}
use Rattle.jr_names.proofs.Paths.{stripped, not_stripped}
use Rattle.jr_names.proofs.units.before.Goals as goal

pub returns-clause-some : goal.returns-clause-some
returns-clause-some c = stripped c.args.path.now c.args.tail.now c.strip_suffix.result (strip_suffix_is Decides-eqb c.args.path.now c.args.tail.now c.strip_suffix.result c.strip_suffix.ensures.cases)

pub returns-clause-none : goal.returns-clause-none
returns-clause-none c = not_stripped c.args.path.now c.args.tail.now c.strip_suffix.result (strip_suffix_is Decides-eqb c.args.path.now c.args.tail.now c.strip_suffix.result c.strip_suffix.ensures.cases)
