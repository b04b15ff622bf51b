use Rattle.std.proofs.Common.{Some}
use Rattle.std.proofs.lemmas.Bool.Decides.{Decides-eqb, not_from_Decides}
use Rattle.std.proofs.lemmas.Slice.Eq.{strip_suffix_is}
use Rattle.jr_front.proofs.Placing.{slash_tells}
use Rattle.jr_front.proofs.placed.file_name.Goals as goal

pub returns : goal.returns
returns c = record {
  plain_file = not_from_Decides c.contains.result (slash_tells c.in_ok-file.file.now c.contains.result c.contains.ensures.cases) c.if-contains.false;
  stands = strip_suffix_is Decides-eqb c.args.rest.now _ (Some c.in_ok-file.file) c.in_ok-file.ensures.cases;
}
