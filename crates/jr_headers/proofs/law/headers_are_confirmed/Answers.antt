use Rattle.jr_headers.proofs.Confirmed.{table_is, part_is, identifiers_are, types_are, edges_are}
use Rattle.jr_headers.proofs.law.headers_are_confirmed.Goals as goal

pub returns : goal.returns
returns c = record {
  table = λ p u rank o formed h. table_is p formed u rank h o;
  part = λ p u rank o formed h. part_is p formed u rank h o;
  identifiers = λ p u rank k n m formed h w i. identifiers_are p formed u rank h k n m w i;
  types = λ p u rank k formed h type. types_are p formed u rank h k type;
  edges = λ p u rank k s formed h. edges_are p formed u rank h k s;
}
