-- What stands at the offsets of the requests.
use Rattle.std.proofs.Common.{refl, arith}
use Rattle.std.proofs.lemmas.Fmt.{decimal_digit}
use Rattle.jr_gen.specs.Workspace.{head_of, step_of, tail_of}
use Rattle.jr_gen.specs.Requests.{ArePlaces}

pub are_places : ArePlaces
unfolding head_of step_of tail_of
are_places = record {
  parameter = rw (decimal_digit 0 (omega arith)) refl;
  class = rw (decimal_digit 0 (omega arith)) refl;
  statement = rw (decimal_digit 0 (omega arith)) refl;
}
