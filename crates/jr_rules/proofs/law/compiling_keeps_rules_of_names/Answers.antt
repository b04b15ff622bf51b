use Rattle.std.proofs.Common.{inl}
use Rattle.jr_rules.proofs.law.compiling_keeps_rules_of_names.Goals as goal

pub returns : goal.returns
returns c = record {
  fewer = λ found program t h. record {
    reads = h.reads;
    placed = h.placed;
    keeps = record { binding = h.keeps.binding; found = h.keeps.found; kept = λ rule place b. h.keeps.kept rule place (inl b) };
  };
}
