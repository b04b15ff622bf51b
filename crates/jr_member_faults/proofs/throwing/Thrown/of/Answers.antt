use Rattle.jr_member_faults.proofs.throwing.Thrown.of.Goals as goal

pub returns : goal.returns
returns c = record {
  names_are = c.in_ok-names.ensures;
  throwables_are = c.in_ok-throwables.ensures;
  errors_are = c.in_ok-errors.ensures;
  runtimes_are = c.in_ok-runtimes.ensures;
}
