use Rattle.jr_engine.proofs.sound.is_sound.Goals as goal

pub returns-then-are_as_in_programs-clause-ok : goal.returns-then-are_as_in_programs-clause-ok
returns-then-are_as_in_programs-clause-ok c = record {
  few = c.are_as_in_programs.ensures.few c.if-are_as_in_programs.true;
  few_new = c.are_as_in_programs.ensures.few_new c.if-are_as_in_programs.true;
  well = c.are_as_in_programs.ensures.well c.if-are_as_in_programs.true;
  locks = c.are_as_in_programs.ensures.locks c.if-are_as_in_programs.true;
}
