use Rattle.jr_assign.specs.Made.{AreBuilt}
use Rattle.jr_assign.proofs.fields.built.Given as goal

abbrev pub invariant-loop-inside : goal.invariant-loop-inside
invariant-loop-inside l = AreBuilt l.group l.body l.inside l.start l.word
