use Rattle.std.proofs.Common.{◌≡◌, true, drop}
use Rattle.jr_extract.specs.Running.{holds}
use Rattle.jr_extract.specs.Throwing.{IsReading, is_told, with_classes}
use Rattle.jr_extract.proofs.thrown.Reading.add_classes.Given as goal

abbrev pub invariant-loop-class : goal.invariant-loop-class
invariant-loop-class l = IsReading l.self → holds l.self.run l.at ≡ true → with_classes (is_told l.self l.at) (drop l.class-index l.classes) l.all.items ≡ with_classes (is_told l.self l.at) l.classes l.fn.all.items
