use Rattle.std.proofs.Common.{◌≡◌, ◌≤◌, ◌++◌, drop}
use Rattle.jr_base.specs.Files.{plain}
use Rattle.jr_engine.specs.Texts.{AreSmall, changed_files}
use Rattle.jr_engine.proofs.texts.changed_texts.Given as goal

abbrev pub invariant-loop-changed : goal.invariant-loop-changed
invariant-loop-changed l = record {
  files : plain l.texts.items ++ changed_files l.units (drop l.changed-index l.change.units.items) ≡ changed_files l.units l.change.units.items;
  small : AreSmall (plain l.texts.items);
  left : l.left ≤ 67108864;
}
