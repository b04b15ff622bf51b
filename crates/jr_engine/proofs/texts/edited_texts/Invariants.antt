use Rattle.std.proofs.Common.{◌≡◌, ◌≤◌, ◌++◌, drop}
use Rattle.jr_base.specs.Files.{plain}
use Rattle.jr_engine.specs.Texts.{AreSmall, edited_files}
use Rattle.jr_engine.proofs.texts.edited_texts.Given as goal

abbrev pub invariant-loop-unit : goal.invariant-loop-unit
invariant-loop-unit l = record {
  files : plain l.texts.items ++ edited_files (drop l.unit-index l.units) l.rest ≡ edited_files l.units l.edits;
  small : AreSmall (plain l.texts.items);
  left : l.left ≤ 67108864;
}
