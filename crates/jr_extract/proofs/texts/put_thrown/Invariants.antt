use Rattle.std.proofs.Common.{◌≡◌, ◌++◌, codes, drop}
use Rattle.jr_tree.specs.Rows.{name}
use Rattle.jr_extract.specs.Writing.{separated}
use Rattle.jr_extract.proofs.texts.put_thrown.Given as goal

abbrev pub invariant-loop-class : goal.invariant-loop-class
invariant-loop-class l = l.text.items ++ separated l.lead (name l.rows) (drop l.class-index l.classes) ≡ l.fn.text.items ++ separated (codes " throws ") (name l.rows) l.classes
