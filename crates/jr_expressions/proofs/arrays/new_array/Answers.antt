use Rattle.std.proofs.Common.{sym, ◌∙◌}
use Rattle.std.proofs.lemmas.Result.{on_ok_weaker}
use Rattle.jr_expressions.proofs.Initialized.{listed_becomes, counted_becomes}
use Rattle.jr_expressions.proofs.arrays.new_array.Goals as goal

pub returns-then-is_none : goal.returns-then-is_none
returns-then-is_none c = on_ok_weaker c.listed.result (listed_becomes c.args.count (sym c.is_none.ensures ∙ c.if-is_none.true)) c.listed.ensures

pub returns-else-is_none : goal.returns-else-is_none
returns-else-is_none c = on_ok_weaker c.measured.result (counted_becomes c.args.count (sym c.is_none.ensures ∙ c.if-is_none.false)) c.measured.ensures
