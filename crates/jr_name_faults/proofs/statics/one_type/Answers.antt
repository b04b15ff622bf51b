use Rattle.std.proofs.Common.{sym, ◌∙◌}
use Rattle.jr_name_faults.specs.Imports.{rows_of, table_of}
use Rattle.jr_name_faults.proofs.Bringing.{finds_top, finds_single, finds_none}
use Rattle.jr_name_faults.proofs.statics.one_type.Goals as goal

pub returns-then-is_top_level : goal.returns-then-is_top_level
returns-then-is_top_level c = λ tabled other. finds_top (rows_of c.args.world.now) (table_of c.args.world.now) c.args.at other (sym c.if-is_top_level.true ∙ c.is_top_level.ensures)

pub returns-then-is_single : goal.returns-then-is_single
returns-then-is_single c = λ tabled other. finds_single (rows_of c.args.world.now) (table_of c.args.world.now) c.args.at other tabled.right.seen.placed.local _ (c.named_type.ensures tabled.few) (sym c.if-is_single.true ∙ c.is_single.ensures)

pub returns : goal.returns
returns c = λ tabled other. finds_none (rows_of c.args.world.now) (table_of c.args.world.now) c.args.at other (sym c.is_top_level.ensures ∙ c.if-is_top_level.false) (sym c.is_single.ensures ∙ c.if-is_single.false)
