use Rattle.jr_local_rows.proofs.OfRows.{each_try_has_a_block}
use Rattle.jr_local_rows.proofs.law.tries_have_blocks.Goals as goal

pub returns : goal.returns
returns c = each_try_has_a_block
