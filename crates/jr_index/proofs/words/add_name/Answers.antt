use Rattle.std.proofs.Common.{rules}
use Rattle.jr_index.proofs.Adding.{adds_two, are}
use Rattle.jr_index.proofs.words.add_name.Goals as goal

pub returns : goal.returns
returns c = are (adds_two c.open_parts.ensures c.close_parts.ensures) (search rules)
