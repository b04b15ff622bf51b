use Rattle.jr_top.proofs.Returns.{renamed_back, replaced_back, undone_back}
use Rattle.jr_top.proofs.turns.an_undo_gives_back_what_was.Goals as goal

pub returns : goal.returns
returns c = record { renamed = renamed_back; replaced = replaced_back; undone = undone_back }
